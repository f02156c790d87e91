-- Records read from words: their kinds, whether they are sound, and the B of a transaction.
use Prim.Native.Nat.{ℕ, zero, suc, ◌+◌, ◌-◌, ◌≤◌, ◌<◌}
use mathlib.Core.Path.{◌≡◌, refl, sym, ap, ◌∙◌, subst}
use mathlib.Core.Logic.{◌⊎◌, ⊎_elim}
use mathlib.Core.Bool.{Bool, true, false, not}
use mathlib.Core.List.{List, [], ◌∷◌, map}
use native.Mathlib.Omega.{arith}
use lib.Dec.{eqb, leb, ltb}
use lib.ListN.{length, take, get_or, length-append, get_or-append}
use lib.Seq.{get_or-append-add}
use Rattle.std.proofs.lemmas.List.{get_or_default}
use Rattle.std.proofs.lemmas.List.FromFn.{length-range_with_len, get_or-range_with_len}
use Rattle.std.specs.Prelude.{Option, Some, None}
use Rattle.std.specs.Option.{option_map}
use borrow.Author.Tests.{eqb-true, eqb-false, eq-eqb, ne_eqb, le-leb, lt-leb}
use Rattle.std.specs.List.{list_all, list_any, find, range_with_len}
use Rattle.base.specs.Choice.{pick, both, either}
use Rattle.base.specs.Record.{Entry, Rec, E, B, «V», X, same}
use Rattle.base.proofs.Choice.{tests, case, le-or-lt, either_left, either-right}
use Rattle.trace.specs.Rules.{Past, less, any_b, sound, all_sound}
use Rattle.trace.specs.Fold.{mem}
use Rattle.trace.specs.Words.{Within, kind_of, who_of, epoch_at, counter_at, entry_at, rec_at, recs_from, past_at, known_at, all_known, submits, road}
use Rattle.trace.specs.Step.{Source, late_of}

-- ---- kinds

module _ (w : List ℕ) (i : ℕ) where
  pub rec-e : kind_of w i ≡ 1 → rec_at w i ≡ E (who_of w i) (epoch_at w i)
  unfolding rec_at pick
  rec-e k = rw (eq-eqb (kind_of w i) 1 k)

  pub rec-b : kind_of w i ≡ 2 → rec_at w i ≡ B (who_of w i) (entry_at w i)
  unfolding rec_at pick
  rec-b k = let n : kind_of w i ≡ 1 → ⊥ = λ q. omega arith in rw (ne_eqb (kind_of w i) 1 n, eq-eqb (kind_of w i) 2 k)

  pub rec-v : kind_of w i ≡ 3 → rec_at w i ≡ «V» (who_of w i) (entry_at w i)
  unfolding rec_at pick
  rec-v k =
      let n : kind_of w i ≡ 1 → ⊥ = λ q. omega arith in
      let m : kind_of w i ≡ 2 → ⊥ = λ q. omega arith in
      rw (ne_eqb (kind_of w i) 1 n, ne_eqb (kind_of w i) 2 m, eq-eqb (kind_of w i) 3 k)

  pub rec-x : (kind_of w i ≡ 1 → ⊥) → (kind_of w i ≡ 2 → ⊥) → (kind_of w i ≡ 3 → ⊥) → rec_at w i ≡ X (who_of w i) (epoch_at w i)
  unfolding rec_at pick
  rec-x n m l = rw (ne_eqb (kind_of w i) 1 n, ne_eqb (kind_of w i) 2 m, ne_eqb (kind_of w i) 3 l)

  -- to prove P of a record: of each kind
  pub by_kind : (P : Rec → Type 0) → (kind_of w i ≡ 1 → P (E (who_of w i) (epoch_at w i))) → (kind_of w i ≡ 2 → P (B (who_of w i) (entry_at w i)))
      → (kind_of w i ≡ 3 → P («V» (who_of w i) (entry_at w i))) → ((kind_of w i ≡ 1 → ⊥) → (kind_of w i ≡ 2 → ⊥) → (kind_of w i ≡ 3 → ⊥) → P (X (who_of w i) (epoch_at w i))) → P (rec_at w i)
  by_kind P e b v x =
      case (eqb (kind_of w i) 1) (λ q. let k = eqb-true (kind_of w i) 1 q in subst P (sym (rec-e k)) (e k)) (λ q1.
      case (eqb (kind_of w i) 2) (λ q. let k = eqb-true (kind_of w i) 2 q in subst P (sym (rec-b k)) (b k)) (λ q2.
      case (eqb (kind_of w i) 3) (λ q. let k = eqb-true (kind_of w i) 3 q in subst P (sym (rec-v k)) (v k)) (λ q3.
      subst P (sym (rec-x (eqb-false (kind_of w i) 1 q1) (eqb-false (kind_of w i) 2 q2) (eqb-false (kind_of w i) 3 q3))) (x (eqb-false (kind_of w i) 1 q1) (eqb-false (kind_of w i) 2 q2) (eqb-false (kind_of w i) 3 q3)))))

-- ---- soundness

some : (c : ℕ) → leb 1 c ≡ not (eqb c 0)
some c = case (eqb c 0) (λ p. rw p (lt-leb 1 c (omega tests))) (λ p. rw p (le-leb 1 c (omega tests)))

and-true : (b : Bool) → both b true ≡ b
unfolding both
and-true true = refl
and-true false = refl

module _ (n : ℕ) (w : List ℕ) (i : ℕ) where
  pub sound-x : kind_of w i ≡ 4 → true ≡ both (known_at w i) (sound n (rec_at w i))
  unfolding known_at both
  sound-x e = rw (rec-x w i (λ d. omega arith) (λ d. omega arith) (λ d. omega arith), e)

  pub sound-none : (kind_of w i ≡ 0) ⊎ (4 < kind_of w i) → false ≡ both (known_at w i) (sound n (rec_at w i))
  unfolding known_at both
  sound-none = ⊎_elim (λ e. rw e) (λ h. rw (le-leb 1 (kind_of w i) (omega arith), lt-leb (kind_of w i) 4 h))

  -- of an E, a B or a V
  module _ (low : 1 ≤ kind_of w i) (high : kind_of w i ≤ 3) where
    known : known_at w i ≡ true
    unfolding known_at both
    known = rw (le-leb 1 (kind_of w i) low, le-leb (kind_of w i) 4 (omega arith))

    pub sound-as : both (known_at w i) (sound n (rec_at w i)) ≡ both (ltb (who_of w i) n) (both (not (eqb (epoch_at w i) 0)) (either (eqb (kind_of w i) 1) (not (eqb (counter_at w i) 0))))
    unfolding both either
    sound-as = rw known (by_kind w i (λ r. sound n r ≡ both (ltb (who_of w i) n) (both (not (eqb (epoch_at w i) 0)) (either (eqb (kind_of w i) 1) (not (eqb (counter_at w i) 0)))))
        (λ k. rw (eq-eqb (kind_of w i) 1 k, some (epoch_at w i)) (ap (both (ltb (who_of w i) n)) (sym (and-true (not (eqb (epoch_at w i) 0))))))
        (λ k. let d : kind_of w i ≡ 1 → ⊥ = λ q. omega arith in rw (ne_eqb (kind_of w i) 1 d, some (epoch_at w i), some (counter_at w i)))
        (λ k. let d : kind_of w i ≡ 1 → ⊥ = λ q. omega arith in rw (ne_eqb (kind_of w i) 1 d, some (epoch_at w i), some (counter_at w i)))
        (λ a b d. absurd (omega arith)))

-- ---- all records sound

mix : (a b c d : Bool) → both (both a c) (both b d) ≡ both (both a b) (both c d)
unfolding both
mix true true c d = refl
mix true false true d = refl
mix true false false d = refl
mix false b c d = refl

pub all-listed : (n : ℕ) (w : List ℕ) (k i : ℕ) → list_all (λ j. both (known_at w j) (sound n (rec_at w j))) (range_with_len i k) ≡ both (all_known w i k) (all_sound n (recs_from w i k))
unfolding both
all-listed n w zero i = refl
all-listed n w (suc k) i =
    let y : i + 1 ≡ suc i = omega arith in
    ap (λ (b : Bool). both (both (known_at w i) (sound n (rec_at w i))) b) (all-listed n w k (i + 1)) ∙ rw y (sym (mix (known_at w i) (sound n (rec_at w i)) (all_known w (suc i) k) (all_sound n (recs_from w (suc i) k))))

-- ---- the B of a transaction

any_step : (w : List ℕ) (i j : ℕ) (p : Past) → any_b (entry_at w i) (rec_at w j ∷ p) ≡ either (submits w i j) (any_b (entry_at w i) p)
unfolding submits both either
any_step w i j p = by_kind w j (λ r. any_b (entry_at w i) (r ∷ p) ≡ either (submits w i j) (any_b (entry_at w i) p))
    (λ k. let n : kind_of w j ≡ 2 → ⊥ = λ q. omega arith in rw (ne_eqb (kind_of w j) 2 n))
    (λ k. rw (eq-eqb (kind_of w j) 2 k))
    (λ k. let n : kind_of w j ≡ 2 → ⊥ = λ q. omega arith in rw (ne_eqb (kind_of w j) 2 n))
    (λ _ n _. rw (ne_eqb (kind_of w j) 2 n))

nor : (a b : Bool) → a ≡ false → b ≡ false → either a b ≡ false
unfolding either
nor a b p q = rw (p, q)

module _ (w : List ℕ) (i : ℕ) where
  any_at : (m j : ℕ) → m < j → submits w i m ≡ true → any_b (entry_at w i) (past_at w j) ≡ true
  any_at m zero h s = absurd (omega arith)
  any_at m (suc j) h s = any_step w i j (past_at w j) ∙ go (any_at m j) (eqb m j) refl
    where
      go : (m < j → submits w i m ≡ true → any_b (entry_at w i) (past_at w j) ≡ true) → (b : Bool) → eqb m j ≡ b → either (submits w i j) (any_b (entry_at w i) (past_at w j)) ≡ true
      go ih true e = either_left (submits w i j) _ (subst (λ (k : ℕ). submits w i k ≡ true) (eqb-true m j e) s)
      go ih false e = either-right (submits w i j) _ (ih (omega tests) s)

  none_any : (j : ℕ) → ((m : ℕ) → m < j → submits w i m ≡ false) → any_b (entry_at w i) (past_at w j) ≡ false
  none_any zero h = refl
  none_any (suc j) h = any_step w i j (past_at w j) ∙ nor (submits w i j) (any_b (entry_at w i) (past_at w j)) (h j (omega arith)) (none_any j (λ m l. h m (omega arith)))

-- the first of a list that passes a test
found-at : (p : ℕ → Bool) (xs : List ℕ) (k : ℕ) → find p xs ≡ Some k → (p k ≡ true) × ((j : ℕ) × (j < length xs) × (k ≡ get_or xs j 0))
found-at p [] k e = cc
found-at p (x ∷ xs) k e = case (p x)
    (λ q. let y = rw q at e in let z : k ≡ x = cc in (rw z q, (0, omega arith, z)))
    (λ q. let r = found-at p xs k (rw q at e) in (r.0, (suc r.1.0, omega (arith, r.1.1), r.1.2)))

found-none : (p : ℕ → Bool) (xs : List ℕ) → find p xs ≡ None → (j : ℕ) → j < length xs → p (get_or xs j 0) ≡ false
found-none p [] e j h = absurd (omega arith)
found-none p (x ∷ xs) e zero h = case (p x) (λ q. let y = rw q at e in cc) (λ q. q)
found-none p (x ∷ xs) e (suc j) h = case (p x) (λ q. let y = rw q at e in cc) (λ q. found-none p xs (rw q at e) j (omega arith))

-- the records before record i, those from `seen` on first
module _ (i seen : ℕ) (h : seen ≤ i) where
  road-length : length (road i seen) ≡ i
  road-length = length-append (range_with_len seen (i - seen)) (range_with_len 0 seen) ∙ omega (arith, length-range_with_len seen (i - seen), length-range_with_len 0 seen)

  front : (j : ℕ) → j < i - seen → get_or (road i seen) j 0 ≡ seen + j
  front j l = get_or-append (range_with_len seen (i - seen)) (range_with_len 0 seen) 0 j (omega (arith, length-range_with_len seen (i - seen))) ∙ get_or-range_with_len seen (i - seen) j 0 l

  back : (j : ℕ) → j < seen → get_or (road i seen) (i - seen + j) 0 ≡ j
  back j l =
      let z : length (range_with_len seen (i - seen)) ≡ i - seen = length-range_with_len seen (i - seen) in
      subst (λ (m : ℕ). get_or (road i seen) (m + j) 0 ≡ j) z (get_or-append-add (range_with_len seen (i - seen)) (range_with_len 0 seen) j 0 ∙ get_or-range_with_len 0 seen j 0 l ∙ omega arith)

  road-low : (j : ℕ) → j < length (road i seen) → get_or (road i seen) j 0 < i
  road-low j l = ⊎_elim
      (λ (x : i - seen ≤ j). let z : i - seen + (j - (i - seen)) ≡ j = omega arith in
      let y : j - (i - seen) < seen = omega (arith, road-length) in
      subst (λ (m : ℕ). get_or (road i seen) m 0 < i) z (omega (arith, back (j - (i - seen)) y)))
      (λ (x : j < i - seen). omega (arith, front j x))
      (le-or-lt (i - seen) j)

  pub road-within : (w : List ℕ) (x j : ℕ) → Within w i → j < length (road i seen) → x ≡ get_or (road i seen) j x → Within w x
  road-within w x j g l e =
      let z : x ≡ get_or (road i seen) j 0 = e ∙ get_or_default (road i seen) j x 0 l in
      omega (arith, road-low j l)

  pub source-is : (w : List ℕ) (o : Option ℕ) → option_map (λ x. x) o ≡ find (submits w i) (road i seen) → Source w i o
  source-is w None e = none_any w i i (λ m l. ⊎_elim
      (λ (x : seen ≤ m). let z : seen + (m - seen) ≡ m = omega arith in
      ap (submits w i) (sym (front (m - seen) (omega arith) ∙ z)) ∙ found-none (submits w i) (road i seen) (sym e) (m - seen) (omega (arith, road-length)))
      (λ (x : m < seen). ap (submits w i) (sym (back m x)) ∙ found-none (submits w i) (road i seen) (sym e) (i - seen + m) (omega (arith, road-length)))
      (le-or-lt seen m))
  source-is w (Some k) e =
      let r = found-at (submits w i) (road i seen) k (sym e) in
      let l : k < i = omega (arith, r.1.2, road-low r.1.0 r.1.1) in
      (l, any_at w i k i l r.0)

pub source-first : (o p : Option ℕ) → option_map (λ x. x) o ≡ p → o ≡ p
source-first None p e = e
source-first (Some k) p e = e

-- ---- the longest, as records

pub mem-listed : (w : List ℕ) (t : Entry) (l : List ℕ) → mem t (map (entry_at w) l) ≡ list_any (λ j. same t (entry_at w j)) l
unfolding either
mem-listed w t [] = refl
mem-listed w t (j ∷ l) = ap (either (same t (entry_at w j))) (mem-listed w t l)

-- ---- rules 5 and 6 at a V that makes the longest longer

module _ (w sp : List ℕ) (i len top : ℕ) {b : Bool} {e : ℕ} (q : b ≡ pick (eqb len 0) true (less (entry_at w (get_or sp (len - 1) 0)) (entry_at w i))) (d : e ≡ epoch_at w i) where
  pub late-rises : b ≡ true → e < top → 5 ≡ late_of w sp i len top
  unfolding late_of pick
  late-rises y l = rw (← q, ← d, y, lt-leb top e l)

  pub late-none : b ≡ true → top ≤ e → 0 ≡ late_of w sp i len top
  unfolding late_of pick
  late-none y l = rw (← q, ← d, y, le-leb top e l)

  pub late-six : b ≡ false → top ≤ e → 6 ≡ late_of w sp i len top
  unfolding late_of pick either
  late-six y l = rw (← q, ← d, y, le-leb top e l)

  pub late-had : {m : Bool} → b ≡ false → e < top → m ≡ mem (entry_at w i) (map (entry_at w) (take len sp)) → m ≡ true → 6 ≡ late_of w sp i len top
  unfolding late_of pick either
  late-had y l p h = rw (← p, ← q, ← d, y, lt-leb top e l, h)

  pub late-new : {m : Bool} → b ≡ false → e < top → m ≡ mem (entry_at w i) (map (entry_at w) (take len sp)) → m ≡ false → 5 ≡ late_of w sp i len top
  unfolding late_of pick either
  late-new y l p h = rw (← p, ← q, ← d, y, lt-leb top e l, h)
