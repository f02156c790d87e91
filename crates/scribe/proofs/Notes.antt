-- The records of a history's places, written one after the other.
use Prim.Native.Nat.{ℕ, zero, suc, ◌+◌, ◌-◌, ◌*◌, ◌/◌, ◌%◌, ◌≤◌, ◌<◌}
use mathlib.Core.Path.{◌≡◌, refl, sym, ap, ◌∙◌}
use mathlib.Core.Logic.{◌≢◌, ◌⊎◌, inl, inr}
use mathlib.Core.Bool.{Bool, true, false}
use mathlib.Core.List.{List, [], ◌∷◌, ◌++◌, map, append_assoc, append-nil}
use native.Mathlib.Omega.{arith}
use lib.ListN.{length, take, drop, get_or, take-append-drop}
use lib.Seq.{drop-drop, get_or-drop}
use borrow.Author.Tests.{eq-eqb, ne_eqb}
use Rattle.base.specs.Choice.{pick, both}
use Rattle.base.specs.Record.{Rec, E, B, «V»}
use Rattle.rules.specs.declared.State.{State}
use Rattle.rules.specs.Words.{txn_at, txns, put}
use Rattle.script.specs.Text.{bytes_of, Wrote}
use Rattle.script.proofs.Texts.{wrote_then}
use Rattle.scribe.specs.Telling.{text, marked, notes, entered, done_by}

pub text-append : (xs ys : List Rec) → text (xs ++ ys) ≡ text xs ++ text ys
unfolding text
text-append [] ys = refl
text-append (x ∷ xs) ys = ap (λ (l : List ℕ). bytes_of x ++ l) (text-append xs ys) ∙ sym (append_assoc (bytes_of x) (text xs) (text ys))

pub text-one : (x : Rec) → text (x ∷ []) ≡ bytes_of x
unfolding text
text-one x = append-nil (bytes_of x)

notes-snoc : (b : Bool) (who : ℕ) (h : List ℕ) (j n : ℕ) → notes b who h j (suc n) ≡ notes b who h j n ++ (marked b who (txn_at (drop (2 * (j + n)) h)) ∷ [])
unfolding notes
notes-snoc b who h j zero = let e : j ≡ j + 0 = omega arith in ap (λ (k : ℕ). marked b who (txn_at (drop (2 * k) h)) ∷ []) e
notes-snoc b who h j (suc n) =
    let e : suc j + n ≡ j + suc n = omega arith in
    ap (λ (l : List Rec). marked b who (txn_at (drop (2 * j) h)) ∷ l) (notes-snoc b who h (suc j) n)
    ∙ ap (λ (k : ℕ). marked b who (txn_at (drop (2 * j) h)) ∷ (notes b who h (suc j) n ++ (marked b who (txn_at (drop (2 * k) h)) ∷ []))) e

-- ---- written

pub wrote_none : (q : List ℕ) (at : ℕ) → Wrote q at [] at q
unfolding put
wrote_none q at = let e : at ≡ at + 0 = omega arith in
    record { ends = e; bytes = sym (ap (λ (k : List ℕ). k ++ drop (at + 0) q) (append-nil (take at q)) ∙ ap (λ (k : ℕ). take at q ++ drop k q) (sym e) ∙ take-append-drop at q) }

-- the places from `from` up to j were written from `at` on
pub record Noted (b : Bool) (who : ℕ) (h : List ℕ) (from to : ℕ) (q : List ℕ) (at : ℕ) (q' : List ℕ) (end j : ℕ) : Type 0 where
  pub wrote : Wrote q at (text (notes b who h from (j - from))) end q'
  pub past : from ≤ j
  pub far : (j ≤ to) ⊎ (j ≡ from)
  pub most : end ≤ at + 96 * (j - from)
  pub same : length q' ≡ length q

module _ (b : Bool) (who : ℕ) (h : List ℕ) (from to : ℕ) (q : List ℕ) (at : ℕ) where
  pub notes-start : Noted b who h from to q at q at from
  unfolding notes text
  notes-start = let e : from - from ≡ 0 = omega arith in
      record { wrote = rw e (wrote_none q at); past = omega arith; far = inr refl; most = omega arith; same = refl }

  pub notes-on : (q' q'' : List ℕ) (end r j : ℕ) (x : Rec) → Noted b who h from to q at q' end j → j < to → at + 96 * 64 ≤ length q → x ≡ marked b who (txn_at (drop (2 * j) h)) → Wrote q' end (bytes_of x) r q'' → r ≤ end + 96 → length q'' ≡ length q'
      → Noted b who h from to q at q'' r (j + 1)
  notes-on q' q'' end r j x N l a e w m s =
      let n : j + 1 - from ≡ suc (j - from) = omega (arith, N.past) in
      let k : from + (j - from) ≡ j = omega (arith, N.past) in
      let t : text (notes b who h from (suc (j - from))) ≡ text (notes b who h from (j - from)) ++ bytes_of x
      = ap text (notes-snoc b who h from (j - from)) ∙ text-append (notes b who h from (j - from)) _ ∙ ap (λ (l : List ℕ). text (notes b who h from (j - from)) ++ l)
      (text-one _ ∙ ap bytes_of (ap (λ (i : ℕ). marked b who (txn_at (drop (2 * i) h))) k ∙ sym e)) in
      record {
        wrote = rw (n, t) (wrote_then q q' q'' (text (notes b who h from (j - from))) (bytes_of x) at end r (omega arith) N.wrote w);
        past = omega (arith, N.past);
        far = inl (omega arith);
        most = omega (arith, N.most, N.past);
        same = s ∙ N.same;
      }

-- ---- an event taken

pub enter-was : (s t who p : ℕ) (q : List ℕ) → s ≡ 8 → Wrote q 0 (text (entered s t who p)) 0 q
unfolding entered both pick text
enter-was s t who p q e = rw (eq-eqb s 8 e) (wrote_none q 0)

pub enter-not : (s t who p : ℕ) (q : List ℕ) → s ≢ 8 → t ≢ 8 → Wrote q 0 (text (entered s t who p)) 0 q
unfolding entered both pick text
enter-not s t who p q d e = rw (ne_eqb s 8 d, ne_eqb t 8 e) (wrote_none q 0)

pub enter-does : (s t who p r : ℕ) (q q' : List ℕ) → s ≢ 8 → t ≡ 8 → Wrote q 0 (bytes_of (E who p)) r q' → Wrote q 0 (text (entered s t who p)) r q'
unfolding entered both pick
enter-does s t who p r q q' d e w = rw (ne_eqb s 8 d, eq-eqb t 8 e, text-one (E who p)) w

pub done-wrote : (b : Bool) (s t : State) (h : List ℕ) (q q1 q2 q3 : List ℕ) (e f r to who : ℕ) → to ≡ pick b t.len.0 0 → who ≡ t.me → e ≤ length q1
    → Wrote q 0 (text (entered s.stage t.stage who t.p.0)) e q1
    → Wrote q1 e (text (notes true who h s.len.0 (to - s.len.0))) f q2
    → Wrote q2 f (text (notes false who h s.d.0 (t.d.0 - s.d.0))) r q3
    → Wrote q 0 (text (done_by b s t h)) r q3
unfolding done_by
done-wrote b s t h q q1 q2 q3 e f r to who y i l x u v =
    let n = notes true who h s.len.0 (to - s.len.0) in
    let m = notes false who h s.d.0 (t.d.0 - s.d.0) in
    let k = entered s.stage t.stage who t.p.0 in
    let w = wrote_then q1 q2 q3 (text n) (text m) e f r l u v in
    let z = wrote_then q q1 q3 (text k) (text n ++ text m) 0 e r (omega arith) x w in
    rw (← y, ← i, text-append k (n ++ m), text-append n m) z

-- ---- and in the words of the rules

map-notes : (b : Bool) (who : ℕ) (h : List ℕ) (j n : ℕ) → map (marked b who) (txns n (drop (2 * j) h)) ≡ notes b who h j n
unfolding notes txns
map-notes b who h j zero = refl
map-notes b who h j (suc n) =
    let e : 2 * j + 2 ≡ 2 * suc j = omega arith in
    ap (λ (l : List Rec). marked b who (txn_at (drop (2 * j) h)) ∷ l) (ap (λ (l : List ℕ). map (marked b who) (txns n l)) (drop-drop 2 (2 * j) h ∙ ap (λ (k : ℕ). drop k h) e) ∙ map-notes b who h (suc j) n)

drop-txns : (j n : ℕ) (h : List ℕ) → drop j (txns n h) ≡ txns (n - j) (drop (2 * j) h)
unfolding txns
drop-txns zero n h = let e : n ≡ n - 0 = omega arith in ap (λ (k : ℕ). txns k h) e
drop-txns (suc j) zero h = let e : 0 ≡ 0 - suc j = omega arith in ap (λ (k : ℕ). txns k (drop (2 * suc j) h)) e
drop-txns (suc j) (suc n) h =
    let e : n - j ≡ suc n - suc j = omega arith in
    let f : 2 + 2 * j ≡ 2 * suc j = omega arith in
    drop-txns j n (drop 2 h) ∙ ap (λ (l : List ℕ). txns (n - j) l) (drop-drop (2 * j) 2 h ∙ ap (λ (k : ℕ). drop k h) f) ∙ ap (λ (k : ℕ). txns k (drop (2 * suc j) h)) e

pub notes-are : (b : Bool) (who : ℕ) (h : List ℕ) (j n : ℕ) → map (marked b who) (drop j (txns n h)) ≡ notes b who h j (n - j)
notes-are b who h j n = ap (map (marked b who)) (drop-txns j n h) ∙ map-notes b who h j (n - j)

-- a place's record, from its two words
module _ (b : Bool) (who : ℕ) (h : List ℕ) (j : ℕ) where
  first_word : get_or (drop (2 * j) h) 0 0 ≡ get_or h (2 * j) 0
  first_word = let e : 2 * j + 0 ≡ 2 * j = omega arith in get_or-drop (2 * j) h 0 0 ∙ ap (λ (k : ℕ). get_or h k 0) e

  pub note-begun : b ≡ true → B who (record { ep = get_or h (2 * j) 0 / 4294967296; ct = get_or h (2 * j) 0 % 4294967296; vl = get_or h (2 * j + 1) 0 }) ≡ marked b who (txn_at (drop (2 * j) h))
  unfolding marked
  note-begun e = rw (e, first_word, get_or-drop (2 * j) h 1 0)

  pub note-told : b ≡ false → «V» who (record { ep = get_or h (2 * j) 0 / 4294967296; ct = get_or h (2 * j) 0 % 4294967296; vl = get_or h (2 * j + 1) 0 }) ≡ marked b who (txn_at (drop (2 * j) h))
  unfolding marked
  note-told e = rw (e, first_word, get_or-drop (2 * j) h 1 0)
