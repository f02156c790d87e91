-- The walk over the records: what holds before each, and what is answered.
use Prim.Native.Nat.{ℕ, zero, suc, ◌+◌, ◌-◌, ◌*◌, ◌%◌, ◌≤◌, ◌<◌}
use mathlib.Core.Path.{◌≡◌, refl, sym, ap, ◌∙◌, subst, fun_ext}
use mathlib.Core.Bool.{Bool, true, false}
use mathlib.Core.List.{List, [], ◌∷◌, ◌++◌}
use native.Mathlib.Omega.{arith}
use lib.Dec.{eqb, leb, ltb}
use lib.ListN.{length, take, drop, get_or, replicate, get_or-replicate, length-append}
use lib.Seq.{get_or-take, drop-append-add, drop-drop}
use borrow.Author.Tests.{eqb-true, eq-eqb, ne_eqb, le-leb, lt-leb, leb-true, ltb-true}
use Rattle.base.specs.Choice.{pick, both}
use Rattle.base.specs.Record.{Rec, E, B, «V», X}
use Rattle.base.proofs.Choice.{tests, case, both_true, both-no}
use Rattle.trace.specs.Rules.{Past, vs, broken, sound, all_sound, Answer, breaks, refuses, walk, fit, answer}
use Rattle.trace.specs.Words.{WORDS, kind_of, who_of, epoch_at, counter_at, entry_at, rec_at, recs_from, recs_of, past_at, count_of, known_at, all_known, readable, grown, laid}
use Rattle.trace.specs.Meaning.{verdict, left, Judged, Checked}
use Rattle.trace.specs.Step.{Ready, Latest, counted, Holds, Stepped}
use Rattle.trace.specs.Table.{cell, cleared, spot, spot_at, Walkable, Tabled, Noted}
use Rattle.trace.specs.declared.step.State.{State}
use Rattle.std.specs.Prelude.{Option, Some, None, SomeIff, Ok, Err}
use Rattle.trace.specs.Number.{number}
use Rattle.trace.specs.declared.Rule.{Rule}
use Rattle.trace.specs.declared.Rule.TheVariants.{OneE, CountersRun, EarlierB, OneBegins, EarlierEpochs, VsRise}
use Rattle.trace.specs.declared.Verdict.{Verdict}
use Rattle.trace.specs.declared.Verdict.TheVariants.{Keeps, Breaks, Refused}
use Rattle.trace.proofs.Main.{inv-start}
use Rattle.trace.proofs.Records.{by_kind, rec-b}
use Rattle.trace.proofs.Ruling.{past-length, grown-low, marks-low}
use Rattle.trace.proofs.Laws.{seq-len}
use Rattle.trace.proofs.Lookup.{laid-high, length-laid, cleared-twice, cleared-laid, take-cleared, table_empty, walkable}
use Rattle.trace.proofs.Whole.{unbroken}

-- before record i, with so many nodes in the table; the space was sp₀ before the first record
pub record Running (n : ℕ) (w sp₀ : List ℕ) (count : ℕ) (sp : List ℕ) (s : State) (i nodes : ℕ) : Type 0 where
  pub holds : Holds n (past_at w i) sp i s
  pub space : cleared count sp ≡ laid (grown (past_at w i)) (cleared count sp₀)
  pub rest : walk n (past_at w i) (recs_from w i (count - i)) ≡ walk n [] (recs_from w 0 count)
  pub table : i < count → Tabled w (cell sp count) count nodes i

-- every rule has a number
some : (r : Rule) → number r ≡ 0 → ⊥
some OneE e = omega arith
some CountersRun e = omega arith
some EarlierB e = omega arith
some OneBegins e = omega arith
some EarlierEpochs e = omega arith
some VsRise e = omega arith

-- one less, or none, counted from 1
counted-less : (m : Option ℕ) {x : ℕ} → SomeIff m (1 ≤ x) (x - 1) → counted m ≡ x
counted-less None h = omega (arith, h)
counted-less (Some j) h = omega (arith, h)

-- ---- every record is sound

all-sound-at : (n : ℕ) (w : List ℕ) (k j : ℕ) → all_sound n (recs_from w j k) ≡ true → (m : ℕ) → j ≤ m → m < j + k → sound n (rec_at w m) ≡ true
all-sound-at n w zero j h m a b = absurd (omega arith)
all-sound-at n w (suc k) j h m a b =
    let z = both_true (sound n (rec_at w j)) (all_sound n (recs_from w (suc j) k)) h in
    case (eqb m j) (λ q. subst (λ (x : ℕ). sound n (rec_at w x) ≡ true) (sym (eqb-true m j q)) z.0) (λ q. all-sound-at n w k (suc j) z.1 m (omega tests) (omega arith))

module _ (n : ℕ) (w : List ℕ) (count : ℕ) {b : Bool} (e : b ≡ both (all_known w 0 count) (all_sound n (recs_from w 0 count))) (y : b ≡ true) where
  pub sound-of : (i : ℕ) → i < count → sound n (rec_at w i) ≡ true
  sound-of i h = all-sound-at n w count 0 (both_true (all_known w 0 count) _ (sym e ∙ y)).1 i (omega arith) (omega arith)

who-low : (n : ℕ) (w : List ℕ) (i : ℕ) → sound n (rec_at w i) ≡ true → (kind_of w i ≡ 4 → ⊥) → n ≤ 7 → kind_of w i ≤ 4 → 1 ≤ kind_of w i → who_of w i < 7
who-low n w i g f le u v = by_kind w i (λ r. sound n r ≡ true → who_of w i < 7)
    (λ _ z. omega (arith, ltb-true (who_of w i) n (both_true (ltb (who_of w i) n) _ z).0))
    (λ _ z. omega (arith, ltb-true (who_of w i) n (both_true (ltb (who_of w i) n) _ z).0))
    (λ _ z. omega (arith, ltb-true (who_of w i) n (both_true (ltb (who_of w i) n) _ z).0))
    (λ a b d z. absurd (omega arith)) g

ct-one : (n : ℕ) (w : List ℕ) (i : ℕ) → sound n (rec_at w i) ≡ true → kind_of w i ≡ 2 → 1 ≤ counter_at w i
ct-one n w i g k =
    let z : sound n (B (who_of w i) (entry_at w i)) ≡ true = subst (λ (r : Rec). sound n r ≡ true) (rec-b w i k) g in
    leb-true 1 (counter_at w i) (both_true (leb 1 (epoch_at w i)) _ (both_true (ltb (who_of w i) n) _ z).1).1

all-known-at : (w : List ℕ) (k j : ℕ) → all_known w j k ≡ true → (m : ℕ) → j ≤ m → m < j + k → known_at w m ≡ true
all-known-at w zero j h m a b = absurd (omega arith)
all-known-at w (suc k) j h m a b =
    let z = both_true (known_at w j) (all_known w (suc j) k) h in
    case (eqb m j) (λ q. subst (λ (x : ℕ). known_at w x ≡ true) (sym (eqb-true m j q)) z.0) (λ q. all-known-at w k (suc j) z.1 m (omega tests) (omega arith))

known-low : (w : List ℕ) (i : ℕ) → known_at w i ≡ true → (1 ≤ kind_of w i) × (kind_of w i ≤ 4)
unfolding known_at
known-low w i h = let z = both_true (leb 1 (kind_of w i)) (leb (kind_of w i) 4) h in (leb-true 1 (kind_of w i) z.0, leb-true (kind_of w i) 4 z.1)

module _ (n : ℕ) (w : List ℕ) (count : ℕ) {b : Bool} (e : b ≡ both (all_known w 0 count) (all_sound n (recs_from w 0 count))) (y : b ≡ true) where
  pub known_of : (i : ℕ) → i < count → (1 ≤ kind_of w i) × (kind_of w i ≤ 4)
  known_of i h = known-low w i (all-known-at w count 0 (both_true (all_known w 0 count) _ (sym e ∙ y)).0 i (omega arith) (omega arith))

-- ---- the space

drop-laid : (m sp : List ℕ) (k : ℕ) → length m ≤ k → drop k (m ++ drop (length m) sp) ≡ drop k sp
drop-laid m sp k h =
    let z : k ≡ length m + (k - length m) = omega arith in
    ap (λ (j : ℕ). drop j (m ++ drop (length m) sp)) z ∙ drop-append-add m (drop (length m) sp) (k - length m) ∙ drop-drop (k - length m) (length m) sp ∙ ap (λ (j : ℕ). drop j sp) (sym z)

laid-laid : (m m' sp : List ℕ) → length m ≤ length m' → laid m' (laid m sp) ≡ laid m' sp
unfolding laid
laid-laid m m' sp h = ap (λ (l : List ℕ). m' ++ l) (drop-laid m sp (length m') h)

grown-more : (r : Rec) (p : Past) → length (grown p) ≤ length (grown (r ∷ p))
unfolding pick
grown-more (E s e) p = omega arith
grown-more (B s t) p = omega arith
grown-more («V» s t) p = go (leb (length (grown p)) (length (vs s p)))
  where
    go : (b : Bool) → length (grown p) ≤ length (pick b (grown p ++ (length p ∷ [])) (grown p))
    go true = omega (arith, length-append (grown p) (length p ∷ []))
    go false = omega arith
grown-more (X l r) p = omega arith

-- ---- the loop

pub run-start : (n : ℕ) (w sp₀ sp : List ℕ) (count : ℕ) → 4 * count ≤ length sp₀ → sp ≡ cleared count sp₀
    → Running n w sp count sp (record { counts = replicate 7 0; len = 0; top = 0; seen = 0 }) 0 1
unfolding laid
run-start n w sp₀ sp count room e = record {
  holds = record { inv = inv-start n; laid = refl; len = refl; size = refl; cnt = λ x h. get_or-replicate 7 x 0 0 h; top = refl; seen = omega arith };
  space = refl;
  rest = (let z : count - 0 ≡ count = omega arith in rw z);
  table = λ h. subst (λ (x : List ℕ). Tabled w (cell x count) count 1 0) (sym e) (table_empty w count sp₀ room h);
}

-- the table was empty at first
was-clear : (w sp sp₀ : List ℕ) (count : ℕ) → 4 * count ≤ length sp → sp₀ ≡ cleared count sp → count ≡ count_of w → cleared count sp₀ ≡ cleared (count_of w) sp
was-clear w sp sp₀ count room e ec = ap (cleared count) e ∙ cleared-twice count sp room ∙ ap (λ (k : ℕ). cleared k sp) ec

broke : (x i : ℕ) (a : Answer) → (x ≡ 0 → ⊥) → ◌≡◌ {A = Answer} (elim (eqb x 0) [ true ↦ a | false ↦ breaks i x ]) (breaks i x)
broke x i a h = rw (ne_eqb x 0 h)

module _ (n : ℕ) (w sp₀ : List ℕ) (count : ℕ) (sp : List ℕ) (s : State) (i nodes : ℕ) (R : Running n w sp₀ count sp s i nodes) (low : i < count) where
  pub run-ready : {b : Bool} → b ≡ both (all_known w 0 count) (all_sound n (recs_from w 0 count)) → b ≡ true → n ≤ 7 → count ≡ count_of w → 4 * count ≤ length sp → Ready w sp i s
  run-ready e y n7 ec room =
      let g = sound-of n w count e y i low in
      let k = known_of n w count e y i low in
      record {
        here = omega arith;
        room = omega arith;
        len = omega (arith, R.holds.len, grown-low (past_at w i), past-length w i);
        marks = λ j h. (let z : get_or sp j 0 ≡ get_or (grown (past_at w i)) j 0 = sym (get_or-take s.len sp j 0 h) ∙ ap (λ (l : List ℕ). get_or l j 0) R.holds.laid in
            omega (arith, marks-low (past_at w i) j (omega (arith, R.holds.len)), past-length w i));
        counts = λ x h. omega (arith, R.holds.cnt x h, R.holds.inv.seqs.len x, seq-len n w sp i s R.holds g);
        seen = R.holds.seen;
        who = λ f. who-low n w i g f n7 k.1 k.0;
        ct = λ q. ct-one n w i g q;
      }

  next : recs_from w i (count - i) ≡ rec_at w i ∷ recs_from w (suc i) (count - suc i)
  next = let z : count - i ≡ suc (count - suc i) = omega arith in rw z

  -- what is found in the table
  pub run-walks : count ≡ count_of w → 4 * count ≤ length sp → Walkable w sp count
  run-walks ec room = walkable w sp count nodes i (R.table low) low (omega arith) room

  pub run-latest : {at : ℕ} (m : Option ℕ) → at ≡ spot_at w (cell sp count) count i → SomeIff m (1 ≤ cell sp count at) (cell sp count at - 1) → Latest w i m
  unfolding spot_at pick
  run-latest {at} m e n k =
      let z : at ≡ spot w (cell sp count) (epoch_at w i) count 0 (epoch_at w i) = rw (le-leb (kind_of w i) 2 k) at e in
      counted-less m n ∙ ap (cell sp count) z ∙ (R.table low).says (epoch_at w i)

  -- record i breaks no rule
  module _ {t : State} {sp' : List ℕ} (room : 4 * count ≤ length sp) (S : Stepped n w sp i (Ok t) sp') where
    short : length (grown (rec_at w i ∷ past_at w i)) ≤ suc i
    short = omega (arith, grown-low (rec_at w i ∷ past_at w i), past-length w (suc i))

    same-cells : cell sp' count ≡ cell sp count
    same-cells = fun_ext (λ k. ap (λ (l : List ℕ). get_or l (count + k) 0) S.space ∙ laid-high (grown (rec_at w i ∷ past_at w i)) sp (count + k) (omega (arith, short)))

    pub run-table : Tabled w (cell sp' count) count nodes i
    run-table = subst (λ (f : ℕ → ℕ). Tabled w f count nodes i) (sym same-cells) (R.table low)

    pub run_at : {at : ℕ} → at ≡ spot_at w (cell sp count) count i → at ≡ spot_at w (cell sp' count) count i
    run_at e = e ∙ ap (λ (f : ℕ → ℕ). spot_at w f count i) (sym same-cells)

    pub run_on : {nodes' : ℕ} {sp'' : List ℕ} → length sp'' ≡ length sp' → Noted w count i sp' nodes' sp'' → Running n w sp₀ count sp'' t (i + 1) nodes'
    run_on {nodes'} {sp''} len N =
        let y : i + 1 ≡ suc i = omega arith in
        let h = S.goes in
        let l : t.len ≤ count = omega (arith, h.len, short) in
        let m : length sp' ≡ length sp = ap length S.space ∙ length-laid (grown (rec_at w i ∷ past_at w i)) sp (omega (arith, short)) in
        subst (λ (j : ℕ). Running n w sp₀ count sp'' t j nodes') (sym y)
        (record {
          holds = record {
            inv = h.inv;
            laid = sym (take-cleared count sp'' (omega arith) t.len l) ∙ ap (take t.len) N.kept ∙ take-cleared count sp' (omega arith) t.len l ∙ h.laid;
            len = h.len;
            size = h.size;
            cnt = h.cnt;
            top = h.top;
            seen = h.seen;
          };
          space = N.kept ∙ ap (cleared count) S.space ∙ cleared-laid count sp room (grown (rec_at w i ∷ past_at w i)) (omega (arith, short))
              ∙ ap (laid (grown (rec_at w i ∷ past_at w i))) R.space
              ∙ laid-laid (grown (past_at w i)) (grown (rec_at w i ∷ past_at w i)) (cleared count sp₀) (grown-more (rec_at w i) (past_at w i));
          rest = sym (ap (walk n (past_at w i)) next ∙ unbroken (broken n (rec_at w i ∷ past_at w i)) (length (past_at w i)) (walk n (rec_at w i ∷ past_at w i) (recs_from w (suc i) (count - suc i))) (sym S.rule)) ∙ R.rest;
          table = λ _. N.table;
        })

  pub run-stop : {b : Bool} {r : Rule} {x sp' sp'' : List ℕ} → 4 * count ≤ length x → sp₀ ≡ cleared count x → count ≡ count_of w → b ≡ both (all_known w 0 count) (all_sound n (recs_from w 0 count)) → b ≡ true → Stepped n w sp i (Err r) sp'
      → sp'' ≡ cleared count sp' → Judged n w x count (Breaks i r) sp''
  unfolding pick
  run-stop {b} {r} {x} {sp'} {sp''} room e₀ ec e y S c = record {
    says = sym (rw (← e, y) (sym R.rest ∙ ap (walk n (past_at w i)) next
        ∙ broke (broken n (rec_at w i ∷ past_at w i)) (length (past_at w i)) (walk n (rec_at w i ∷ past_at w i) (recs_from w (suc i) (count - suc i))) (λ q. some r (S.rule ∙ q))
        ∙ rw (past-length w i, ← S.rule)));
    space = c ∙ ap (cleared count) S.stays ∙ R.space ∙ ap (laid (grown (past_at w i))) (was-clear w x sp₀ count room e₀ ec);
  }

pub run_end : (n : ℕ) (w x sp₀ : List ℕ) (count : ℕ) (sp sp' : List ℕ) (s : State) (i nodes : ℕ) {b : Bool} → 4 * count ≤ length x → sp₀ ≡ cleared count x → Running n w sp₀ count sp s i nodes → i ≤ count → count ≤ i → count ≡ count_of w
    → b ≡ both (all_known w 0 count) (all_sound n (recs_from w 0 count)) → b ≡ true → sp' ≡ cleared count sp → Judged n w x count Keeps sp'
unfolding pick
run_end n w x sp₀ count sp sp' s i nodes {b} room e₀ R a d ec e y c =
    let z : count - i ≡ 0 = omega arith in
    let v : i ≡ count_of w = omega arith in
    record {
      says = sym (rw (← e, y) (sym R.rest ∙ rw z));
      space = c ∙ R.space ∙ ap (λ (j : ℕ). laid (grown (past_at w j)) (cleared count sp₀)) v ∙ ap (laid (grown (past_at w (count_of w)))) (was-clear w x sp₀ count room e₀ ec);
    }

pub run-refused : (n : ℕ) (w sp : List ℕ) (count : ℕ) {b : Bool} → b ≡ both (all_known w 0 count) (all_sound n (recs_from w 0 count)) → b ≡ false → Judged n w sp count Refused sp
unfolding pick
run-refused n w sp count {b} e z = record { says = sym (rw (← e, z)); space = refl }

-- ---- the whole answer

recs-length : (w : List ℕ) (k i : ℕ) → length (recs_from w i k) ≡ k
recs-length w zero i = refl
recs-length w (suc k) i = ap suc (recs-length w k (suc i))

module _ (n : ℕ) (w sp : List ℕ) where
  refused : verdict n w (length sp) ≡ refuses → Checked n w sp Refused sp
  refused e = record { says = sym e; space = ap (λ (a : Answer). left a w sp) (sym e) }

  unread : both (readable w) (leb (4 * count_of w) (length sp)) ≡ false → Checked n w sp Refused sp
  unfolding verdict pick
  unread e = refused (rw e)

  unfit : fit n (recs_of w) ≡ false → Checked n w sp Refused sp
  unfolding verdict answer pick
  unfit e = case (both (readable w) (leb (4 * count_of w) (length sp))) (λ q. refused (rw (q, e))) unread

  pub check-few : n < 3 → Checked n w sp Refused sp
  unfolding fit both
  check-few h = unfit (rw (lt-leb 3 n h))

  pub check-many : 7 < n → Checked n w sp Refused sp
  unfolding fit both
  check-many h = unfit (rw (le-leb 3 n (omega arith), lt-leb n 7 h))

  pub check-part : (length w % WORDS ≡ 0 → ⊥) → Checked n w sp Refused sp
  unfolding readable both
  check-part h = unread (rw (ne_eqb (length w % WORDS) 0 h))

  pub check-long : 3 ≤ n → n ≤ 7 → 1024 < count_of w → Checked n w sp Refused sp
  unfolding fit both
  check-long a b h = unfit (rw (le-leb 3 n a, le-leb n 7 b, recs-length w (count_of w) 0, lt-leb (count_of w) 1024 h))

  pub check-room : length sp < 4 * count_of w → Checked n w sp Refused sp
  check-room h = unread (both-no (readable w) (leb (4 * count_of w) (length sp)) (lt-leb (4 * count_of w) (length sp) h))

  pub check-judged : {r : Verdict} {sp' : List ℕ} → 3 ≤ n → n ≤ 7 → length w % WORDS ≡ 0 → count_of w ≤ 1024 → 4 * count_of w ≤ length sp → Judged n w sp (count_of w) r sp' → Checked n w sp r sp'
  unfolding verdict readable answer fit pick both
  check-judged {r} {sp'} a b d l m J = record { says = J.says ∙ sym whole; space = J.space ∙ ap (λ (x : Answer). left x w sp) (J.says ∙ sym whole) }
    where
      two : (x y : Bool) (v : Answer) → pick (both x true) (pick y v refuses) refuses ≡ pick (both x y) v refuses
      two true y v = refl
      two false y v = refl

      whole : verdict n w (length sp) ≡ pick (both (all_known w 0 (count_of w)) (all_sound n (recs_from w 0 (count_of w)))) (walk n [] (recs_from w 0 (count_of w))) refuses
      whole = rw (eq-eqb (length w % WORDS) 0 d, le-leb (4 * count_of w) (length sp) m, le-leb 3 n a, le-leb n 7 b, recs-length w (count_of w) 0, le-leb (count_of w) 1024 l) (two (all_known w 0 (count_of w)) (all_sound n (recs_from w 0 (count_of w))) (walk n [] (recs_from w 0 (count_of w))))
