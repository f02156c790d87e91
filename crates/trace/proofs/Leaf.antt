-- One law for each answer of the functions that read records and look back.
use Prim.Native.Nat.{ℕ, zero, suc, ◌-◌, ◌≤◌, ◌<◌}
use mathlib.Core.Path.{◌≡◌, refl, ◌∙◌}
use mathlib.Core.Bool.{Bool, true, false, ◌&&◌}
use mathlib.Core.List.{List}
use native.Mathlib.Omega.{arith}
use lib.Dec.{eqb, ltb}
use borrow.Author.Tests.{ltb-true, eqb-false}
use lib.ListN.{length, take, get_or}
use lib.Seq.{length-take-le, get_or-take, take-take}
use Rattle.std.proofs.lemmas.List.{get_or_default}
use Rattle.std.specs.Prelude.{Some}
use Rattle.std.specs.Ordering.{partial_lt, partial_ordering_then, nat_cmp}
use Rattle.base.proofs.Choice.{case}
use Rattle.base.specs.Choice.{pick, both, either}
use Rattle.base.specs.Record.{Entry, same}
use Rattle.trace.specs.Rules.{less}
use Rattle.trace.specs.Step.{lacks_of, rises_of, late_of}
use Rattle.trace.specs.Words.{Within, of_epoch, latest_of}

-- ---- identifiers compared

-- `<` of pairs of numbers, and `less`
pub less-pair : (t u : Entry) {a b c d : ℕ} → a ≡ t.ep → c ≡ t.ct → b ≡ u.ep → d ≡ u.ct
    → partial_lt {X = ℕ × ℕ} (λ x y. partial_ordering_then (Some (nat_cmp x.0 y.0)) (Some (nat_cmp x.1 y.1))) (a, c) (b, d) ≡ less t u
unfolding less either both
less-pair t u {a} {b} {c} {d} ea ec eb ed = rw (← ea, ← ec, ← eb, ← ed) (case (ltb a b) (λ p. rw p) (λ p. case (eqb a b) (λ q. case (ltb c d) (λ r. rw (p, q, r)) (λ r. case (eqb c d) (λ v. rw (p, q, r, v)) (λ v. rw (p, q, r, v)))) (λ q. rw (p, q))))

-- `==` of their values too, and `same`
pub same-triple : (t u : Entry) {a b c d e f : ℕ} → a ≡ t.ep → b ≡ t.ct → c ≡ t.vl → d ≡ u.ep → e ≡ u.ct → f ≡ u.vl
    → ((eqb a d && eqb b e) && eqb c f) ≡ same t u
unfolding same both
same-triple t u {a} {b} {c} {d} {e} {f} ea eb ec ed ee ef = rw (← ea, ← eb, ← ec, ← ed, ← ee, ← ef) (case (eqb a d) (λ p. rw p (case (eqb b e) (λ q. rw q refl) (λ q. rw q refl))) (λ p. rw p refl))

-- ---- records that the space names

-- an item of them
pub place-within : (w m : List ℕ) (i k x : ℕ) → Within w i → ((j : ℕ) → j < length m → get_or m j 0 < i) → k < length m → x ≡ get_or m k x → Within w x
place-within w m i k x h low l e =
    let b : x ≡ get_or m k 0 = e ∙ get_or_default m k x 0 l in
    omega (arith, low k l)

-- the first len words of the space, apart from the others
module _ (w sp : List ℕ) (i len : ℕ) (room : len ≤ length sp) where
  pub lacks-front : (c : ℕ) → lacks_of w (take len sp) i c (length (take len sp)) ≡ lacks_of w sp i c len
  unfolding both
  lacks-front c = rw (length-take-le len sp room) (case (ltb c len) (λ q. rw (q, get_or-take len sp c 0 (ltb-true c len q))) (λ q. rw q))

  rises-front : rises_of w (take len sp) i len ≡ rises_of w sp i len
  unfolding pick
  rises-front = case (eqb len 0) (λ q. rw q) (λ q. let n : len ≡ 0 → ⊥ = eqb-false len 0 q in rw (q, get_or-take len sp (len - 1) 0 (omega arith)))

  pub late-front : (top : ℕ) → late_of w (take len sp) i (length (take len sp)) top ≡ late_of w sp i len top
  unfolding late_of
  late-front top = rw (length-take-le len sp room, take-take len len sp (omega arith), rises-front)

latest-low : (w : List ℕ) (e i : ℕ) → latest_of w e i ≤ i
unfolding latest_of pick
latest-low w e zero = omega arith
latest-low w e (suc i) = go (latest-low w e i) (of_epoch w i e)
  where
    go : latest_of w e i ≤ i → (b : Bool) → pick b (suc i) (latest_of w e i) ≤ suc i
    go ih true = omega arith
    go ih false = omega arith

pub latest-within : (w : List ℕ) (e i j : ℕ) → suc j ≡ latest_of w e i → Within w i → Within w j
latest-within w e i j q h = omega (arith, latest-low w e i)
