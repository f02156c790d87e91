-- The match and the gate are the paper's table.
use Prim.Native.Nat.{ℕ, ◌+◌, ◌-◌, ◌≤◌}
use mathlib.Core.Path.{◌≡◌, refl, sym, ◌∙◌}
use mathlib.Core.Logic.{◌≢◌, ◌⊎◌, inl, inr}
use mathlib.Core.Bool.{Bool, true, false, true≢false}
use mathlib.Core.List.{List, [], ◌∷◌}
use Rattle.std.specs.Prelude.{Option, Some, None, is_some}
use denote.Enum.Bare.{sameb}
use native.Mathlib.Omega.{arith}
use lib.Dec.{eqb}
use lib.ListN.{get_or}
use borrow.Author.Tests.{eqb-true, eqb-false, ne_eqb}
use Rattle.base.specs.Choice.{pick, both, either, all_below}
use Rattle.base.specs.Refusals.{number, number_of, ROLE, SENDER, PHASE}
use Rattle.base.specs.contracts.Refusal.{the_type}
use Rattle.base.specs.declared.Refusal.{Refusal}
use Rattle.base.specs.declared.Refusal.TheVariants.{State, Event, Message, Role, Sender, Phase, Epoch, Gap, Undo, Full, Spent, Room, Trace}
use Rattle.base.proofs.Refusals.{number-none}
use Rattle.base.proofs.Choice.{all-at₂, failed}
use Rattle.rules.specs.Table.{table, cell, TAKEN}
use Rattle.rules.specs.Tree.{Tree, run, refused, gate}
use Rattle.plan.specs.Plans.{elsewhere}

-- the kinds that a leader takes
leads : ℕ → Bool
leads k = either (eqb k 1) (either (eqb k 3) (either (eqb k 5) (eqb k 8)))

-- a cell that is not taken is that of the other stages, or of the other role
same : ℕ → ℕ → Bool
same i st = either (eqb (cell (i + 1) st) 0) (eqb (cell (i + 1) st) (pick (leads (i + 1)) (elsewhere 5 8 st) (elsewhere 1 4 st)))

same-all : all_below 9 (λ i. all_below 9 (same i)) ≡ true
unfolding same leads cell table all_below both either pick elsewhere
same-all = refl

module _ (k st : ℕ) (lo : 1 ≤ k) (hi : k ≤ 9) (h : st ≤ 8) (n : cell k st ≢ 0) where
  by-role : pick (leads k) (elsewhere 5 8 st) (elsewhere 1 4 st) ≡ cell k st
  unfolding same
  by-role =
      let e : k - 1 + 1 ≡ k = omega arith in
      let t : same (k - 1) st ≡ true = all-at₂ 9 9 same same-all (k - 1) st (omega arith) (omega arith) in
      sym (eqb-true _ _ (failed (eqb (cell k st) 0) _ (rw e at t) (ne_eqb (cell k st) 0 n)))

  one : leads k ≡ true → elsewhere 5 8 st ≡ cell k st
  unfolding pick
  one e = rw e at by-role

  pub led : (r : ℕ) → k ≡ 1 ⊎ k ≡ 3 ⊎ k ≡ 5 ⊎ k ≡ 8 → r ≡ elsewhere 5 8 st → r ≡ cell k st
  unfolding leads either
  led r (inl e) q = q ∙ one (rw e refl)
  led r (inr (inl e)) q = q ∙ one (rw e refl)
  led r (inr (inr (inl e))) q = q ∙ one (rw e refl)
  led r (inr (inr (inr e))) q = q ∙ one (rw e refl)

  pub followed : (r : ℕ) → k ≢ 1 → k ≢ 3 → k ≢ 5 → k ≢ 8 → r ≡ elsewhere 1 4 st → r ≡ cell k st
  unfolding leads pick either
  followed r a b c d q = q ∙ (rw (ne_eqb k 1 a, ne_eqb k 3 b, ne_eqb k 5 c, ne_eqb k 8 d) at by-role)

-- the table as the code has it
unfoldable pub rows : (t r p : Option Refusal) → List (List (Option Refusal))
rows t r p =
    (r ∷ r ∷ r ∷ r ∷ r ∷ t ∷ t ∷ t ∷ t ∷ []) ∷
    (r ∷ t ∷ p ∷ p ∷ p ∷ r ∷ r ∷ r ∷ r ∷ []) ∷
    (r ∷ r ∷ r ∷ r ∷ r ∷ p ∷ t ∷ t ∷ t ∷ []) ∷
    (r ∷ p ∷ t ∷ p ∷ p ∷ r ∷ r ∷ r ∷ r ∷ []) ∷
    (r ∷ r ∷ r ∷ r ∷ r ∷ p ∷ p ∷ t ∷ t ∷ []) ∷
    (r ∷ p ∷ p ∷ t ∷ p ∷ r ∷ r ∷ r ∷ r ∷ []) ∷
    (r ∷ p ∷ p ∷ t ∷ t ∷ r ∷ r ∷ r ∷ r ∷ []) ∷
    (r ∷ r ∷ r ∷ r ∷ r ∷ p ∷ p ∷ p ∷ t ∷ []) ∷
    (r ∷ p ∷ p ∷ p ∷ t ∷ r ∷ r ∷ r ∷ r ∷ []) ∷ []

-- within the table it does not matter what lies outside
inner : List (Option Refusal) → Option Refusal → ℕ → ℕ → Bool
inner l d i st = eqb (number_of (get_or (get_or (rows None (Some Role) (Some Phase)) i l) st d)) (cell (i + 1) st)

inner-all : (l : List (Option Refusal)) (d : Option Refusal) → all_below 9 (λ i. all_below 9 (inner l d i)) ≡ true
unfolding inner rows cell table all_below both
inner-all l d = refl

pub in_table : (l : List (Option Refusal)) (d : Option Refusal) (k st i j : ℕ) → i ≡ k - 1 → j ≡ st → 1 ≤ k → k ≤ 9 → st ≤ 8 → number_of (get_or (get_or (rows None (Some Role) (Some Phase)) i l) j d) ≡ cell k st
unfolding inner
in_table l d k st i j a b lo hi h = let e : k - 1 + 1 ≡ k = omega arith in
    let t : inner l d (k - 1) st ≡ true = all-at₂ 9 9 (inner l d) (inner-all l d) (k - 1) st (omega arith) (omega arith) in
    rw (a, b) (eqb-true _ _ (rw e at t))

-- ---- the gate

-- a refusal is ROLE if its number is
role : (w : Refusal) → sameb the_type w Role ≡ eqb (number w) ROLE
role State = refl
role Event = refl
role Message = refl
role Role = refl
role Sender = refl
role Phase = refl
role Epoch = refl
role Gap = refl
role Undo = refl
role Full = refl
role Spent = refl
role Room = refl
role Trace = refl

pub is-role : (n : ℕ) (w : Refusal) → number w ≡ n → sameb the_type w Role ≡ true → n ≡ ROLE
is-role n w p e = sym p ∙ eqb-true _ _ (sym (role w) ∙ e)

pub not-role : (n : ℕ) (w : Refusal) → number w ≡ n → sameb the_type w Role ≡ false → n ≢ ROLE
not-role n w p e q = eqb-false _ _ (sym (role w) ∙ e) (p ∙ q)

pub some-taken : (n : ℕ) (c : Option Refusal) → number_of c ≡ n → is_some c ≡ true → n ≢ TAKEN
some-taken n c p e q = let x = number-none c (p ∙ q) in absurd (true≢false (sym e ∙ x))

pub none-taken : (n : ℕ) (c : Option Refusal) → number_of c ≡ n → is_some c ≡ false → n ≡ TAKEN
none-taken n None p e = sym p
none-taken n (Some r) p e = absurd (true≢false e)

pub not-taken-role : (n : ℕ) (c : Option Refusal) → number_of c ≡ n → is_some c ≡ false → n ≢ ROLE
not-taken-role n c p e q = let x = none-taken n c p e in omega arith

module _ (k st : ℕ) (who : Bool) (t : Tree) where
  pub gate-role : cell k st ≡ ROLE → run (gate k st who t) ≡ refused ROLE
  unfolding gate run
  gate-role e = rw e

  pub gate-sender : cell k st ≢ ROLE → who ≡ false → run (gate k st who t) ≡ refused SENDER
  unfolding gate run
  gate-sender n e = rw (ne_eqb _ ROLE n, e)

  pub gate-phase : cell k st ≢ ROLE → who ≡ true → cell k st ≢ TAKEN → run (gate k st who t) ≡ refused PHASE
  unfolding gate run
  gate-phase n e m = rw (ne_eqb _ ROLE n, e, ne_eqb _ TAKEN m)

  pub gate-taken : who ≡ true → cell k st ≡ TAKEN → run (gate k st who t) ≡ run t
  unfolding gate run
  gate-taken e m = rw (m, e)
