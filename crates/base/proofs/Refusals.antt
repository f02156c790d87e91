-- A refusal's number is never 0, so 0 says that nothing is refused.
use Prim.Native.Nat.{ℕ, ◌≤◌}
use mathlib.Core.Path.{◌≡◌, refl, sym, ap, ◌∙◌}
use mathlib.Core.Bool.{true, false}
use native.Mathlib.Omega.{arith}
use lib.Dec.{eqb, leb}
use borrow.Author.Tests.{leb-true}
use Rattle.std.specs.Prelude.{Option, Some, None, Result, Ok, Err, is_some}
use Rattle.base.specs.Choice.{pick}
use Rattle.base.specs.Refusals.{number, number_of, code_of}
use Rattle.base.specs.declared.Refusal.{Refusal}
use Rattle.base.specs.declared.Refusal.TheVariants.{State, Event, Message, Role, Sender, Phase, Epoch, Gap, Undo, Full, Spent, Room, Trace}

some : (r : Refusal) → leb 1 (number r) ≡ true
some State = refl
some Event = refl
some Message = refl
some Role = refl
some Sender = refl
some Phase = refl
some Epoch = refl
some Gap = refl
some Undo = refl
some Full = refl
some Spent = refl
some Room = refl
some Trace = refl

pub number-some : (r : Refusal) → 1 ≤ number r
number-some r = leb-true 1 (number r) (some r)

-- the refusal of a number
named : ℕ → Refusal
named n = pick (eqb n 1) State (pick (eqb n 2) Event (pick (eqb n 3) Message (pick (eqb n 4) Role (pick (eqb n 5) Sender (pick (eqb n 6) Phase (pick (eqb n 7) Epoch (pick (eqb n 8) Gap (pick (eqb n 9) Undo (pick (eqb n 10) Full (pick (eqb n 11) Spent (pick (eqb n 12) Room (Trace))))))))))))

named-number : (r : Refusal) → named (number r) ≡ r
unfolding named pick
named-number State = refl
named-number Event = refl
named-number Message = refl
named-number Role = refl
named-number Sender = refl
named-number Phase = refl
named-number Epoch = refl
named-number Gap = refl
named-number Undo = refl
named-number Full = refl
named-number Spent = refl
named-number Room = refl
named-number Trace = refl

-- one refusal for each number
pub number-one : (r s : Refusal) → number r ≡ number s → r ≡ s
number-one r s e = sym (named-number r) ∙ ap named e ∙ named-number s

pub code-err : {A : Type 0} (r : Result A Refusal) (c : Refusal) → r ≡ Err c → code_of r ≡ number c
code-err r c e = ap code_of e

pub code-ok : {A : Type 0} (r : Result A Refusal) (a : A) → r ≡ Ok a → code_of r ≡ 0
code-ok r a e = ap code_of e

-- taken, where the number is 0
pub code-taken : {A : Type 0} (r : Result A Refusal) → code_of r ≡ 0 → (a : A) × (r ≡ Ok a)
code-taken (Ok a) e = (a, refl)
code-taken (Err c) e = let p = number-some c in absurd (omega (arith, p))

pub number-none : (c : Option Refusal) → number_of c ≡ 0 → is_some c ≡ false
number-none None e = refl
number-none (Some c) e = let p = number-some c in absurd (omega (arith, p))

-- an answer with nothing in it is known by its number
pub code-one : (r s : Result (Unit {0}) Refusal) → code_of r ≡ code_of s → r ≡ s
code-one (Ok a) (Ok b) e = refl
code-one (Ok a) (Err d) e = let p = number-some d in absurd (omega (arith, p, e))
code-one (Err c) (Ok b) e = let p = number-some c in absurd (omega (arith, p, e))
code-one (Err c) (Err d) e = ap Err (number-one c d e)

pub number-not : (r : Refusal) → number r ≡ 0 → ⊥
number-not r e = let p = number-some r in absurd (omega (arith, p, e))

-- and so is a refusal that may be
pub number_of-one : (c d : Option Refusal) → number_of c ≡ number_of d → c ≡ d
number_of-one None None e = refl
number_of-one None (Some d) e = let p = number-some d in absurd (omega (arith, p, e))
number_of-one (Some c) None e = let p = number-some c in absurd (omega (arith, p, e))
number_of-one (Some c) (Some d) e = ap Some (number-one c d e)
