-- No command has more than 43 bytes: a longer line is bad, and so is what is left of it where it is cut behind them.
use Prim.Native.Nat.{ℕ, suc, ◌+◌, ◌≤◌, ◌<◌}
use mathlib.Core.Path.{◌≡◌, refl, ap}
use mathlib.Core.Logic.{⊎_elim}
use mathlib.Core.Bool.{true, false}
use mathlib.Core.List.{List, [], ◌∷◌}
use native.Mathlib.Omega.{arith}
use lib.Dec.{eqb}
use lib.ListN.{length}
use Rattle.base.specs.Choice.{pick}
use Rattle.base.proofs.Choice.{case, le-or-lt}
use Rattle.std.specs.Prelude.{Option, Some, None}
use Rattle.script.specs.Line.{grow, fields, number, one_number, two_numbers, numbers_of, command_of, line_of}
use Rattle.script.specs.Text.{digits}
use Rattle.script.proofs.Texts.{few}
use Rattle.script.proofs.Lines.{second}
use Rattle.script.proofs.Back.{number-only}

-- the bytes of fields, each with a space
unfoldable spread : List (List ℕ) → ℕ
spread [] = 0
spread (f ∷ fs) = suc (length f) + spread fs

grown : (b n : ℕ) (fs : List (List ℕ)) → spread fs ≡ suc n → spread (grow b fs) ≡ suc (suc n)
unfolding grow spread
grown b n [] e = absurd (omega (arith, e))
grown b n (f ∷ fs) e = omega (arith, e)

spread-fields : (l : List ℕ) → spread (fields l) ≡ suc (length l)
unfolding fields spread pick
spread-fields [] = refl
spread-fields (b ∷ l) = case (eqb b 32)
    (λ (q : eqb b 32 ≡ true). rw q (omega (arith, spread-fields l)))
    (λ (q : eqb b 32 ≡ false). rw q (grown b (length l) (fields l) (spread-fields l)))

-- a number has at most twenty digits
long-number : (f : List ℕ) → 20 < length f → number f ≡ None
unfolding digits
long-number f h = of (number f) refl
  where
    of : (r : Option ℕ) → number f ≡ r → r ≡ None
    of None e = refl
    of (Some w) e = absurd (omega (arith, few 20 w, ap length (number-only f w e)))

long-numbers : (k : ℕ) (fs : List (List ℕ)) → 42 < spread fs → numbers_of k fs ≡ None
unfolding numbers_of spread one_number two_numbers
long-numbers k [] h = refl
long-numbers k (x ∷ []) h = rw (long-number x (omega arith))
long-numbers k (x ∷ y ∷ []) h = ⊎_elim
    (λ (p : length x ≤ 20). rw (long-number y (omega arith)) (second k (number x)))
    (λ (p : 20 < length x). rw (long-number x p))
    (le-or-lt (length x) 20)
long-numbers k (x ∷ y ∷ z ∷ fs) h = refl

long-command : (fs : List (List ℕ)) → 44 < spread fs → command_of fs ≡ None
unfolding command_of spread
long-command [] h = refl
long-command ([] ∷ fs) h = refl
long-command ((k ∷ []) ∷ fs) h = long-numbers k fs (omega arith)
long-command ((k ∷ j ∷ l) ∷ fs) h = refl

pub long-bad : (l : List ℕ) → 43 < length l → line_of l ≡ None
unfolding line_of
long-bad l h = long-command (fields l) (omega (arith, spread-fields l))
