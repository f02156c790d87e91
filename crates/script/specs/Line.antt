-- What one line of a script means, its newline left out. Bytes are numbers: 32 is the space, 48 to 57 are the digits.
use Rattle.std.specs.Prelude.{ℕ, ◌+◌, ◌-◌, ◌*◌, Bool, true, false, List, [], ◌∷◌, Option, Some, None, eqb, leb}
use Rattle.base.specs.Choice.{pick, both}
use Rattle.script.specs.declared.Command.{Command}
use Rattle.script.specs.declared.Command.TheVariants.{Begin, Oracle, Restart, Deliver, Submit}

-- ---- fields, one space apart: two spaces, or one at an end, make an empty field

unfoldable pub grow : ℕ → List (List ℕ) → List (List ℕ)
grow b [] = (b ∷ []) ∷ []
grow b (f ∷ fs) = (b ∷ f) ∷ fs

unfoldable pub fields : List ℕ → List (List ℕ)
fields [] = [] ∷ []
fields (b ∷ l) = pick (eqb b 32) ([] ∷ fields l) (grow b (fields l))

-- ---- numbers, decimal without leading zeros, at most 64 bits

-- the value so far with one digit more
unfoldable pub shift : ℕ → ℕ → Option ℕ
shift v b = pick (both (both (leb 48 b) (leb b 57)) (leb (10 * v + (b - 48)) 18446744073709551615)) (Some (10 * v + (b - 48))) None

unfoldable pub next : Option ℕ → ℕ → Option ℕ
next None b = None
next (Some v) b = shift v b

unfoldable pub after : Option ℕ → List ℕ → Option ℕ
after r [] = r
after r (b ∷ l) = after (next r b) l

-- no digit at all, or a zero before others
unfoldable pub misled : List ℕ → Bool
misled [] = true
misled (b ∷ []) = false
misled (b ∷ c ∷ l) = eqb b 48

unfoldable pub number : List ℕ → Option ℕ
number l = pick (misled l) None (after (Some 0) l)

-- ---- commands: N n with n from 3 to 7, R s; O s x, D from to, S s v

unfoldable pub one_number : ℕ → Option ℕ → Option Command
one_number k None = None
one_number k (Some v) = pick (eqb k 78) (pick (both (leb 3 v) (leb v 7)) (Some (Begin v)) None) (pick (eqb k 82) (Some (Restart v)) None)

unfoldable pub two_numbers : ℕ → Option ℕ → Option ℕ → Option Command
two_numbers k None y = None
two_numbers k (Some x) None = None
two_numbers k (Some x) (Some y) = pick (eqb k 79) (Some (Oracle x y)) (pick (eqb k 68) (Some (Deliver x y)) (pick (eqb k 83) (Some (Submit x y)) None))

unfoldable pub numbers_of : ℕ → List (List ℕ) → Option Command
numbers_of k [] = None
numbers_of k (x ∷ []) = one_number k (number x)
numbers_of k (x ∷ y ∷ []) = two_numbers k (number x) (number y)
numbers_of k (x ∷ y ∷ z ∷ fs) = None

unfoldable pub command_of : List (List ℕ) → Option Command
command_of [] = None
command_of ([] ∷ fs) = None
command_of ((k ∷ []) ∷ fs) = numbers_of k fs
command_of ((k ∷ j ∷ l) ∷ fs) = None

unfoldable pub line_of : List ℕ → Option Command
line_of l = command_of (fields l)
