-- Lines and records run.
use Prim.Native.Nat.{ℕ}
use mathlib.Core.Path.{◌≡◌, refl}
use mathlib.Core.List.{List, [], ◌∷◌, ◌++◌}
use Rattle.std.specs.Prelude.{Option, Some, None}
use Rattle.base.specs.Choice.{pick, both}
use Rattle.base.specs.Record.{E, B, «V», X}
use Rattle.script.specs.Line.{grow, fields, shift, next, after, misled, number, one_number, two_numbers, numbers_of, command_of, line_of}
use Rattle.script.specs.Text.{digits_in, digits, spaced, ending, two, four, header, bytes_of}
use Rattle.script.specs.declared.Command.{Command}
use Rattle.script.specs.declared.Command.TheVariants.{Begin, Oracle, Restart, Deliver, Submit}

-- lines in a row
abbrev pub meant : List (List ℕ) → List (Option Command)
meant [] = []
meant (l ∷ ls) = line_of l ∷ meant ls

-- "N 3", "N 2", "N 8", "N 03", "O 0 10", "R 6", "D 1 0", "S 0 40"
pub good : meant (
    (78 ∷ 32 ∷ 51 ∷ []) ∷ (78 ∷ 32 ∷ 50 ∷ []) ∷ (78 ∷ 32 ∷ 56 ∷ []) ∷ (78 ∷ 32 ∷ 48 ∷ 51 ∷ []) ∷ (79 ∷ 32 ∷ 48 ∷ 32 ∷ 49 ∷ 48 ∷ []) ∷
    (82 ∷ 32 ∷ 54 ∷ []) ∷ (68 ∷ 32 ∷ 49 ∷ 32 ∷ 48 ∷ []) ∷ (83 ∷ 32 ∷ 48 ∷ 32 ∷ 52 ∷ 48 ∷ []) ∷ [])
    ≡ Some (Begin 3) ∷ None ∷ None ∷ None ∷ Some (Oracle 0 10) ∷ Some (Restart 6) ∷ Some (Deliver 1 0) ∷ Some (Submit 0 40) ∷ []
unfolding grow fields shift next after misled number one_number two_numbers numbers_of command_of line_of pick both
good = refl

-- an empty line, a carriage return, a doubled, leading and trailing space, a sign, a field too many and too few, another letter
pub bad : meant (
    [] ∷ (82 ∷ 32 ∷ 54 ∷ 13 ∷ []) ∷ (82 ∷ 32 ∷ 32 ∷ 54 ∷ []) ∷ (32 ∷ 82 ∷ 32 ∷ 54 ∷ []) ∷ (82 ∷ 32 ∷ 54 ∷ 32 ∷ []) ∷ (82 ∷ 32 ∷ 43 ∷ 54 ∷ []) ∷
    (82 ∷ 32 ∷ 54 ∷ 32 ∷ 54 ∷ []) ∷ (68 ∷ 32 ∷ 54 ∷ []) ∷ (69 ∷ 32 ∷ 54 ∷ []) ∷ (68 ∷ 32 ∷ 49 ∷ 32 ∷ 48 ∷ 32 ∷ 48 ∷ []) ∷ [])
    ≡ None ∷ None ∷ None ∷ None ∷ None ∷ None ∷ None ∷ None ∷ None ∷ None ∷ []
unfolding grow fields shift next after misled number one_number two_numbers numbers_of command_of line_of pick both
bad = refl

-- the greatest value, and one more
pub widest : meant ((83 ∷ 32 ∷ 48 ∷ spaced 18446744073709551615) ∷ (83 ∷ 32 ∷ 48 ∷ spaced 18446744073709551616) ∷ []) ≡ Some (Submit 0 18446744073709551615) ∷ None ∷ []
unfolding grow fields shift next after misled number one_number two_numbers numbers_of command_of line_of pick both spaced digits digits_in
widest = refl

-- "TRC 1 3", "E 0 1", "B 0 1 1 40", "V 1 1 1 40", "X 15 2"
pub written : header 3 ++ (bytes_of (E 0 1) ++ (bytes_of (B 0 (record { ep = 1; ct = 1; vl = 40 })) ++ (bytes_of («V» 1 (record { ep = 1; ct = 1; vl = 40 })) ++ bytes_of (X 15 2)))) ≡
    84 ∷ 82 ∷ 67 ∷ 32 ∷ 49 ∷ 32 ∷ 51 ∷ 10 ∷ 69 ∷ 32 ∷ 48 ∷ 32 ∷ 49 ∷ 10 ∷
    66 ∷ 32 ∷ 48 ∷ 32 ∷ 49 ∷ 32 ∷ 49 ∷ 32 ∷ 52 ∷ 48 ∷ 10 ∷ 86 ∷ 32 ∷ 49 ∷ 32 ∷ 49 ∷ 32 ∷ 49 ∷ 32 ∷ 52 ∷ 48 ∷ 10 ∷
    88 ∷ 32 ∷ 49 ∷ 53 ∷ 32 ∷ 50 ∷ 10 ∷ []
unfolding header bytes_of two four ending spaced digits digits_in pick
written = refl
