use mathlib.Core.Path.{◌≡◌}
use lib.ListN.{drop}
use Rattle.std.specs.Prelude.{Some}
use Rattle.script.specs.Line.{after}
use Rattle.script.proofs.read_digits.Given as goal

abbrev pub invariant-loop-b : goal.invariant-loop-b
invariant-loop-b l = after (Some l.v) (drop l.b-index l.part) ≡ after (Some 0) l.part
