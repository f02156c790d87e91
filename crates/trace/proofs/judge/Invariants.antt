use mathlib.Core.Path.{◌≡◌}
use lib.ListN.{length}
use Rattle.trace.proofs.Walk.{Running}
use Rattle.trace.proofs.judge.Given as goal

abbrev pub invariant-loop-i : goal.invariant-loop-i
invariant-loop-i l = (length l.space ≡ length l.initial.space) × Running l.n l.recs l.initial.space l.count l.space l.s l.i l.nodes
