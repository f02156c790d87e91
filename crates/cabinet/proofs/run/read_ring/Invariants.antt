use Rattle.std.proofs.Common.{◌≡◌, ◌++◌, take, drop}
use Rattle.cabinet.proofs.run.read_ring.Given as goal

abbrev pub invariant-loop-i : goal.invariant-loop-i
invariant-loop-i l = l.q ≡ take l.i (drop l.fn.at l.fn.held) ++ drop l.i l.initial.q
