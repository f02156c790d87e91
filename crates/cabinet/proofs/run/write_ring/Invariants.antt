use Rattle.std.proofs.Common.{◌≡◌, take}
use Rattle.rules.specs.Words.{put}
use Rattle.cabinet.proofs.run.write_ring.Given as goal

abbrev pub invariant-loop-i : goal.invariant-loop-i
invariant-loop-i l = l.held ≡ put l.initial.held l.at (take l.i l.x-items)
