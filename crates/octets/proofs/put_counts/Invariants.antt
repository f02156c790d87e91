use Rattle.std.proofs.Common.{◌≡◌, take}
use Rattle.rules.specs.Words.{put}
use Rattle.octets.proofs.put_counts.Given as goal

abbrev pub invariant-loop-i : goal.invariant-loop-i
invariant-loop-i l = l.w ≡ put l.initial.w l.at (take l.i l.n-items)
