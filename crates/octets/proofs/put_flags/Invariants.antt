use Rattle.std.proofs.Common.{◌≡◌, take}
use Rattle.rules.specs.Words.{put}
use Rattle.octets.specs.Record.{bits}
use Rattle.octets.proofs.put_flags.Given as goal

abbrev pub invariant-loop-i : goal.invariant-loop-i
invariant-loop-i l = l.w ≡ put l.initial.w l.at (bits (take l.i l.x-items))
