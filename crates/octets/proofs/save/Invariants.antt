use Rattle.std.proofs.Common.{◌≡◌, ◌++◌, ◌*◌, take, drop}
use Rattle.octets.specs.Bytes.{bytes_of}
use Rattle.octets.proofs.save.Given as goal

abbrev pub invariant-loop-i : goal.invariant-loop-i
invariant-loop-i l = l.b ≡ bytes_of (take l.i l.x-items) ++ drop (8 * l.i) l.initial.b
