use Rattle.std.proofs.Common.{◌≡◌, ◌++◌, drop}
use Rattle.octets.specs.Bytes.{words_of}
use Rattle.octets.proofs.load.Given as goal

abbrev pub invariant-loop-i : goal.invariant-loop-i
invariant-loop-i l = l.x-items ≡ words_of l.i l.b ++ drop l.i l.initial.x-items
