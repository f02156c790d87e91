use Rattle.std.proofs.Common.{◌≡◌, length, take}
use Rattle.words.proofs.copy_over.Given as goal

abbrev pub invariant-loop-i : goal.invariant-loop-i
invariant-loop-i l = (length l.dst ≡ length l.src) × (take l.i l.dst ≡ take l.i l.src)
