use Prim.Native.Nat.{◌≤◌}
use mathlib.Core.Path.{◌≡◌}
use Rattle.base.specs.Quorum.{size}
use Rattle.rules.specs.Words.{has}
use Rattle.words.proofs.size_of.Given as goal

abbrev pub invariant-loop-i : goal.invariant-loop-i
invariant-loop-i l = (l.k ≤ l.i) × (l.k ≡ size (has l.q) l.i)
