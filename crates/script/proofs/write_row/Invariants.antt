use Prim.Native.Nat.{◌+◌, ◌*◌, ◌≤◌}
use Rattle.script.specs.Text.{Wrote}
use Rattle.script.proofs.Texts.{begun}
use Rattle.script.proofs.write_row.Given as goal

abbrev pub invariant-loop-v : goal.invariant-loop-v
invariant-loop-v l = Wrote l.fn.out l.at (begun l.letter l.numbers l.v-index) l.end l.out × (l.end ≤ l.at + 1 + 21 * l.v-index)
