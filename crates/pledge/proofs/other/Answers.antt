use Rattle.std.proofs.Common.{arith, sym}
use Rattle.pledge.proofs.Named.{other-low, other-high}
use Rattle.pledge.proofs.other.Goals as goal

pub returns-then-j-from : goal.returns-then-j-from
returns-then-j-from c = sym (other-low c.args.x c.args.j (omega (arith, c.if-j-from.true, c.from.ensures)))

pub returns-else-j-from : goal.returns-else-j-from
returns-else-j-from c = sym (other-high c.args.x c.args.j (omega (arith, c.if-j-from.false, c.from.ensures)))
