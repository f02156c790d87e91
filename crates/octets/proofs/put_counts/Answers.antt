use Rattle.std.proofs.Common.{rules, arith}
use Rattle.octets.proofs.Laws.{counts-turn, counts_end, put-none}
use Rattle.octets.proofs.put_counts.Goals as goal

pub loop-i-init : goal.loop-i-init
loop-i-init c = put-none _ _

pub loop-i-preserved : goal.loop-i-preserved
loop-i-preserved c = let a = c.args in let l = c.loop-i in rw c.from.ensures (counts-turn a.w.now l.w a.at l.i c.requires c.loop-i-test.true a.q (search rules) l.invariant)

pub returns : goal.returns
returns c = let a = c.args in let l = c.loop-i in counts_end a.w.now l.w a.at l.i (omega arith) a.q (search rules) l.invariant
