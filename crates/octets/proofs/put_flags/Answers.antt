use Rattle.std.proofs.Common.{rules, arith, ◌∙◌}
use Rattle.octets.specs.Record.{bits}
use Rattle.octets.proofs.Laws.{flags-turn, flags-end, put-none, bit-from}
use Rattle.octets.proofs.put_flags.Goals as goal

pub loop-i-init : goal.loop-i-init
unfolding bits
loop-i-init c = put-none _ _

pub loop-i-preserved : goal.loop-i-preserved
loop-i-preserved c = let a = c.args in let l = c.loop-i in rw (c.from.ensures ∙ bit-from _) (flags-turn a.w.now l.w a.at l.i c.requires c.loop-i-test.true a.q (search rules) l.invariant)

pub returns : goal.returns
returns c = let a = c.args in let l = c.loop-i in flags-end a.w.now l.w a.at l.i (omega arith) a.q (search rules) l.invariant
