use Rattle.std.proofs.Common.{rules, arith}
use Rattle.octets.proofs.Laws.{put-none}
use Rattle.cabinet.proofs.Runs.{ring-put, ring-put-end}
use Rattle.cabinet.proofs.run.write_ring.Goals as goal

pub loop-i-init : goal.loop-i-init
loop-i-init c = put-none _ _

pub loop-i-preserved : goal.loop-i-preserved
loop-i-preserved c = let a = c.args in let l = c.loop-i in rw c.from.ensures (ring-put a.held.now l.held a.q a.at l.i c.requires c.loop-i-test.true (search rules) l.invariant)

pub returns : goal.returns
returns c = let a = c.args in let l = c.loop-i in ring-put-end a.held.now l.held a.q a.at l.i (omega arith) (search rules) l.invariant
