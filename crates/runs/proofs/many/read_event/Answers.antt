use Rattle.runs.proofs.Series.{read-oracle, read-restart, read-deliver, read-submit, read-unknown}
use Rattle.std.proofs.Common.{arith}
use Rattle.std.proofs.lemmas.Grind.{common_steps}
use Rattle.runs.proofs.many.read_event.Goals as goal

pub returns-in-1 : goal.returns-in-1
returns-in-1 c = let a = c.args in read-oracle a.es.now a.j c.in-1.is

pub returns-in-2 : goal.returns-in-2
returns-in-2 c = let a = c.args in read-restart a.es.now a.j c.in-2.is

pub returns-in-3 : goal.returns-in-3
returns-in-3 c = let a = c.args in read-deliver a.es.now a.j c.in-3.is

pub returns-in-4 : goal.returns-in-4
returns-in-4 c = let a = c.args in read-submit a.es.now a.j c.in-4.is

pub returns-in_default : goal.returns-in_default
returns-in_default c = let a = c.args in read-unknown a.es.now a.j (grind (arith, common_steps)) (grind (arith, common_steps)) (grind (arith, common_steps)) (grind (arith, common_steps))
