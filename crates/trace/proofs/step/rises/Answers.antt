use borrow.Author.Rules.{rules}
use Rattle.base.proofs.Choice.{decide}
use Rattle.base.specs.Choice.{pick}
use Rattle.trace.proofs.step.rises.Goals as goal

pub returns-in-None : goal.returns-in-None
unfolding pick
returns-in-None c = search (decide, rules)

pub returns-in-Some : goal.returns-in-Some
unfolding pick
returns-in-Some c = search (decide, rules)
