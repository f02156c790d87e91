use Rattle.base.specs.Choice.{pick, both}
use Rattle.base.proofs.Choice.{decide}
use Rattle.plan.specs.Plans.{elsewhere}
use borrow.Author.Rules.{rules}
use Rattle.plan.proofs.at_follower.Goals as goal

pub returns-in-1-to-4 : goal.returns-in-1-to-4
unfolding elsewhere pick both
returns-in-1-to-4 c = search (decide, rules)

pub returns-in_default : goal.returns-in_default
unfolding elsewhere pick both
returns-in_default c = search (decide, rules)

pub returns-in_default-2 : goal.returns-in_default-2
unfolding elsewhere pick both
returns-in_default-2 c = search (decide, rules)
