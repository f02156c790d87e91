use Rattle.plan.proofs.Table.{led, followed}
use borrow.Author.Rules.{rules}
use Rattle.plan.proofs.by_match.Goals as goal

pub returns-in-1 : goal.returns-in-1
returns-in-1 c = search (led, rules)

pub returns-in_default : goal.returns-in_default
returns-in_default c = search (followed, rules)
