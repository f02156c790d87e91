use borrow.Author.Rules.{rules}
use Rattle.base.proofs.Choice.{decide}
use Rattle.base.specs.Choice.{either}
use Rattle.trace.specs.Table.{ends}
use Rattle.trace.proofs.epochs.ends.Goals as goal

pub returns-then-k-eq0 : goal.returns-then-k-eq0
unfolding ends either
returns-then-k-eq0 c = search (decide, rules)

pub returns-else-k-eq0 : goal.returns-else-k-eq0
unfolding ends either
returns-else-k-eq0 c = search (decide, rules)
