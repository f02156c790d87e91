use Rattle.plan.proofs.Table.{rows, in_table}
use borrow.Author.Rules.{rules}
use Rattle.plan.proofs.by_table.Goals as goal

pub returns : goal.returns
unfolding rows
returns c = in_table _ _ c.args.kind c.args.stage c.from.result c.from-2.result (search rules) (search rules) (search rules) (search rules) (search rules)
