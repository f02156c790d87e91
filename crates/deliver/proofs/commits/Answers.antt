use Rattle.deliver.proofs.Laws.{commits-yes, commits-no}
use borrow.Author.Rules.{rules}
use Rattle.deliver.proofs.commits.Goals as goal

pub returns-then-le : goal.returns-then-le
returns-then-le c = search (commits-no, rules)

pub returns : goal.returns
returns c = search (commits-yes, rules)
