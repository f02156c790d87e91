use borrow.Author.Rules.{rules}
use Rattle.cabinet.proofs.Checks.{checked}
use Rattle.cabinet.proofs.verdict_of.Goals as goal

pub returns : goal.returns
returns c = search (checked, rules)
