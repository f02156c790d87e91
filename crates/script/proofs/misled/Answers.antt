use borrow.Author.Rules.{rules}
use Rattle.script.specs.Line.{misled}
use Rattle.script.proofs.misled.Goals as goal

pub returns-in_default : goal.returns-in_default
unfolding misled
returns-in_default c = search rules

pub returns-in_default-2 : goal.returns-in_default-2
unfolding misled
returns-in_default-2 c = search rules

pub returns-in-empty : goal.returns-in-empty
unfolding misled
returns-in-empty c = search rules

pub returns-in-empty-2 : goal.returns-in-empty-2
unfolding misled
returns-in-empty-2 c = search rules
