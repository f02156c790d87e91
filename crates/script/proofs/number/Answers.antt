use borrow.Author.Rules.{rules}
use Rattle.base.specs.Choice.{pick}
use Rattle.script.specs.Line.{number}
use Rattle.script.proofs.number.Goals as goal

pub returns-then-misled : goal.returns-then-misled
unfolding number pick
returns-then-misled c = search rules

pub returns : goal.returns
unfolding number pick
returns c = search rules
