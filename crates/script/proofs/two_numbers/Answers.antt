use borrow.Author.Rules.{rules}
use Rattle.base.specs.Choice.{pick}
use Rattle.script.specs.Line.{two_numbers}
use Rattle.script.proofs.two_numbers.Goals as goal

pub returns-in-79 : goal.returns-in-79
unfolding two_numbers pick
returns-in-79 c = search rules

pub returns-in-68 : goal.returns-in-68
unfolding two_numbers pick
returns-in-68 c = search rules

pub returns-in-83 : goal.returns-in-83
unfolding two_numbers pick
returns-in-83 c = search rules

pub returns-in_default : goal.returns-in_default
unfolding two_numbers pick
returns-in_default c = search rules
