use borrow.Author.Rules.{rules}
use Rattle.base.specs.Choice.{pick, both}
use Rattle.script.specs.Line.{one_number}
use Rattle.script.proofs.one_number.Goals as goal

pub returns-in-78-3-to-7 : goal.returns-in-78-3-to-7
unfolding one_number pick both
returns-in-78-3-to-7 c = search rules

pub returns-in-82-default : goal.returns-in-82-default
unfolding one_number pick both
returns-in-82-default c = search rules

pub returns-in_default : goal.returns-in_default
unfolding one_number pick both
returns-in_default c = search rules

pub returns-in_default-2 : goal.returns-in_default-2
unfolding one_number pick both
returns-in_default-2 c = search rules

pub returns-in_default-3 : goal.returns-in_default-3
unfolding one_number pick both
returns-in_default-3 c = search rules
