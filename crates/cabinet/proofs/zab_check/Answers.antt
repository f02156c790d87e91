use Rattle.base.specs.Choice.{pick, both}
use Rattle.cabinet.specs.Trace.{said, told_of, check_of}
use borrow.Author.Rules.{rules}
use Rattle.cabinet.proofs.zab_check.Goals as goal

pub returns-then-told-ne8 : goal.returns-then-told-ne8
unfolding check_of pick both
returns-then-told-ne8 c = search rules

pub returns-in-Keeps : goal.returns-in-Keeps
unfolding check_of said told_of pick both
returns-in-Keeps c = search rules

pub returns-in-Breaks : goal.returns-in-Breaks
unfolding check_of said told_of pick both
returns-in-Breaks c = search rules

pub returns-in-Refused : goal.returns-in-Refused
unfolding check_of said told_of pick both
returns-in-Refused c = search rules
