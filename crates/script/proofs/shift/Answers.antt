use borrow.Author.Rules.{rules}
use Rattle.base.specs.Choice.{pick, both}
use Rattle.script.specs.Line.{shift}
use Rattle.script.proofs.shift.Goals as goal

pub returns-then-not-is_ascii_digit : goal.returns-then-not-is_ascii_digit
unfolding shift pick both
returns-then-not-is_ascii_digit c = search rules

pub returns-in_err-checked_mul : goal.returns-in_err-checked_mul
unfolding shift pick both
returns-in_err-checked_mul c = search rules

pub returns : goal.returns
unfolding shift pick both
returns c = search rules
