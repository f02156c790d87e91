use borrow.Author.Rules.{rules}
use Rattle.base.proofs.Choice.{decide}
use Rattle.base.specs.Choice.{both}
use Rattle.trace.proofs.step.lacks.Goals as goal

pub returns-then-c-marks : goal.returns-then-c-marks
unfolding both
returns-then-c-marks c = search (decide, rules)

pub returns-else-c-marks : goal.returns-else-c-marks
unfolding both
returns-else-c-marks c = search (decide, rules)
