use native.Mathlib.Omega.{arith}
use Rattle.base.specs.Choice.{both}
use Rattle.rules.specs.Message.{formed}
use Rattle.plan.specs.Plans.{meant, held}
use Rattle.std.proofs.lemmas.Grind.{common_steps}
use Rattle.message.proofs.Laws.{told, not_told}
use Rattle.message.proofs.read_commit.Goals as goal

pub returns-in_err-e : goal.returns-in_err-e
unfolding formed both
returns-in_err-e c = λ z w. not_told z w _ _ (grind (arith, common_steps)) (grind (arith, common_steps))

pub returns-in_err-c : goal.returns-in_err-c
unfolding formed both
returns-in_err-c c = λ z w. not_told z w _ _ (grind (arith, common_steps)) (grind (arith, common_steps))

pub returns : goal.returns
unfolding formed both meant held
returns c = λ z w. told z w _ _ (grind (arith, common_steps)) (grind (arith, common_steps)) (grind (arith, common_steps))
