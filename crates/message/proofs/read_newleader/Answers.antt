use native.Mathlib.Omega.{arith}
use Rattle.base.specs.Choice.{both}
use Rattle.rules.specs.Message.{formed}
use Rattle.plan.specs.Plans.{meant, held}
use Rattle.std.proofs.lemmas.Grind.{common_steps}
use Rattle.message.proofs.Laws.{told, not_told, good, part-all}
use Rattle.message.proofs.read_newleader.Goals as goal

pub returns-in_err-e : goal.returns-in_err-e
unfolding formed both
returns-in_err-e c = λ z h. not_told z _ _ _ (grind (arith, common_steps, good, part-all)) (grind (arith, common_steps, good, part-all))

pub returns-then-rises : goal.returns-then-rises
unfolding formed both meant held
returns-then-rises c = λ z h. told z _ _ _ (grind (arith, common_steps, good, part-all)) (grind (arith, common_steps, good, part-all)) (grind (arith, common_steps, good, part-all))

pub returns-else-rises : goal.returns-else-rises
unfolding formed both
returns-else-rises c = λ z h. not_told z _ _ _ (grind (arith, common_steps, good, part-all)) (grind (arith, common_steps, good, part-all))
