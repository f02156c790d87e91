use native.Mathlib.Omega.{arith}
use Rattle.base.specs.Choice.{both}
use Rattle.rules.specs.Message.{formed}
use Rattle.plan.specs.Plans.{meant, held}
use Rattle.std.proofs.lemmas.Grind.{common_steps}
use Rattle.message.proofs.Laws.{told, not_told, txn-at}
use Rattle.message.proofs.read_propose.Goals as goal

pub returns-in_err-e : goal.returns-in_err-e
unfolding formed both
returns-in_err-e c = λ z w. not_told z _ _ _ (grind (arith, common_steps, txn-at)) (grind (arith, common_steps, txn-at))

pub returns-in_err-k : goal.returns-in_err-k
unfolding formed both
returns-in_err-k c = λ z w. not_told z _ _ _ (grind (arith, common_steps, txn-at)) (grind (arith, common_steps, txn-at))

pub returns-then-id-ge1 : goal.returns-then-id-ge1
unfolding formed both meant held
returns-then-id-ge1 c = λ z w. told z _ _ _ (grind (arith, common_steps, txn-at)) (grind (arith, common_steps, txn-at)) (grind (arith, common_steps, txn-at))

pub returns-else-id-m : goal.returns-else-id-m
unfolding formed both
returns-else-id-m c = λ z w. not_told z _ _ _ (grind (arith, common_steps, txn-at)) (grind (arith, common_steps, txn-at))
