use Rattle.rules.specs.Step.{receive}
use Rattle.plan.proofs.Laws.{past-gate}
use Rattle.follow.proofs.Laws.{shut}
use Rattle.follow.proofs.plan_commitld.Goals as goal

pub returns-in_err-gate : goal.returns-in_err-gate
unfolding receive
returns-in_err-gate c = λ h k m. shut _ _ _ h k m _ _ c.from_residual.ensures.1 (c.in_err-gate.ensures _)

pub returns : goal.returns
unfolding receive
returns c = λ h k m. past-gate _ _ _ h k m _ _ _ _ (c.gate.ensures _) c.in_ok-gate.was (c.commit_past.ensures h k m)
