use borrow.Author.Rules.{rules}
use Rattle.rules.specs.Step.{receive}
use Rattle.plan.proofs.Laws.{past-gate}
use Rattle.follow.proofs.Laws.{shut, epoch-low, epoch-same, epoch-new}
use Rattle.follow.proofs.plan_newepoch.Goals as goal

pub returns-in_err-gate : goal.returns-in_err-gate
unfolding receive
returns-in_err-gate c = λ h k m. shut _ _ _ h k m _ _ c.from_residual.ensures.1 (c.in_err-gate.ensures _)

pub returns-then-lt : goal.returns-then-lt
unfolding receive
returns-then-lt c = λ h k m. past-gate _ _ _ h k m _ _ _ _ (c.gate.ensures _) c.in_ok-gate.was (search (epoch-low, rules))

pub returns-then-eq : goal.returns-then-eq
unfolding receive
returns-then-eq c = λ h k m. past-gate _ _ _ h k m _ _ _ _ (c.gate.ensures _) c.in_ok-gate.was (epoch-same _ _ h k m _ _ _ (search rules) c.requires.0 c.quiet.ensures)

pub returns : goal.returns
unfolding receive
returns c = λ h k m. past-gate _ _ _ h k m _ _ _ _ (c.gate.ensures _) c.in_ok-gate.was
    (epoch-new _ _ h k m _ _ _ (search rules) (search rules) c.requires.0 c.requires.1 (rw (c.planned.ensures, c.no_txn.ensures, c.solo-one.ensures)))
