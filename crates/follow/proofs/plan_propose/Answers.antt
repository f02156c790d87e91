use borrow.Author.Rules.{rules}
use Rattle.rules.specs.Step.{receive, on_propose}
use Rattle.plan.proofs.Laws.{past-gate}
use Rattle.follow.proofs.Laws.{shut, other-epoch, propose-place, propose-gap, propose-full, propose-done}
use Rattle.follow.proofs.plan_propose.Goals as goal
use Rattle.follow.proofs.plan_propose.Goals.{then-n-s-via-then-n-s, then-n-s-via-else-n-s+then-not-comes_next}

pub returns-in_err-gate : goal.returns-in_err-gate
unfolding receive
returns-in_err-gate c = λ k m. shut _ _ _ _ k m _ _ c.from_residual.ensures.1 (c.in_err-gate.ensures _)

pub returns-then-ne : goal.returns-then-ne
unfolding receive on_propose
returns-then-ne c = λ k m. past-gate _ _ _ _ k m _ _ _ _ (c.gate.ensures _) c.in_ok-gate.was (search (other-epoch, rules))

pub returns-then-n-s : goal.returns-then-n-s
unfolding receive
returns-then-n-s c = λ k m. past-gate _ _ _ _ k m _ _ _ _ (c.gate.ensures _) c.in_ok-gate.was
    (elim c.then-n-s.branch [ then-n-s-via-then-n-s w ↦ search (propose-place, rules) | then-n-s-via-else-n-s+then-not-comes_next w ↦ propose-gap _ _ _ k m _ _ _ _ _ _ (search rules) (search rules) w.last_id.ensures w.comes_next.ensures (search rules) ])

pub returns-then-le : goal.returns-then-le
unfolding receive
returns-then-le c = λ k m. past-gate _ _ _ _ k m _ _ _ _ (c.gate.ensures _) c.in_ok-gate.was
    (propose-full _ _ _ k m _ _ _ _ _ _ (search rules) (search rules) c.last_id.ensures c.comes_next.ensures (search rules) (search rules))

pub returns : goal.returns
unfolding receive
returns c = λ k m. past-gate _ _ _ _ k m _ _ _ _ (c.gate.ensures _) c.in_ok-gate.was
    (propose-done _ _ _ k m _ _ _ _ _ _ (search rules) (search rules) c.last_id.ensures c.comes_next.ensures _ (search rules) (search rules) c.requires.0 c.requires.1.0 (rw (c.planned.ensures, c.solo-one.ensures)))
