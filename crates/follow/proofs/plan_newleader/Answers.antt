use borrow.Author.Rules.{rules}
use Rattle.rules.specs.Step.{receive, on_newleader}
use Rattle.plan.proofs.Laws.{past-gate}
use Rattle.follow.proofs.Laws.{shut, other-epoch, lead-short, lead-undo, lead-done}
use Rattle.follow.proofs.plan_newleader.Goals as goal
use Rattle.follow.proofs.plan_newleader.Goals.{then-lt-via-then-lt, then-lt-via-else-lt+then-not-same_prefix}

pub returns-in_err-gate : goal.returns-in_err-gate
unfolding receive
returns-in_err-gate c = λ k. shut _ _ _ _ k _ _ _ c.from_residual.ensures.1 (c.in_err-gate.ensures _)

pub returns-then-ne : goal.returns-then-ne
unfolding receive on_newleader
returns-then-ne c = λ k. past-gate _ _ _ _ k _ _ _ _ _ (c.gate.ensures _) c.in_ok-gate.was (search (other-epoch, rules))

pub returns-then-lt : goal.returns-then-lt
unfolding receive
returns-then-lt c = λ k. past-gate _ _ _ _ k _ _ _ _ _ (c.gate.ensures _) c.in_ok-gate.was
    (elim c.then-lt.branch [ then-lt-via-then-lt w ↦ search (lead-short, rules) | then-lt-via-else-lt+then-not-same_prefix w ↦ lead-undo _ _ _ k _ _ _ _ _ (search rules) (search rules) c.requires.0 w.same_prefix.ensures (search rules) ])

pub returns : goal.returns
unfolding receive
returns c = λ k. past-gate _ _ _ _ k _ _ _ _ _ (c.gate.ensures _) c.in_ok-gate.was
    (lead-done _ _ _ k _ _ _ _ _ (search rules) (search rules) c.requires.0 c.same_prefix.ensures _ (search rules) (search rules) c.requires.1.0 (rw (c.planned.ensures, c.no_txn.ensures, c.solo-one.ensures)))
