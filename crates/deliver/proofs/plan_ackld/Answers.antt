use Rattle.rules.specs.Step.{receive}
use Rattle.deliver.proofs.Laws.{shut, passed, sync-epoch, sync-third, sync-gap, sync-done}
use borrow.Author.Rules.{rules}
use Rattle.deliver.proofs.plan_ackld.Goals as goal

pub returns-in_err-gate : goal.returns-in_err-gate
unfolding receive
returns-in_err-gate c = λ h k m. shut _ _ _ h k m _ _ _ _ c.from.ensures _ c.from_residual.ensures.1 c.in_err-gate.ensures

pub returns-then-ne : goal.returns-then-ne
unfolding receive
returns-then-ne c = λ h k m. passed _ _ _ h k m _ _ _ _ c.from.ensures _ _ c.gate.ensures c.in_ok-gate.was (search (sync-epoch, rules))

pub returns-then-s-eq7 : goal.returns-then-s-eq7
unfolding receive
returns-then-s-eq7 c = λ h k m. passed _ _ _ h k m _ _ _ _ c.from.ensures _ _ c.gate.ensures c.in_ok-gate.was (sync-third _ _ h k m _ _ _ _ (search rules) (search rules) (c.sync_third.ensures h k m))

pub returns-then-lt : goal.returns-then-lt
unfolding receive
returns-then-lt c = λ h k m. passed _ _ _ h k m _ _ _ _ c.from.ensures _ _ c.gate.ensures c.in_ok-gate.was (search (sync-gap, rules))

pub returns : goal.returns
unfolding receive
returns c = λ h k m. passed _ _ _ h k m _ _ _ _ c.from.ensures _ _ c.gate.ensures c.in_ok-gate.was (sync-done _ _ h k m _ _ _ _ (search rules) (search rules) (search rules) c.sync_fourth.ensures c.requires.0 c.requires.1)
