use mathlib.Core.Path.{refl}
use borrow.Author.Rules.{rules}
use Rattle.base.proofs.Choice.{not_is, not-no}
use Rattle.turn.proofs.Laws.{act-room, act-done}
use Rattle.turn.proofs.act.act.Goals as goal

pub returns-then-not-may_send : goal.returns-then-not-may_send
returns-then-not-may_send c = let a = c.args in act-room _ _ _ _ _ _ _ _ a.msg.now _ c.decide-p.ensures _ _ (search rules) c.may_send.ensures (not_is _ c.if-not-may_send.true-raw) refl

pub returns : goal.returns
returns c = let a = c.args in act-done _ _ _ _ _ _ _ _ a.msg.now _ c.decide-p.ensures _ _ _ _ _ c.may_send.ensures (not-no _ c.if-not-may_send.false-raw) c.carry.ensures
