use mathlib.Core.Path.{refl}
use borrow.Author.Rules.{rules}
use Rattle.base.proofs.Choice.{not_is, not-no}
use Rattle.server.proofs.Laws.{state-not, lent-not, box-not, known_of, step-does, room_of, No}
use Rattle.server.proofs.step.Goals as goal

pub returns-then-not-sound : goal.returns-then-not-sound
returns-then-not-sound c = let a = c.args in state-not a.z a.s a.ev a.hist.now a.cand.now a.msg.now a.out.now _ _ c.sound.ensures (not_is _ c.if-not-sound.true-raw) refl

pub is_lent-requires : goal.is_lent-requires
is_lent-requires c = let a = c.args in room_of a.z a.s a.hist.now a.cand.now _ c.sound.ensures (not-no _ c.if-not-sound.false-raw)

pub returns-then-not-is_lent : goal.returns-then-not-is_lent
returns-then-not-is_lent c = let a = c.args in lent-not a.z a.s a.ev a.hist.now a.cand.now a.msg.now a.out.now _ _ _ c.sound.ensures (not-no _ c.if-not-sound.false-raw) c.is_lent.ensures (not_is _ c.if-not-is_lent.true-raw) refl

pub returns-then-out-z : goal.returns-then-out-z
returns-then-out-z c = let a = c.args in box-not a.z a.s a.ev a.hist.now a.cand.now a.msg.now a.out.now _ _ _ c.sound.ensures (not-no _ c.if-not-sound.false-raw) c.is_lent.ensures (not-no _ c.if-not-is_lent.false-raw) (search (rules, c.if-out-z)) refl

pub step_known-requires : goal.step_known-requires
step_known-requires c = let a = c.args in known_of a.z a.s a.ev a.hist.now a.cand.now a.msg.now a.out.now (No a.s) _ _ c.sound.ensures (not-no _ c.if-not-sound.false-raw) c.is_lent.ensures (not-no _ c.if-not-is_lent.false-raw) (search (rules, c.if-out-z))

pub returns : goal.returns
returns c = let a = c.args in step-does a.z a.s a.ev a.hist.now a.cand.now a.msg.now a.out.now _ _ _ _ (known_of a.z a.s a.ev a.hist.now a.cand.now a.msg.now a.out.now (No a.s) _ _ c.sound.ensures (not-no _ c.if-not-sound.false-raw) c.is_lent.ensures (not-no _ c.if-not-is_lent.false-raw) (search (rules, c.if-out-z))) c.step_known.ensures
