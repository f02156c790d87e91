use Rattle.std.proofs.lemmas.Result.{err_from_is_err_and}
use Rattle.std.specs.Prelude.{Ok, Err}
use mathlib.Core.Path.{ap, sym, ◌∙◌}
use mathlib.Core.Path.{refl}
use Rattle.base.proofs.Choice.{not_is, not-no}
use Rattle.server.proofs.Room.{preview-state, preview-lent, preview-can, told_of, can-of, Not}
use Rattle.server.proofs.Laws.{room_of}
use Rattle.server.proofs.preview.Goals as goal

pub returns-then-not-sound : goal.returns-then-not-sound
returns-then-not-sound c = let a = c.args in preview-state a.z a.s a.ev a.hist.now a.cand.now a.msg.now _ _ c.sound.ensures (not_is _ c.if-not-sound.true-raw) refl

pub is_lent-requires : goal.is_lent-requires
is_lent-requires c = let a = c.args in room_of a.z a.s a.hist.now a.cand.now _ c.sound.ensures (not-no _ c.if-not-sound.false-raw)

pub returns-then-not-is_lent : goal.returns-then-not-is_lent
returns-then-not-is_lent c = let a = c.args in preview-lent a.z a.s a.ev a.hist.now a.cand.now a.msg.now _ _ _ c.sound.ensures (not-no _ c.if-not-sound.false-raw) c.is_lent.ensures (not_is _ c.if-not-is_lent.true-raw) refl

pub decide-requires : goal.decide-requires
decide-requires c = let a = c.args in can-of a.z a.s a.ev a.hist.now a.cand.now a.msg.now Not _ _ c.sound.ensures (not-no _ c.if-not-sound.false-raw) c.is_lent.ensures (not-no _ c.if-not-is_lent.false-raw)

pub returns-in_err-r : goal.returns-in_err-r
returns-in_err-r c = let a = c.args in let p = err_from_is_err_and c.from_residual.result c.from_residual.ensures.1 in preview-can a.z a.s a.ev a.hist.now a.cand.now a.msg.now Not c.decide.result c.from_residual.result _ _ c.sound.ensures (not-no _ c.if-not-sound.false-raw) c.is_lent.ensures (not-no _ c.if-not-is_lent.false-raw) c.decide.ensures (p.1 ∙ ap Err p.2 ∙ sym (ap (told_of a.z a.s.me) c.in_err-r.was))

pub returns : goal.returns
returns c = let a = c.args in preview-can a.z a.s a.ev a.hist.now a.cand.now a.msg.now Not c.decide.result _ _ _ c.sound.ensures (not-no _ c.if-not-sound.false-raw) c.is_lent.ensures (not-no _ c.if-not-is_lent.false-raw) c.decide.ensures (ap Ok c.seen.ensures ∙ sym (ap (told_of a.z a.s.me) c.in_ok-r.was))
