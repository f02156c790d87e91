use Prim.Native.Nat.{◌+◌, ◌*◌}
use mathlib.Core.Path.{refl, ap, ◌∙◌}
use native.Mathlib.Omega.{arith}
use Rattle.std.specs.Prelude.{Err}
use Rattle.std.proofs.lemmas.Result.{err_from_is_err_and}
use Rattle.base.proofs.Refusals.{number-not}
use Rattle.cabinet.proofs.Laws.{step-refused, step-done}
use Rattle.cabinet.proofs.step_bytes.Goals as goal

pub returns-in_err-answer : goal.returns-in_err-answer
returns-in_err-answer c = let p = err_from_is_err_and c.from_residual.result c.from_residual.ensures.1 in rw (p.1 ∙ ap Err p.2) (step-refused c.args.z c.args.s c.args.ev c.args.lent (2 * c.args.z.room.0) (6 * (5 + 2 * c.args.z.room.0)) c.args.hist.now c.args.cand.now c.args.msg.now c.args.out.now _ _ _ _ _ _ _ _ _ _ _ _ (omega arith) (omega arith) c.load.ensures c.load-2.ensures c.load-3.ensures c.load-4.ensures (rw c.in_err-answer.was at c.step.ensures) (number-not _))

pub returns : goal.returns
returns c = step-done c.args.z c.args.s c.args.ev c.args.lent (2 * c.args.z.room.0) (6 * (5 + 2 * c.args.z.room.0)) c.args.hist.now c.args.cand.now c.args.msg.now c.args.out.now _ _ _ _ _ _ _ _ _ _ _ _ (omega arith) (omega arith) c.load.ensures c.load-2.ensures c.load-3.ensures c.load-4.ensures (rw c.in_ok-answer.was at c.step.ensures) _ _ _ refl c.requires.hist c.requires.cand c.step.auto.hist c.step.auto.cand c.step.auto.out c.save.ensures c.save-2.ensures c.save-3.ensures
