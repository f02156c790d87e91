use mathlib.Core.Path.{ap, ◌∙◌}
use Rattle.std.specs.Prelude.{Err}
use Rattle.std.proofs.lemmas.Result.{err_from_is_err_and}
use Rattle.lead.proofs.Laws.{cepoch-gate, cepoch-first, cepoch-later}
use Rattle.lead.proofs.plan_cepoch.Goals as goal

pub returns-in_err-gate : goal.returns-in_err-gate
returns-in_err-gate c = λ h k m. let p = err_from_is_err_and c.from_residual.result c.from_residual.ensures.1 in cepoch-gate _ _ _ h k m _ _ c.in_err-gate.ensures (p.1 ∙ ap Err p.2)

pub returns-then-s-eq5 : goal.returns-then-s-eq5
returns-then-s-eq5 c = λ h k m. cepoch-first _ _ _ h k m _ _ c.in_ok-gate.ensures c.if-s-eq5.true (c.join_first.ensures h k m)

pub returns-else-s-eq5 : goal.returns-else-s-eq5
returns-else-s-eq5 c = λ h k m. cepoch-later _ _ _ h k m _ _ c.in_ok-gate.ensures c.if-s-eq5.false (c.join_later.ensures h k m)
