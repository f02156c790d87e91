use mathlib.Core.Path.{ap, ◌∙◌}
use Rattle.std.specs.Prelude.{Err}
use Rattle.std.proofs.lemmas.Result.{err_from_is_err_and}
use Rattle.lead.proofs.Laws.{acke-gate, acke-twice, acke-late, acke-epoch, acke-count}
use borrow.Author.Rules.{rules}
use Rattle.lead.proofs.plan_acke.Goals as goal
use Rattle.lead.proofs.plan_acke.Goals.{else-s-eq6-via-then-s-eq6+else-s-f, else-s-eq6-via-else-s-eq6}

pub returns-in_err-gate : goal.returns-in_err-gate
returns-in_err-gate c = let p = err_from_is_err_and c.from_residual.result c.from_residual.ensures.1 in acke-gate _ _ _ _ _ _ _ _ _ _ c.from-f.ensures c.in_err-gate.ensures (p.1 ∙ ap Err p.2)

pub returns-then-s-f : goal.returns-then-s-f
returns-then-s-f c = acke-twice _ _ _ _ _ _ _ _ _ _ c.from-f.ensures c.in_ok-gate.ensures c.if-s-eq6.true c.if-s-f.true

pub returns-then-ne : goal.returns-then-ne
returns-then-ne c = acke-epoch _ _ _ _ _ _ _ _ _ _ c.from-f.ensures c.in_ok-gate.ensures
    (λ l. elim c.else-s-eq6.branch [ else-s-eq6-via-then-s-eq6+else-s-f w ↦ w.if-s-f.false | else-s-eq6-via-else-s-eq6 w ↦ absurd (w.if-s-eq6.false l) ]) (search (rules, c.if-ne))

pub returns-then-s-ne6 : goal.returns-then-s-ne6
returns-then-s-ne6 c = acke-late _ _ _ _ _ _ _ _ _ _ c.from-f.ensures c.in_ok-gate.ensures (search (rules, c.if-ne)) c.if-s-ne6.true c.requires.0 c.quiet.ensures

pub returns : goal.returns
returns c = acke-count _ _ _ _ _ _ _ _ _ _ c.from-f.ensures c.in_ok-gate.ensures
    (λ l. elim c.else-s-eq6.branch [ else-s-eq6-via-then-s-eq6+else-s-f w ↦ w.if-s-f.false | else-s-eq6-via-else-s-eq6 w ↦ absurd (w.if-s-eq6.false l) ]) (search (rules, c.if-ne)) c.if-s-ne6.false c.count_epoch.ensures
