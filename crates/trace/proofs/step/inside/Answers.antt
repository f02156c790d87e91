use Rattle.std.proofs.lemmas.Result.{err_from_is_err_and}
use mathlib.Core.Path.{◌≡◌}
use Rattle.trace.specs.declared.Rule.{Rule}
use Rattle.trace.specs.declared.Rule.TheVariants.{EarlierB}
use Rattle.trace.proofs.Laws.{inside_on, inside-four, inside-three}
use Rattle.trace.proofs.step.inside.Goals as goal

pub returns-then-same : goal.returns-then-same
returns-then-same c = inside_on _ _ _ _ _ (rw (c.at.ensures.0, c.at.ensures.1) at c.same.ensures) c.if-same.true

pub returns-in_err-ok_or : goal.returns-in_err-ok_or
returns-in_err-ok_or c =
    let p = err_from_is_err_and c.from_residual.result c.from_residual.ensures.1 in
    let v = rw c.in_err-ok_or.ensures.ok_part at c.in_err-ok_or.ensures.value in
    let q : ◌≡◌ {A = Rule} c.in_err-ok_or.field-0.0 EarlierB = cc in
    rw (p.1, p.2, q) (inside-three _ _ _ _ _ (rw (c.at.ensures.0, c.at.ensures.1) at c.same.ensures) c.if-same.false (rw c.in_err-ok_or.ensures.ok_part at c.source.ensures.any))

pub returns : goal.returns
returns c = let s = rw c.in_ok-ok_or.ensures.ok_part at c.source.ensures.any in inside-four _ _ _ _ _ (rw (c.at.ensures.0, c.at.ensures.1) at c.same.ensures) c.if-same.false s.1
