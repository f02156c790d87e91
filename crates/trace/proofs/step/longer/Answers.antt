use native.Mathlib.Omega.{arith}
use Rattle.std.proofs.lemmas.Result.{err_from_is_err_and}
use mathlib.Core.Path.{◌≡◌, ◌∙◌}
use Rattle.trace.proofs.Leaf.{late-front}
use Rattle.trace.specs.declared.Rule.{Rule}
use Rattle.trace.specs.declared.Rule.TheVariants.{EarlierB}
use Rattle.trace.proofs.Laws.{v-three, v-late, v-on}
use Rattle.trace.proofs.step.longer.Goals as goal

pub returns-in_err-seen : goal.returns-in_err-seen
returns-in_err-seen c =
    let p = err_from_is_err_and c.from_residual.result c.from_residual.ensures.1 in
    let v = rw c.in_err-seen.ensures.ok_part at c.in_err-seen.ensures.value in
    let q : ◌≡◌ {A = Rule} c.in_err-seen.field-0.0 EarlierB = cc in
    rw (p.1, p.2, q) (λ n H g. v-three _ _ _ _ _ H g c.requires.1 c.requires.2 c.requires.3 c.requires.4 (rw c.in_err-seen.ensures.ok_part at c.source.ensures.any))

pub returns-in_err-late : goal.returns-in_err-late
returns-in_err-late c =
    let p = err_from_is_err_and c.from_residual-in_err-late.result c.from_residual-in_err-late.ensures.1 in
    rw (p.1, p.2) (λ n H g. v-late _ _ _ _ _ H g c.requires.1 c.requires.2 c.requires.3 c.requires.4 (rw c.in_ok-seen.ensures.ok_part at c.source.ensures.any) (c.in_err-late.ensures ∙ late-front c.args.r.recs.now c.args.space.now c.args.r.i c.args.s.len (omega (arith, c.requires.0.room, c.requires.0.len)) _))

pub returns : goal.returns
returns c = λ n H g. v-on _ _ _ _ _ H g c.requires.1 c.requires.2 c.requires.3 c.requires.4 (rw c.in_ok-seen.ensures.ok_part at c.source.ensures.any) c.requires.0.room c.requires.0.len (c.in_ok-late.ensures ∙ late-front c.args.r.recs.now c.args.space.now c.args.r.i c.args.s.len (omega (arith, c.requires.0.room, c.requires.0.len)) _)
