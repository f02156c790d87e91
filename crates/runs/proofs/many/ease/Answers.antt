use Prim.Native.Nat.{◌*◌, ◌<◌}
use mathlib.Core.Path.{◌∙◌}
use mathlib.Core.Path.{refl}
use native.Mathlib.Omega.{arith}
use borrow.Author.Rules.{rules}
use Rattle.rules.proofs.WellFormed.{sized}
use Rattle.ring.proofs.Laws.{times}
use Rattle.runs.proofs.Series.{ease-next}
use Rattle.runs.proofs.Series.{mid-good, ease-start, ease-stop, ease-end}
use Rattle.runs.proofs.many.ease.Goals as goal

pub loop-t-init : goal.loop-t-init
loop-t-init c = let a = c.args in (search rules, (refl, (refl, (refl, (refl, ease-start a.c a.budget a.hists.now a.cands.now a.queue.now a.out.now c.requires)))))

pub lowest-j-requires : goal.lowest-j-requires
lowest-j-requires c = c.loop-t.invariant.1.1.1.1.1.good.ringed.few

pub overflow_mul-n : goal.overflow_mul-n
overflow_mul-n c = let p = c.loop-t.invariant.1.1.1.1.1.good.ringed.few in let u = times c.args.c.sizes.n c.args.c.sizes.n 7 7 p p in search rules

pub returns-then-n-j : goal.returns-then-n-j
returns-then-n-j c = ease-stop _ _ _ _ _ _ _ _ _ _ _ _ c.loop-t.invariant.1.1.1.1.1 c.lowest-j.ensures.0 (search (rules, c.if-n-j))

pub nonzero_div-e : goal.nonzero_div-e
nonzero_div-e c = let s = (sized c.args.c.sizes c.loop-t.invariant.1.1.1.1.1.good.sizes).three in omega arith

pub nonzero_rem-e : goal.nonzero_rem-e
nonzero_rem-e c = let s = (sized c.args.c.sizes c.loop-t.invariant.1.1.1.1.1.good.sizes).three in omega arith

pub on-t-requires : goal.on-t-requires
on-t-requires c = let m = c.loop-t.invariant.1.1.1.1.1 in let l : c.loop-t.t.met < c.args.budget = search rules in let b : c.args.budget < 18446744073709551616 = search (rules, c.ranges) in (mid-good _ _ _ _ _ _ _ _ _ _ _ _ m, (omega arith, m.few))

pub loop-t-smaller : goal.loop-t-smaller
loop-t-smaller c = let met = c.on-t.ensures.met in let l : c.loop-t.t.met < c.args.budget = search (rules, c.loop-t-test) in omega arith

pub loop-t-preserved : goal.loop-t-preserved
loop-t-preserved c = let i = c.loop-t.invariant in let m = c.loop-t.invariant.1.1.1.1.1 in let met = c.on-t.ensures.met in let l : c.loop-t.t.met < c.args.budget = search (rules, c.loop-t-test) in let f : c.lowest-j.result < c.args.c.sizes.n * c.args.c.sizes.n = search (rules, c.if-n-j) in (omega arith, (c.on-t.auto.hists ∙ i.1.0, (c.on-t.auto.cands ∙ i.1.1.0, (c.on-t.auto.queue ∙ i.1.1.1.0, (c.on-t.auto.out ∙ i.1.1.1.1.0, ease-next _ _ _ _ _ _ _ _ _ _ _ _ _ _ _ _ _ _ m l c.lowest-j.ensures.0 f c.on-t.ensures)))))

pub returns : goal.returns
returns c = ease-end _ _ _ _ _ _ _ _ _ _ _ c.loop-t.invariant.1.1.1.1.1 (search rules)
