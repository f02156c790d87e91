use Prim.Native.Nat.{◌/◌, ◌<◌}
use mathlib.Core.Path.{◌≡◌}
use native.Mathlib.Omega.{arith}
use lib.ListN.{length}
use borrow.Author.Rules.{rules}
use Rattle.base.proofs.Choice.{not_is, not-no}
use Rattle.site.specs.Site.{site_of}
use Rattle.site.proofs.Goods.{good-lent}
use Rattle.runs.proofs.Series.{runs-refused, run-unsound, run-uneven, run_sound, within_all, within-budget, run-does}
use Rattle.runs.proofs.run.Goals as goal

pub returns-then-not-good : goal.returns-then-not-good
returns-then-not-good c = let a = c.args in runs-refused a.c _ _ a.hists.now a.cands.now a.queue.now a.out.now c.refused.result (run-unsound a.c.sizes a.c.depth (site_of a.c a.hists.now a.cands.now a.queue.now a.out.now) a.es.now c.good.result c.good.ensures (not_is _ c.if-not-good.true-raw)) c.refused.ensures

pub returns-then-es-ne0 : goal.returns-then-es-ne0
returns-then-es-ne0 c = let a = c.args in runs-refused a.c _ _ a.hists.now a.cands.now a.queue.now a.out.now c.refused-then-es-ne0.result (run-uneven a.c.sizes a.c.depth (site_of a.c a.hists.now a.cands.now a.queue.now a.out.now) a.es.now c.if-es-ne0.true) c.refused-then-es-ne0.ensures

pub many-requires : goal.many-requires
many-requires c = let a = c.args in let s : length a.c.servers ≡ 7 = c.well_formed.0.1.1.1.1.0.1.0.1 in let u : length a.c.rings.heads ≡ 49 = c.well_formed.0.1.1.1.1.1.0.1.1.0.1.0.1 in let v : length a.c.rings.counts ≡ 49 = c.well_formed.0.1.1.1.1.1.0.1.1.1.0.1.0.1 in (good-lent a.c a.hists.now a.cands.now a.queue.now a.out.now c.good.result s u v c.good.ensures (not-no _ c.if-not-good.false-raw), omega arith)

pub returns-then-n-budget : goal.returns-then-n-budget
returns-then-n-budget c = let a = c.args in run-does a.c _ a.es.now a.budget (length a.es.now / 3) a.hists.now a.cands.now a.queue.now a.out.now c.many.result _ _ _ _ (run_sound a.c.sizes a.c.depth (site_of a.c a.hists.now a.cands.now a.queue.now a.out.now) a.es.now c.good.result c.good.ensures (not-no _ c.if-not-good.false-raw) c.if-es-ne0.false) (within_all a.budget (length a.es.now / 3) (search (rules, c.if-n-budget))) c.many.ensures

pub many-requires-2 : goal.many-requires-2
many-requires-2 c = let a = c.args in let s : length a.c.servers ≡ 7 = c.well_formed.0.1.1.1.1.0.1.0.1 in let u : length a.c.rings.heads ≡ 49 = c.well_formed.0.1.1.1.1.1.0.1.1.0.1.0.1 in let v : length a.c.rings.counts ≡ 49 = c.well_formed.0.1.1.1.1.1.0.1.1.1.0.1.0.1 in let l : a.budget < length a.es.now / 3 = search (rules, c.if-n-budget) in (good-lent a.c a.hists.now a.cands.now a.queue.now a.out.now c.good.result s u v c.good.ensures (not-no _ c.if-not-good.false-raw), omega arith)

pub returns : goal.returns
returns c = let a = c.args in run-does a.c _ a.es.now a.budget a.budget a.hists.now a.cands.now a.queue.now a.out.now c.many-2.result _ _ _ _ (run_sound a.c.sizes a.c.depth (site_of a.c a.hists.now a.cands.now a.queue.now a.out.now) a.es.now c.good.result c.good.ensures (not-no _ c.if-not-good.false-raw) c.if-es-ne0.false) (within-budget a.budget (length a.es.now / 3) (search (rules, c.if-n-budget))) c.many-2.ensures
