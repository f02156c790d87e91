use mathlib.Core.Path.{◌≡◌}
use lib.ListN.{length}
use Rattle.base.proofs.Choice.{not_is, not-no}
use Rattle.site.specs.Site.{site_of, cluster_of}
use Rattle.site.proofs.Goods.{good-lent}
use Rattle.runs.specs.Runs.{easings}
use Rattle.runs.proofs.Series.{settle-refused, settle-does}
use Rattle.runs.proofs.settle.Goals as goal

pub returns-then-not-good : goal.returns-then-not-good
returns-then-not-good c = let a = c.args in settle-refused a.c (easings a.c.sizes a.c.depth a.budget (cluster_of a.c.sizes a.c.depth (site_of a.c a.hists.now a.cands.now a.queue.now a.out.now))) a.hists.now a.cands.now a.queue.now a.out.now c.good.result c.refused.result c.good.ensures (not_is _ c.if-not-good.true-raw) c.refused.ensures

pub ease-requires : goal.ease-requires
ease-requires c = let a = c.args in let s : length a.c.servers ≡ 7 = c.well_formed.0.1.1.1.1.0.1.0.1 in let u : length a.c.rings.heads ≡ 49 = c.well_formed.0.1.1.1.1.1.0.1.1.0.1.0.1 in let v : length a.c.rings.counts ≡ 49 = c.well_formed.0.1.1.1.1.1.0.1.1.1.0.1.0.1 in good-lent a.c a.hists.now a.cands.now a.queue.now a.out.now c.good.result s u v c.good.ensures (not-no _ c.if-not-good.false-raw)

pub returns : goal.returns
returns c = let a = c.args in settle-does a.c (easings a.c.sizes a.c.depth a.budget (cluster_of a.c.sizes a.c.depth (site_of a.c a.hists.now a.cands.now a.queue.now a.out.now))) a.hists.now a.cands.now a.queue.now a.out.now c.good.result c.ease.result _ _ _ _ c.good.ensures (not-no _ c.if-not-good.false-raw) c.ease.ensures
