use mathlib.Core.Path.{◌≡◌}
use lib.ListN.{length}
use Rattle.base.proofs.Choice.{not_is, not-no}
use Rattle.site.proofs.Goods.{good-lent}
use Rattle.turn.specs.Events.{meant}
use Rattle.cluster.proofs.Events.{happens-refused, happens-does}
use Rattle.cluster.proofs.event.Goals as goal

pub returns-then-not-good : goal.returns-then-not-good
returns-then-not-good c = let a = c.args in happens-refused a.c (meant a.c.sizes a.e) a.hists.now a.cands.now a.queue.now a.out.now c.good.result c.good.ensures (not_is _ c.if-not-good.true-raw)

pub turn-requires : goal.turn-requires
turn-requires c = let a = c.args in let s : length a.c.servers ≡ 7 = c.well_formed.0.1.1.1.1.0.1.0.1 in let u : length a.c.rings.heads ≡ 49 = c.well_formed.0.1.1.1.1.1.0.1.1.0.1.0.1 in let v : length a.c.rings.counts ≡ 49 = c.well_formed.0.1.1.1.1.1.0.1.1.1.0.1.0.1 in good-lent a.c a.hists.now a.cands.now a.queue.now a.out.now c.good.result s u v c.good.ensures (not-no _ c.if-not-good.false-raw)

pub returns : goal.returns
returns c = let a = c.args in happens-does a.c (meant a.c.sizes a.e) a.hists.now a.cands.now a.queue.now a.out.now c.good.result c.turn.result _ _ _ _ c.good.ensures (not-no _ c.if-not-good.false-raw) c.turn.ensures
