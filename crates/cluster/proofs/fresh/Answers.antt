use Rattle.base.proofs.Choice.{not_is, not-no}
use Rattle.cluster.proofs.Begun.{fresh-refused, fresh-does}
use Rattle.cluster.proofs.fresh.Goals as goal

pub returns-then-not-may_lend : goal.returns-then-not-may_lend
returns-then-not-may_lend c = let a = c.args in fresh-refused a.z a.depth a.hists.now a.cands.now a.queue.now a.out.now c.may_lend.result c.fresh_cluster-c.result c.may_lend.ensures (not_is _ c.if-not-may_lend.true-raw) c.fresh_cluster-c.ensures

pub returns : goal.returns
returns c = let a = c.args in fresh-does a.z a.depth a.hists.now a.cands.now a.queue.now a.out.now _ _ _ c.may_lend.result c.fresh_cluster-c.result c.may_lend.ensures (not-no _ c.if-not-may_lend.false-raw) c.fresh_cluster-c.ensures c.clear_from.ensures c.clear_from-2.ensures c.clear_from-3.ensures
