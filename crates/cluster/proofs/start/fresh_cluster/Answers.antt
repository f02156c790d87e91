use Rattle.cluster.proofs.Begun.{fresh-made}
use Rattle.cluster.proofs.start.fresh_cluster.Goals as goal

pub returns : goal.returns
returns c = let a = c.args in fresh-made a.z a.depth _ _ _ _ _ _ _ c.fresh_state-a.ensures c.fresh_state-b.ensures c.fresh_state-c.ensures c.fresh_state-d.ensures c.fresh_state-e.ensures c.fresh_state-f.ensures c.fresh_state-g.ensures
