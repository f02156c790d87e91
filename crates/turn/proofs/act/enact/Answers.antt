use Rattle.turn.proofs.Enact.{enact-asks, enact-does}
use Rattle.turn.proofs.act.enact.Goals as goal

pub act-requires : goal.act-requires
act-requires c = let a = c.args in rw c.from.ensures (enact-asks a.z a.depth a.r a.s a.ev a.hists.now a.cands.now a.msg.now a.out.now c.requires)

pub returns : goal.returns
returns c = let a = c.args in rw c.from.ensures (enact-does a.z a.depth a.r a.s a.ev a.hists.now a.cands.now a.msg.now a.out.now c.requires _ _ _ _ (rw c.from.ensures at c.act.ensures))
