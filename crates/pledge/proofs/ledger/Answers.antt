use Rattle.base.proofs.Refusals.{code-ok}
use Rattle.pledge.proofs.OneLedger.{pledged-not, pledged-run}
use Rattle.pledge.proofs.ledger.Goals as goal

pub returns-in-Err : goal.returns-in-Err
returns-in-Err c = let a = c.args in pledged-not a.z a.depth a.budget a.es.now a.hists.now a.cands.now a.queue.now a.out.now c.fresh-f.result _ _ _ c.fresh-f.ensures c.in-Err.why c.in-Err.is

pub returns : goal.returns
returns c = let a = c.args in pledged-run a.z a.depth a.budget a.es.now a.hists.now a.cands.now a.queue.now a.out.now c.fresh-f.result _ _ _ c.run.result _ _ _ _ c.fresh-f.ensures (code-ok _ _ c.in_default.is) c.run.ensures
