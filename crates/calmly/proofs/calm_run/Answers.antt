use Rattle.pledge.proofs.Fresh.{calm-fresh}
use Rattle.calmly.proofs.calm_run.Goals as goal

pub returns : goal.returns
returns c = λ e l.
    let a = c.args in
    calm-fresh a.z 2 a.x 7 a.hists.now a.cands.now a.queue.now a.out.now
    c.fresh-f.result _ _ _ c.calm.result _ e l c.fresh-f.ensures c.calm.ensures
