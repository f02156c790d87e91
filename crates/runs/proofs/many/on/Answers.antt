use borrow.Author.Rules.{rules}
use Rattle.turn.specs.Events.{meant}
use Rattle.runs.proofs.Series.{on-does}
use Rattle.runs.proofs.many.on.Goals as goal

pub overflow_add-result-2 : goal.overflow_add-result-2
overflow_add-result-2 c = let p = c.requires in let m = p.1.0 in let f = p.1.1 in let o = c.one_if-k.ensures.1 in search rules

pub returns : goal.returns
returns c = let a = c.args in on-does a.t (meant a.t.cluster.sizes a.e) a.hists.now a.cands.now a.queue.now a.out.now c.turn-a.result _ _ _ _ c.one_if-k.result c.turn-a.ensures c.one_if-k.ensures.0
