use mathlib.Core.Path.{◌∙◌}
use Rattle.pledge.proofs.Calming.{calm-does}
use Rattle.pledge.proofs.calm.Goals as goal

pub shape_of-hists : goal.shape_of-hists
shape_of-hists c = c.settle-d.auto.hists ∙ c.event-s.auto.hists ∙ c.settle-b.auto.hists ∙ c.run-a.auto.hists

pub shape_of-cands : goal.shape_of-cands
shape_of-cands c = c.settle-d.auto.cands ∙ c.event-s.auto.cands ∙ c.settle-b.auto.cands ∙ c.run-a.auto.cands

pub shape_of-queue : goal.shape_of-queue
shape_of-queue c = c.settle-d.auto.queue ∙ c.event-s.auto.queue ∙ c.settle-b.auto.queue ∙ c.run-a.auto.queue

pub shape_of-out : goal.shape_of-out
shape_of-out c = c.settle-d.auto.out ∙ c.event-s.auto.out ∙ c.settle-b.auto.out ∙ c.run-a.auto.out

pub returns : goal.returns
returns c =
    let a = c.args in
    let R = rw c.from-n.ensures at c.run-a.ensures in
    let E = rw c.from.ensures at c.event-s.ensures in
    calm-does a.c a.x a.v _ a.hists.now a.cands.now a.queue.now a.out.now c.run-a.result _ _ _ _ c.settle-b.result _ _ _ _ c.event-s.result _ _ _ _ c.settle-d.result _ _ _ _ c.name_words-words.ensures R c.settle-b.ensures E c.settle-d.ensures
