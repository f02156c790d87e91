use mathlib.Core.Path.{refl}
use native.Mathlib.Omega.{arith}
use Rattle.base.specs.Choice.{pick}
use Rattle.lead.proofs.Laws.{count-wait, count-short, count-undo, count-done}
use borrow.Author.Rules.{rules}
use Rattle.lead.proofs.chosen.Goals as goal
use Rattle.lead.proofs.chosen.Goals.{then-wins, else-wins, then-lt-via-then-lt, then-lt-via-else-lt+then-not-same_prefix}

pub returns-then-not-is_quorum : goal.returns-then-not-is_quorum
unfolding pick
returns-then-not-is_quorum c = λ s k m me len cl here.
    count-wait _ s c.args.t _ k m _ _ me len cl here c.if-not-is_quorum.ensures (elim c.if-wins.branch [ then-wins w ↦ rw (w.source-is, w.if-wins.true) | else-wins w ↦ rw (w.source-is, w.if-wins.false) ])
    c.requires.0.len c.requires.0.cand c.requires.1.0 c.no_txn.ensures c.nobody.ensures c.planned.ensures

pub returns : goal.returns
returns c = λ s k m me len cl here.
    count-done _ s c.args.t _ k m _ _ me len cl here c.if-not-is_quorum.ensures (search (rules, c.if-lt)) c.requires.0.d c.if-not-same_prefix.ensures refl c.requires.0.cand (omega (arith, c.requires.0.me, c.requires.0.most)) c.lead.ensures

pub returns-then-lt : goal.returns-then-lt
returns-then-lt c = λ s k m me len cl here. elim c.then-lt.branch [
  | then-lt-via-then-lt w ↦ count-short _ s c.args.t _ k m _ _ me len cl here c.if-not-is_quorum.ensures (search (rules, w.if-lt))
  | then-lt-via-else-lt+then-not-same_prefix w ↦ count-undo _ s c.args.t _ k m _ _ me len cl here c.if-not-is_quorum.ensures (search (rules, w.if-lt)) c.requires.0.d w.if-not-same_prefix.ensures
]
