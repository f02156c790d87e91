use Rattle.turn.proofs.Sends.{ready-bare, ready-full, sent-bare, sent-full}
use Rattle.turn.proofs.send.Goals as goal
use Rattle.turn.proofs.send.Goals.{then-empties, else-empties}

pub post-requires : goal.post-requires
post-requires c = let a = c.args in elim c.if-empties.branch [
  | then-empties w ↦ let R = rw (← w.s-is, ← w.queue-is) at (ready-bare a.z a.depth a.r a.queue.now a.i a.empties a.out.now a.n c.requires _ _ w.if-empties.true w.empty_channels-s.ensures) in R
  | else-empties w ↦ let R = rw (← w.s-is, ← w.queue-is) at (ready-full a.z a.depth a.r a.queue.now a.i a.empties a.out.now a.n c.requires w.if-empties.false) in R
]

pub returns : goal.returns
returns c = let a = c.args in elim c.if-empties.branch [
  | then-empties w ↦ sent-bare a.z a.depth a.r a.queue.now a.i a.empties a.out.now a.n c.requires _ _ _ _ w.if-empties.true w.empty_channels-s.ensures (rw (w.s-is, w.queue-is) at c.post.ensures)
  | else-empties w ↦ sent-full a.z a.depth a.r a.queue.now a.i a.empties a.out.now a.n c.requires _ _ w.if-empties.false (rw (w.s-is, w.queue-is) at c.post.ensures)
]
