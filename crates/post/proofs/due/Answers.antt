use mathlib.Core.Path.{◌≡◌}
use Rattle.base.specs.Choice.{pick}
use Rattle.ring.specs.Queue.{cell, count}
use Rattle.post.proofs.Rooms.{due-is}
use Rattle.post.proofs.due.Goals as goal
use Rattle.post.proofs.due.Goals.{then-empties, else-empties}

pub returns : goal.returns
unfolding pick
returns c =
    let a = c.args in
    let w : c.if-empties.waiting ≡ pick a.empties 0 (count a.r (cell a.z.n a.i a.t)) = elim c.if-empties.branch [
      | then-empties w ↦ rw (w.if-empties.true) w.waiting-is
      | else-empties w ↦ rw (w.if-empties.false, ← w.channel.ensures.0) w.waiting-is
    ] in
    due-is a.z a.r a.i a.empties a.one a.two a.t _ _ _ w c.hit.ensures.0 c.hit-2.ensures.0
