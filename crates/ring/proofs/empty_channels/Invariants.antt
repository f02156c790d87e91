use Rattle.ring.specs.Queue.{vacated, bared, chans, Left}
use Rattle.ring.proofs.Laws.{silent}
use Rattle.ring.proofs.empty_channels.Given as goal

abbrev pub invariant-loop-k : goal.invariant-loop-k
invariant-loop-k l = Left l.z l.depth l.s l.queue (vacated l.z.n l.i l.k l.initial.s) (bared l.z.room.0 l.depth l.z.n l.i l.k l.initial.queue) (silent l.i l.k (chans l.z l.depth l.initial.s l.initial.queue))
