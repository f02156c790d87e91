use Rattle.post.specs.Posts.{Posted}
use Rattle.post.proofs.post.Given as goal

abbrev pub invariant-loop-k : goal.invariant-loop-k
invariant-loop-k l = Posted l.z l.depth l.initial.s l.initial.queue l.i l.out l.k l.s l.queue
