use Prim.Native.Nat.{◌+◌, ◌≤◌}
use lib.ListN.{length}
use native.Mathlib.Omega.{arith}
use Rattle.ring.proofs.Laws.{ring-at, popped, front-fits, mid-clear}
use borrow.Author.Rules.{rules}
use Rattle.ring.proofs.pop.Goals as goal

pub overflow_add-end : goal.overflow_add-end
overflow_add-end c = let a = c.args in let p = c.requires in let b : c.front-at.result + c.msg_size.result ≤ length a.queue.now = front-fits _ _ _ _ _ _ _ _ p.0 p.1.0 c.front-at.ensures c.msg_size.ensures in search rules

pub offset_bounds-queue-at : goal.offset_bounds-queue-at
offset_bounds-queue-at c = let a = c.args in let p = c.requires in let b : c.front-at.result + c.msg_size.result ≤ length a.queue.now = front-fits _ _ _ _ _ _ _ _ p.0 p.1.0 c.front-at.ensures c.msg_size.ensures in search rules

pub slice_bounds-fill-end : goal.slice_bounds-fill-end
slice_bounds-fill-end c = let a = c.args in let p = c.requires in let b : c.front-at.result + c.msg_size.result ≤ length a.queue.now = front-fits _ _ _ _ _ _ _ _ p.0 p.1.0 c.front-at.ensures c.msg_size.ensures in omega arith

pub overflow_add-r : goal.overflow_add-r
overflow_add-r c = let a = c.args in let p = c.requires in let k = c.channel-c in let u = ring-at a.depth a.r k.result p.0.rings k.ensures.1 in let u0 = u.0 in let u1 = u.1 in let dp = p.0.deep in search rules

pub returns : goal.returns
returns c = let a = c.args in let p = c.requires in let b : c.front-at.result + c.msg_size.result ≤ length a.queue.now = front-fits _ _ _ _ _ _ _ _ p.0 p.1.0 c.front-at.ensures c.msg_size.ensures in let k = c.channel-c in popped a.z a.depth a.r a.queue.now _ a.f a.t k.result _ _ _ p.0 p.1.0 p.1.1 k.ensures.0 c.wrap.ensures c.front-at.ensures c.msg_size.ensures (mid-clear _ _ _ _ b (search rules))
