use Prim.Native.Nat.{◌+◌, ◌*◌, ◌≤◌}
use lib.ListN.{length}
use Rattle.ring.proofs.Laws.{cleared, ring-fits, mid-clear}
use borrow.Author.Rules.{rules}
use Rattle.ring.proofs.empty_ring.Goals as goal

pub slice_bounds-fill-end : goal.slice_bounds-fill-end
slice_bounds-fill-end c = let a = c.args in let p = c.requires in let k = c.channel-c in let b : c.slot_at-at.result + c.msg_size.result * c.from.result ≤ length a.queue.now = rw c.from.ensures (ring-fits a.z a.depth a.r a.queue.now a.f a.t k.result _ _ p.0 p.1 k.ensures.0 c.slot_at-at.ensures c.msg_size.ensures) in b

pub returns : goal.returns
returns c = let a = c.args in let p = c.requires in let k = c.channel-c in let b : c.slot_at-at.result + c.msg_size.result * c.from.result ≤ length a.queue.now = rw c.from.ensures (ring-fits a.z a.depth a.r a.queue.now a.f a.t k.result _ _ p.0 p.1 k.ensures.0 c.slot_at-at.ensures c.msg_size.ensures) in cleared a.z a.depth a.r a.queue.now _ a.f a.t k.result _ _ p.0 p.1 k.ensures.0 c.slot_at-at.ensures c.msg_size.ensures (rw (← c.from.ensures) (mid-clear _ _ _ _ b (search rules)))
