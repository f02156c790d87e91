use Prim.Native.Nat.{◌<◌}
use native.Mathlib.Omega.{arith}
use Rattle.ring.specs.Queue.{head, count}
use Rattle.ring.proofs.Laws.{ring-at, wrap-low, pushed, slot-fits, mid-fill}
use borrow.Author.Rules.{rules}
use Rattle.ring.proofs.push.Goals as goal

pub overflow_add-r : goal.overflow_add-r
overflow_add-r c = let a = c.args in let p = c.requires in let k = c.channel-c in let u = ring-at a.depth a.r k.result p.0.rings k.ensures.1 in let u0 = u.0 in let u1 = u.1 in let dp = p.0.deep in search rules

pub slot_at-at-requires : goal.slot_at-at-requires
slot_at-at-requires c = let a = c.args in let p = c.requires in let k = c.channel-c in let u = ring-at a.depth a.r k.result p.0.rings k.ensures.1 in let u0 = u.0 in let u1 = u.1 in let dp = p.0.deep in let w = c.wrap-k in let wl : w.result < a.depth = rw w.ensures (wrap-low a.depth (head a.r k.result) (count a.r k.result) u0 u1) in (p.0.room, (dp, (k.ensures.1, omega arith)))

pub slice_bounds-copy_over-end : goal.slice_bounds-copy_over-end
slice_bounds-copy_over-end c = let a = c.args in let p = c.requires in let k = c.channel-c in let u = ring-at a.depth a.r k.result p.0.rings k.ensures.1 in let u0 = u.0 in let u1 = u.1 in let dp = p.0.deep in let w = c.wrap-k in let wl : w.result < a.depth = rw w.ensures (wrap-low a.depth (head a.r k.result) (count a.r k.result) u0 u1) in slot-fits a.z a.depth a.r a.queue.now a.f a.t k.result w.result _ _ p.0 p.1.0 k.ensures.0 wl c.slot_at-at.ensures c.msg_size-m.ensures

pub returns : goal.returns
returns c = let a = c.args in let p = c.requires in let k = c.channel-c in let u = ring-at a.depth a.r k.result p.0.rings k.ensures.1 in let u0 = u.0 in let u1 = u.1 in let dp = p.0.deep in pushed a.z a.depth a.r a.queue.now _ a.f a.t a.ws.now k.result _ _ _ p.0 p.1.0 p.1.1.0 p.1.1.1 k.ensures.0 c.wrap-k.ensures c.slot_at-at.ensures c.msg_size-m.ensures (mid-fill _ _ _ _ _ (rw c.msg_size-m.ensures p.1.1.1) (search rules))
