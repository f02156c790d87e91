use Prim.Native.Nat.{◌+◌, ◌≤◌}
use lib.ListN.{length}
use Rattle.turn.proofs.Turning.{hear-in, hear-first}
use borrow.Author.Rules.{rules}
use Rattle.turn.proofs.first.Goals as goal

pub overflow_add-end : goal.overflow_add-end
overflow_add-end c = let a = c.args in let g = c.requires in let b : c.front-at.result + c.msg_size.result ≤ length a.queue.now = hear-in a.z a.depth a.r a.queue.now a.f a.i _ _ c.front-at.ensures c.msg_size.ensures g.0 g.1 in search rules

pub offset_bounds-queue-at : goal.offset_bounds-queue-at
offset_bounds-queue-at c = let a = c.args in let g = c.requires in let b : c.front-at.result + c.msg_size.result ≤ length a.queue.now = hear-in a.z a.depth a.r a.queue.now a.f a.i _ _ c.front-at.ensures c.msg_size.ensures g.0 g.1 in search rules

pub slice_bounds-result-end : goal.slice_bounds-result-end
slice_bounds-result-end c = let a = c.args in let g = c.requires in let b : c.front-at.result + c.msg_size.result ≤ length a.queue.now = hear-in a.z a.depth a.r a.queue.now a.f a.i _ _ c.front-at.ensures c.msg_size.ensures g.0 g.1 in search rules

pub returns : goal.returns
returns c = let a = c.args in let g = c.requires in hear-first a.z a.depth a.r a.queue.now a.f a.i _ _ c.front-at.ensures c.msg_size.ensures
