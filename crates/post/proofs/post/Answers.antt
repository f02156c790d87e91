use Prim.Native.Nat.{◌<◌}
use native.Mathlib.Omega.{arith}
use Rattle.post.proofs.Laws.{post-start, post-on, count_room}
use borrow.Author.Rules.{rules}
use Rattle.post.proofs.post.Goals as goal

pub loop-k-init : goal.loop-k-init
loop-k-init c = post-start _ _ _ _ _ _ _ c.requires

pub post_one-s-requires : goal.post_one-s-requires
post_one-s-requires c = let p = c.requires in let v = c.loop-k.invariant in let l : c.loop-k.k < c.args.n = search rules in let w = p.few in (v.good, (p.sender, (p.box, (omega arith, (p.to c.loop-k.k l, count_room _ _ _ _ _ _ _ _ _ _ p l v)))))

pub loop-k-preserved : goal.loop-k-preserved
loop-k-preserved c = post-on _ _ _ _ _ _ _ _ _ _ _ c.loop-k.invariant c.post_one-s.ensures
