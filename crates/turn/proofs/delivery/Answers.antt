use Prim.Native.Nat.{◌≤◌, ◌<◌}
use mathlib.Core.Path.{◌≡◌}
use mathlib.Core.Logic.{inl, inr}
use native.Mathlib.Omega.{arith}
use lib.ListN.{get_or}
use Rattle.turn.proofs.Turning.{delivery-sender, delivery-receiver, delivery-empty, delivery-waits, delivery-turned}
use borrow.Author.Rules.{rules}
use Rattle.turn.proofs.delivery.Goals as goal

pub returns-then-n-f : goal.returns-then-n-f
returns-then-n-f c = let a = c.args in let g = c.requires in elim c.then-n-f.either [
  | inl x ↦ delivery-sender a.c a.hists.now a.cands.now a.queue.now a.out.now g a.f a.t (let l : a.c.sizes.n ≤ a.f = omega (arith, c.from-n.ensures, x) in l)
  | inr x ↦ delivery-receiver a.c a.hists.now a.cands.now a.queue.now a.out.now g a.f a.t (let l : a.f < a.c.sizes.n = omega (arith, c.from-n.ensures, x.0) in l) (let l : a.c.sizes.n ≤ a.t = omega (arith, c.from-n.ensures, x.1) in l)
]

pub returns-then-r-k-eq0 : goal.returns-then-r-k-eq0
returns-then-r-k-eq0 c = let a = c.args in let g = c.requires in delivery-empty a.c a.hists.now a.cands.now a.queue.now a.out.now g a.f a.t (let l : a.f < a.c.sizes.n = omega (arith, c.from-n.ensures, c.if-n-f) in l) (let l : a.t < a.c.sizes.n = omega (arith, c.from-n.ensures, c.if-n-t) in l) (rw c.channel-k.ensures.0 at (let n : get_or a.c.rings.counts c.channel-k.result 0 ≡ 0 = search (rules, c.if-r-k-eq0) in n))

pub deliver-requires : goal.deliver-requires
deliver-requires c = let a = c.args in let g = c.requires in (g, delivery-waits a.c a.hists.now a.cands.now a.queue.now a.out.now g a.f a.t (let l : a.f < a.c.sizes.n = omega (arith, c.from-n.ensures, c.if-n-f) in l) (let l : a.t < a.c.sizes.n = omega (arith, c.from-n.ensures, c.if-n-t) in l) (rw c.channel-k.ensures.0 at (let n : (get_or a.c.rings.counts c.channel-k.result 0 ≡ 0 → ⊥) = search (rules, c.if-r-k-eq0) in n)))

pub returns : goal.returns
returns c = let a = c.args in let g = c.requires in delivery-turned a.c a.hists.now a.cands.now a.queue.now a.out.now g a.f a.t _ _ _ _ _ (delivery-waits a.c a.hists.now a.cands.now a.queue.now a.out.now g a.f a.t (let l : a.f < a.c.sizes.n = omega (arith, c.from-n.ensures, c.if-n-f) in l) (let l : a.t < a.c.sizes.n = omega (arith, c.from-n.ensures, c.if-n-t) in l) (rw c.channel-k.ensures.0 at (let n : (get_or a.c.rings.counts c.channel-k.result 0 ≡ 0 → ⊥) = search (rules, c.if-r-k-eq0) in n))) c.deliver.ensures
