use Prim.Native.Nat.{◌≤◌, ◌<◌}
use Rattle.turn.proofs.Turning.{alone-lent, alone-unknown, alone-turned}
use native.Mathlib.Omega.{arith}
use Rattle.turn.proofs.alone.Goals as goal

pub returns-then-from-s : goal.returns-then-from-s
returns-then-from-s c = let a = c.args in let g = c.requires in alone-unknown a.c a.hists.now a.cands.now a.queue.now a.out.now g.0 a.s a.ev g.1 (let l : a.c.sizes.n ≤ a.s = omega (arith, c.from.ensures, c.if-from-s) in l)

pub local-requires : goal.local-requires
local-requires c = let a = c.args in let g = c.requires in (g.0, ((let l : a.s < a.c.sizes.n = omega (arith, c.from.ensures, c.if-from-s) in l), alone-lent a.c a.hists.now a.cands.now a.queue.now a.out.now g.0 a.ev g.1))

pub returns : goal.returns
returns c = let a = c.args in let g = c.requires in alone-turned a.c a.hists.now a.cands.now a.queue.now a.out.now g.0 a.s a.ev _ _ _ _ _ g.1 (let l : a.s < a.c.sizes.n = omega (arith, c.from.ensures, c.if-from-s) in l) c.local.ensures
