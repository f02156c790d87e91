use Prim.Native.Nat.{◌≤◌}
use mathlib.Core.Path.{refl}
use native.Mathlib.Omega.{arith}
use Rattle.turn.specs.Events.{alone, ruled}
use Rattle.turn.proofs.Turning.{oracle-range}
use Rattle.turn.proofs.oracle.Goals as goal

pub returns-then-from-x : goal.returns-then-from-x
returns-then-from-x c = let a = c.args in let g = c.requires in oracle-range a.c a.hists.now a.cands.now a.queue.now a.out.now g a.s a.x (let l : a.c.sizes.n ≤ a.x = omega (arith, c.from.ensures, c.if-from-x) in l)

pub alone-requires : goal.alone-requires
unfolding alone
alone-requires c = (c.requires, refl)

pub returns : goal.returns
unfolding ruled
returns c = c.alone.ensures
