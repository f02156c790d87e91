use Prim.Native.Nat.{ℕ, ◌+◌, ◌-◌, ◌*◌}
use mathlib.Core.Path.{◌≡◌, refl, ap}
use native.Mathlib.Omega.{arith}
use lib.ListN.{get_or}
use Rattle.trace.specs.Table.{cell, spot}
use Rattle.trace.proofs.Lookup.{walk_end, walk_none, walk-low, walk-on, far-start, far-on, far-end}
use Rattle.trace.proofs.epochs.walk.Goals as goal

pub loop-init : goal.loop-init
loop-init c = (c.requires.1, far-start c.args.recs.now (cell c.args.space.now c.args.count) c.args.count c.args.e c.requires.0.links, (let z : c.args.count - 0 ≡ c.args.count = omega arith in ap (λ (n : ℕ). spot c.args.recs.now (cell c.args.space.now c.args.count) c.args.e n 0 c.args.e) z))

pub returns-then-ends : goal.returns-then-ends
returns-then-ends c = walk_end c.args.recs.now (cell c.args.space.now c.args.count) c.args.count c.args.e c.loop.j c.loop.rest c.requires.0.links c.loop.invariant.0 c.ends.ensures c.loop.invariant.2 c.if-ends.true

pub returns-then-child-eq0 : goal.returns-then-child-eq0
returns-then-child-eq0 c = walk_none c.args.recs.now (cell c.args.space.now c.args.count) c.args.count c.args.e c.loop.j c.loop.rest c.requires.0.links c.loop.invariant.0 c.ends.ensures c.loop.invariant.2 c.if-ends.false refl c.if-child-eq0.true

pub loop-preserved : goal.loop-preserved
loop-preserved c = (walk-low c.args.recs.now (cell c.args.space.now c.args.count) c.args.count c.args.e c.loop.j c.loop.rest c.requires.0.links c.loop.invariant.0 c.ends.ensures c.loop.invariant.2 refl c.if-child-eq0.false, far-on c.args.recs.now (cell c.args.space.now c.args.count) c.args.count c.args.e c.loop.j c.loop.rest c.loop.counter c.requires.0.links c.loop.invariant.0 c.loop.invariant.1 c.if-child-eq0.false, walk-on c.args.recs.now (cell c.args.space.now c.args.count) c.args.count c.args.e c.loop.j c.loop.rest c.requires.0.links c.loop.invariant.0 c.ends.ensures c.loop.invariant.2 c.if-ends.false refl c.if-child-eq0.false)

pub returns : goal.returns
returns c = walk_end c.args.recs.now (cell c.args.space.now c.args.count) c.args.count c.args.e c.loop.j c.loop.rest c.requires.0.links c.loop.invariant.0 (far-end c.args.recs.now (cell c.args.space.now c.args.count) c.args.count c.args.e c.loop.j c.loop.rest c.loop.counter c.requires.0.links c.loop.invariant.0 c.loop.invariant.1 c.requires.0.deep (omega arith) (omega (arith, c.ranges)) (omega (arith, c.shared_slice_known-1.given (5 * (get_or c.args.space.now (c.args.count + 3 * c.loop.j) 0 - 1) + 2)))) c.loop.invariant.2 refl
