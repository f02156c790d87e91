use Prim.Native.Nat.{◌<◌}
use native.Mathlib.Omega.{arith}
use borrow.Author.Rules.{rules}
use Rattle.runs.proofs.Series.{mid-good, read-start, read-met, read-on, read-end}
use Rattle.runs.proofs.many.many.Goals as goal

pub loop-j-init : goal.loop-j-init
loop-j-init c = let a = c.args in read-start a.c a.es.now a.n a.hists.now a.cands.now a.queue.now a.out.now c.requires.0

pub read_event-e-requires : goal.read_event-e-requires
read_event-e-requires c = let p = c.requires.1 in let l : c.loop-j.j < c.args.n = search rules in omega (arith, p)

pub on-t-requires : goal.on-t-requires
on-t-requires c = let m = c.loop-j.invariant in let l : c.loop-j.j < c.args.n = search rules in let b : c.args.n < 18446744073709551616 = search (rules, c.ranges) in let e = read-met _ _ _ _ _ _ _ _ _ _ _ _ _ m (omega arith) in (mid-good _ _ _ _ _ _ _ _ _ _ _ _ m, (omega arith, m.few))

pub loop-j-preserved : goal.loop-j-preserved
loop-j-preserved c = let l : c.loop-j.j < c.args.n = search rules in read-on _ _ _ _ _ _ _ _ _ _ _ _ _ _ _ _ _ _ _ c.loop-j.invariant l c.read_event-e.ensures c.on-t.ensures

pub returns : goal.returns
returns c = read-end _ _ _ _ _ _ _ _ _ _ _ _ _ c.loop-j.invariant (search rules)
