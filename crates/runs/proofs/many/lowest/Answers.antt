use Prim.Native.Nat.{◌*◌, ◌≤◌, ◌<◌}
use mathlib.Core.Path.{◌≡◌}
use lib.ListN.{length}
use native.Mathlib.Omega.{arith}
use Rattle.std.proofs.lemmas.Iterator.{IsFirst-from_position, YieldsList-from_slice}
use borrow.Author.Rules.{rules}
use borrow.Author.Tests.{tests}
use Rattle.ring.proofs.Laws.{times}
use Rattle.runs.proofs.Series.{low-tells}
use Rattle.runs.proofs.many.lowest.Goals as goal

pub returns : goal.returns
returns c = let a = c.args in
    let m = IsFirst-from_position _ _ _ (λ k. 1 ≤ k) (λ k. k < 1) c.position.ensures.ran (YieldsList-from_slice _ c.iter.ensures.rest) (λ k q h. search (rules, tests)) (λ k q h. search (rules, tests)) in
    let u = times a.z.n a.z.n 7 7 c.requires c.requires in
    let e : c.from.result * c.from-2.result ≡ a.z.n * a.z.n = cc in
    let l : length a.r.counts ≡ 49 = search rules in
    rw c.unwrap_or.ensures (rw (← e) (low-tells a.r _ _ (omega arith) m))
