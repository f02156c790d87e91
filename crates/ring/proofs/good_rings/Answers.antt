use Prim.Native.Nat.{◌≤◌, ◌<◌}
use mathlib.Core.Path.{◌≡◌}
use Rattle.std.specs.Prelude.{◌↔◌, IsTrue, EachIndex}
use lib.ListN.{length}
use Rattle.ring.specs.Queue.{head, count}
use Rattle.ring.proofs.Laws.{counts-tell, heads-tell}
use borrow.Author.Rules.{rules}
use Rattle.ring.proofs.good_rings.Goals as goal

pub returns-then-all : goal.returns-then-all
returns-then-all c =
    let a = c.args in
    let nh : length a.r.heads ≡ 49 = search rules in
    let nc : length a.r.counts ≡ 49 = search rules in
    let h : IsTrue c.all.result ↔ EachIndex a.r.heads (λ k. head a.r k < a.depth) = search rules in
    let k : IsTrue c.all-then-all.result ↔ EachIndex a.r.counts (λ k. count a.r k ≤ a.depth) = search rules in
    counts-tell a.depth a.r _ nh nc (h.0 c.if-all.true) k

pub returns-else-all : goal.returns-else-all
returns-else-all c =
    let a = c.args in
    let nh : length a.r.heads ≡ 49 = search rules in
    let h : IsTrue c.all.result ↔ EachIndex a.r.heads (λ k. head a.r k < a.depth) = search rules in
    heads-tell a.depth a.r _ nh h c.if-all.false
