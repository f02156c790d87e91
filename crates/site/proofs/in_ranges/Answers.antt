use Prim.Native.Nat.{◌≤◌}
use Rattle.std.specs.Prelude.{◌↔◌, IsTrue}
use borrow.Author.Rules.{rules}
use Rattle.site.proofs.Goods.{and-then, and-else, depth-tells}
use Rattle.site.proofs.in_ranges.Goals as goal

pub returns-then-good_sizes : goal.returns-then-good_sizes
returns-then-good_sizes c =
    let d = c.args.depth in
    let h : IsTrue c.contains.result ↔ ((2 ≤ d) × (d ≤ 16)) = search rules in
    and-then _ _ _ _ c.good_sizes.ensures c.if-good_sizes.true (depth-tells d _ h)

pub returns-else-good_sizes : goal.returns-else-good_sizes
returns-else-good_sizes c = and-else _ _ _ c.good_sizes.ensures c.if-good_sizes.false
