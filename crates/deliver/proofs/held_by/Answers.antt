use mathlib.Core.Path.{◌≡◌, refl}
use lib.Dec.{leb}
use Rattle.std.specs.Prelude.{false}
use native.Mathlib.Omega.{arith}
use borrow.Author.Rules.{rules}
use Rattle.deliver.proofs.Laws.{mapped, held-at}
use Rattle.deliver.proofs.held_by.Goals as goal

pub returns : goal.returns
returns c = let h = c.map-q.ensures.items.each in λ i l. let m = mapped _ (λ f. f.0.now ≡ c.args.c) (λ x. leb c.args.c x) (λ f x y f' k w. (search rules, search rules)) c.args.t.now.counts c.map-q.result 0 false 7 0 _ refl h i (omega arith) (omega arith) in held-at _ _ _ _ _ _ c.from.ensures (omega (arith, c.map-q.ensures.items.long)) m
