use lib.ListN.{get_or}
use mathlib.Core.Bool.{false}
use mathlib.Core.Path.{ap, ◌∙◌}
use Rattle.rules.specs.Words.{has}
use Rattle.post.proofs.Rooms.{hit-self, hit-other}
use Rattle.post.proofs.hit.Goals as goal
use Rattle.post.proofs.hit.Goals.{then-t-i, else-t-i}

pub returns : goal.returns
returns c = let a = c.args in elim c.if-t-i.branch [
  | then-t-i w ↦ hit-other a.i (has a.q) a.t _ _ w.if-t-i.true (w.from-is ∙ ap (λ k. get_or a.q k false) w.from.ensures) c.from-2.ensures
  | else-t-i w ↦ hit-self a.i (has a.q) a.t _ _ w.if-t-i.false w.from-is c.from-2.ensures
]
