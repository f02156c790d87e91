use mathlib.Core.Bool.{beq}
use mathlib.Core.Path.{refl, ap, ◌∙◌}
use mathlib.Core.Bool.{not, true}
use borrow.Author.Rules.{rules}
use Rattle.sound.proofs.Laws.{below}
use Rattle.sound.proofs.is_below.Goals as goal

pub returns : goal.returns
returns c = ap not c.contains.ensures.value ∙ below (λ y. beq y true) refl refl c.from.result c.args.n c.args.q c.from.ensures c.requires (search rules)
