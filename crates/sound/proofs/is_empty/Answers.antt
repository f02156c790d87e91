use mathlib.Core.Bool.{beq}
use mathlib.Core.Path.{refl, ap, ◌∙◌}
use mathlib.Core.Bool.{not, true}
use borrow.Author.Rules.{rules}
use Rattle.sound.proofs.Laws.{none}
use Rattle.sound.proofs.is_empty.Goals as goal

pub returns : goal.returns
returns c = ap not c.contains.ensures.value ∙ none (λ y. beq y true) refl refl c.args.q (search rules)
