use mathlib.Core.Path.{◌∙◌}
use mathlib.Core.Bool.{not}
use borrow.Author.Rules.{rules}
use borrow.Author.Tests.{tests}
use Rattle.base.specs.Choice.{either}
use Rattle.std.proofs.lemmas.Iterator.{YieldsList-from_slice, YieldsList-from_zip}
use Rattle.std.proofs.lemmas.Iterator.Search.{all_from_yields_List}
use Rattle.sound.proofs.Laws.{pairs}
use Rattle.sound.proofs.is_inside.Goals as goal

pub returns : goal.returns
unfolding either
returns c =
    all_from_yields_List (λ t. either (not t.0) t.1) c.all.new.self _ _ c.all.ensures.ran (YieldsList-from_zip (YieldsList-from_slice c.args.q cc) (YieldsList-from_slice c.args.p cc)) (λ x b q k. search (rules, tests))
    ∙ pairs c.args.q c.args.p (search rules) (search rules)
