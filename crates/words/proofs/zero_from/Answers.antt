use mathlib.Core.Path.{◌∙◌}
use lib.Dec.{eqb}
use borrow.Author.Rules.{rules}
use borrow.Author.Tests.{tests}
use Rattle.std.proofs.lemmas.Iterator.{YieldsList-from_slice}
use Rattle.std.proofs.lemmas.Iterator.Adapters.{YieldsList-from_skip}
use Rattle.std.proofs.lemmas.Iterator.Search.{all_from_yields_List}
use Rattle.words.proofs.Laws.{zero_words}
use Rattle.words.proofs.zero_from.Goals as goal

pub returns : goal.returns
returns c =
    all_from_yields_List (λ x. eqb x 0) _ _ _ c.all.ensures.ran (YieldsList-from_skip c.args.from (YieldsList-from_slice c.args.w.now cc) cc) (λ x b q k. search (rules, tests))
    ∙ zero_words _
