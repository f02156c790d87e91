use borrow.Author.Rules.{rules}
use borrow.Author.Tests.{tests}
use native.Mathlib.Omega.{arith}
use mathlib.Core.Path.{◌∙◌, ◌≡◌}
use lib.Dec.{ltb}
use Rattle.base.specs.Choice.{both}
use Rattle.rules.specs.Server.{during}
use Rattle.std.proofs.lemmas.Grind.{common_steps}
use Rattle.std.proofs.lemmas.Iterator.{YieldsList-from_slice}
use Rattle.std.proofs.lemmas.Iterator.Consumers.{YieldsList-from_enumerate}
use Rattle.std.proofs.lemmas.Iterator.Search.{all_from_yields_List}
use Rattle.sound.specs.Parts.{count_fits}
use Rattle.sound.proofs.Laws.{places}
use Rattle.sound.proofs.good_counts.Goals as goal

pub returns : goal.returns
unfolding during both
returns c = λ p a d w j k y g b h.
    let l : c.if-matches.live ≡ during 7 8 c.args.s.stage = grind (arith, common_steps) in
    all_from_yields_List (λ t. count_fits t.1 c.args.s.len.0 (both (ltb t.0 c.args.z.n) c.if-matches.live)) c.all.new.self _ _ c.all.ensures.ran (YieldsList-from_enumerate (YieldsList-from_slice c.args.s.counts cc) cc) (λ x b q k. search (rules, tests))
    ∙ places c.args.z c.args.s.stage c.args.s.len.0 p a d w c.args.s.counts j k y g b h _ l (search rules)
