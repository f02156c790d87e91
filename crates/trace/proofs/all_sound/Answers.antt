use mathlib.Core.Path.{◌∙◌, refl}
use native.Mathlib.Omega.{arith}
use borrow.Author.Rules.{rules}
use borrow.Author.Tests.{tests}
use Rattle.std.proofs.lemmas.Iterator.{YieldsList-from_range}
use Rattle.std.proofs.lemmas.Iterator.Search.{all_from_yields_List}
use Rattle.base.specs.Choice.{both}
use Rattle.trace.specs.Rules.{sound}
use Rattle.trace.specs.Words.{rec_at, known_at}
use Rattle.trace.proofs.Records.{all-listed}
use Rattle.trace.proofs.all_sound.Goals as goal

pub returns : goal.returns
returns c = all_from_yields_List (λ j. both (known_at c.args.recs.now j) (sound c.args.n (rec_at c.args.recs.now j))) _ _ _ c.all.ensures.ran (YieldsList-from_range 0 c.args.count c.args.count refl (omega arith)) (λ x b q k. search (rules, tests)) ∙ all-listed c.args.n c.args.recs.now c.args.count 0
