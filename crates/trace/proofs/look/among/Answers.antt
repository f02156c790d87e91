use mathlib.Core.Path.{◌∙◌, sym}
use borrow.Author.Rules.{rules}
use borrow.Author.Tests.{tests}
use Rattle.std.proofs.lemmas.Iterator.{YieldsList-from_slice}
use Rattle.std.proofs.lemmas.Iterator.Adapters.{serves_from_places}
use Rattle.std.proofs.lemmas.Iterator.Search.{any_from_yields_List}
use Rattle.base.specs.Record.{same}
use Rattle.trace.specs.Words.{Within, entry_at}
use Rattle.trace.proofs.Leaf.{place-within}
use Rattle.trace.proofs.Records.{mem-listed}
use Rattle.trace.proofs.look.among.Goals as goal

pub any-requires-clause-callable : goal.any-requires-clause-callable
any-requires-clause-callable c = serves_from_places (YieldsList-from_slice c.args.marks.now cc) (λ x q k. search (rules, tests))
    (λ x k l e. let h : Within c.args.r.recs.now x.now = place-within c.args.r.recs.now c.args.marks.now c.args.r.i k x.now c.args.r.here c.requires.2 l e in search rules)

pub returns : goal.returns
returns c = any_from_yields_List (λ j. same (entry_at c.args.r.recs.now c.args.r.i) (entry_at c.args.r.recs.now j)) _ _ _ c.any.ensures.ran (YieldsList-from_slice c.args.marks.now cc) (λ x b q k. search (rules, tests)) ∙ sym (mem-listed c.args.r.recs.now (entry_at c.args.r.recs.now c.args.r.i) c.args.marks.now)
