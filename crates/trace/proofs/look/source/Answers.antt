use mathlib.Core.Path.{refl}
use native.Mathlib.Omega.{arith}
use borrow.Author.Rules.{rules}
use borrow.Author.Tests.{tests}
use Rattle.std.proofs.lemmas.Iterator.{YieldsList-from_range}
use Rattle.std.proofs.lemmas.Iterator.Consumers.{YieldsList-from_chain}
use Rattle.std.proofs.lemmas.Iterator.Adapters.{serves_from_places}
use Rattle.std.proofs.lemmas.Iterator.Search.{find_from_yields_List}
use Rattle.trace.specs.Words.{Within, submits}
use Rattle.trace.proofs.Records.{road-within, source-is, source-first}
use Rattle.trace.proofs.look.source.Goals as goal

pub find-requires-clause-callable : goal.find-requires-clause-callable
find-requires-clause-callable c = serves_from_places (YieldsList-from_chain (YieldsList-from_range c.args.seen c.args.r.i _ (cc) refl) (YieldsList-from_range 0 c.args.seen _ (cc) (omega arith)) (cc) (cc)) (λ x q k. search (rules, tests))
    (λ x j l e. let h : Within c.args.r.recs.now x = road-within c.args.r.i c.args.seen c.requires c.args.r.recs.now x j c.args.r.here l e in search rules)

pub returns-clause-any : goal.returns-clause-any
returns-clause-any c = source-is c.args.r.i c.args.seen c.requires c.args.r.recs.now c.find.result (find_from_yields_List (submits c.args.r.recs.now c.args.r.i) _ _ c.find.result c.find.ensures.ran (YieldsList-from_chain (YieldsList-from_range c.args.seen c.args.r.i _ (cc) refl) (YieldsList-from_range 0 c.args.seen c.args.seen (cc) (omega arith)) (cc) (cc)) (λ x b q k. search (rules, tests)))

pub returns-clause-first : goal.returns-clause-first
returns-clause-first c = source-first c.find.result _ (find_from_yields_List (submits c.args.r.recs.now c.args.r.i) _ _ c.find.result c.find.ensures.ran (YieldsList-from_chain (YieldsList-from_range c.args.seen c.args.r.i _ (cc) refl) (YieldsList-from_range 0 c.args.seen c.args.seen (cc) (omega arith)) (cc) (cc)) (λ x b q k. search (rules, tests)))
