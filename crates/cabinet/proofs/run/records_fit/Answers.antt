use Rattle.std.proofs.Common.{rules, ◌≡◌, true, false, refl}
use borrow.Author.Tests.{tests}
use Rattle.std.proofs.lemmas.Iterator.{YieldsList-from_range, cases_from_all}
use Rattle.cabinet.specs.Run.{record_fits}
use Rattle.cabinet.proofs.Runs.{records-said}
use Rattle.cabinet.proofs.run.records_fit.Goals as goal

pub returns : goal.returns
returns c =
    records-said c.args.held.now _
    (cases_from_all _ _ _ (λ i. record_fits c.args.held.now i ≡ true) (λ i. record_fits c.args.held.now i ≡ false) c.all.ensures.ran (YieldsList-from_range 0 7 7 refl refl) (λ x q k. search (rules, tests)) (λ x q k. search (rules, tests)))
