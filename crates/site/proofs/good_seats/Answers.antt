use native.Mathlib.Omega.{arith}
use mathlib.Core.Path.{◌≡◌, refl}
use mathlib.Core.Bool.{true, false}
use Rattle.std.proofs.lemmas.Iterator.{cases_from_all, YieldsList-from_range}
use Rattle.ring.proofs.Parts.{all-in-range}
use Rattle.site.specs.Site.{site_of, good_seat}
use borrow.Author.Rules.{rules}
use borrow.Author.Tests.{tests}
use Rattle.site.proofs.good_seats.Goals as goal

pub returns : goal.returns
returns c = λ q o. let a = c.args in let f = good_seat a.c.sizes (site_of a.c a.hists.now a.cands.now q o) in
    all-in-range a.c.sizes.n f c.all.result (cases_from_all _ _ _ (λ i. f i ≡ true) (λ i. f i ≡ false) c.all.ensures.ran (YieldsList-from_range 0 a.c.sizes.n a.c.sizes.n refl (omega arith)) (λ i q' k. search (rules, tests)) (λ i q' k. search (rules, tests)))
