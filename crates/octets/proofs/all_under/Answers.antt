use Rattle.std.proofs.Common.{rules, ◌-◌, ◌≤◌, ◌<◌, take, drop}
use Rattle.octets.proofs.all_under.Goals as goal
use borrow.Author.Tests.{tests}
use Rattle.std.proofs.lemmas.Iterator.{YieldsList-from_slice, cases_from_all}
use Rattle.octets.proofs.Laws.{under-said}

pub returns : goal.returns
returns c =
    let p = take (c.args.to - c.args.from) (drop c.args.from c.args.w.now) in
    under-said c.args.k _ p
    (cases_from_all _ _ _ (λ x. x ≤ c.args.k) (λ x. c.args.k < x) c.all.ensures.ran (YieldsList-from_slice p c.iter.ensures.rest) (λ x q k. search (rules, tests)) (λ x q k. search (rules, tests)))
