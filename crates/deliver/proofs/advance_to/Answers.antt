use mathlib.Core.Path.{◌≡◌, refl}
use Rattle.deliver.proofs.Laws.{found, left-all}
use Rattle.rules.specs.Words.{num}
use borrow.Author.Rules.{rules}
use Rattle.deliver.proofs.advance_to.Goals as goal

pub returns : goal.returns
returns c = let h = c.find.ensures.ran in let s = c.args.t.now in
    let m = found c.args.z.n s.me (num s.counts) s.d.0 _ (λ f. (f.0.now ≡ c.args.z) × (f.1.now ≡ s)) (λ f x b f' k w. (search rules, search rules)) h.0 c.rev.result h.2.0 _ _ h.1 c.find.result (refl, refl) (search rules) h.2.1 h.2.2 h.3 h.4 in let p = c.map_or.ensures in let e = left-all c.rev.result s.d.0 s.len.0 (search rules) (search rules) (search rules) in search (rules, m, e, p)
