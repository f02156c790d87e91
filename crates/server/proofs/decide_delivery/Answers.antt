use Rattle.base.specs.Refusals.{code_of}
use Rattle.base.proofs.Refusals.{number-one}
use Rattle.std.proofs.lemmas.Result.{err_from_is_err_and}
use Rattle.std.specs.Result.{result_ok}
use Rattle.std.specs.Option.{ok_or}
use Rattle.std.specs.Prelude.{Err}
use Rattle.base.specs.declared.Refusal.TheVariants.{Message as MessageR}
use mathlib.Core.Path.{ap, sym, ◌∙◌}
use mathlib.Core.Path.{refl}
use native.Mathlib.Omega.{arith}
use lib.ListN.{length-drop}
use Rattle.message.proofs.Laws.{part-all}
use Rattle.server.proofs.Laws.{facts, sized_of, delivery-unknown, delivery-self, delivery-heard, delivery-junk, reads-ready}
use borrow.Author.Rules.{rules}
use Rattle.server.proofs.decide_delivery.Goals as goal

pub returns-then-z-from : goal.returns-then-z-from
returns-then-z-from c = let a = c.args in let p = c.requires in let g = c.well_formed in delivery-unknown a.z a.s _ a.from a.hist.now a.cand.now a.msg.now (search (rules, c.if-z-from)) refl

pub returns-then-from-s : goal.returns-then-from-s
returns-then-from-s c = let a = c.args in let p = c.requires in let g = c.well_formed in delivery-self a.z a.s _ a.from a.hist.now a.cand.now a.msg.now (search (rules, c.if-z-from)) (search (rules, c.if-from-s)) refl

pub read-requires : goal.read-requires
read-requires c = let a = c.args in let p = c.requires in let g = c.well_formed in reads-ready a.z a.s a.from a.hist.now a.cand.now a.msg.now p

pub slice_bounds-decide_message-count : goal.slice_bounds-decide_message-count
slice_bounds-decide_message-count c = let a = c.args in let p = c.requires in let g = c.well_formed in let q = reads-ready a.z a.s a.from a.hist.now a.cand.now a.msg.now p in search rules

pub slice_bounds-decide_message-start : goal.slice_bounds-decide_message-start
slice_bounds-decide_message-start c = let a = c.args in let p = c.requires in let g = c.well_formed in let q = reads-ready a.z a.s a.from a.hist.now a.cand.now a.msg.now p in search rules

pub decide_message-requires : goal.decide_message-requires
decide_message-requires c = let a = c.args in let p = c.requires in let g = c.well_formed in let f = facts a.z a.s a.hist.now a.cand.now p.sizes p.state in let q = reads-ready a.z a.s a.from a.hist.now a.cand.now a.msg.now p in (sized_of a.z a.s a.hist.now a.cand.now f (search (rules, g.1.0.1.1.1.1.1.1.1.1.1.1.1.1.0)) (search (rules, g.1.0.1.1.1.1.1.1.1.1.1.1.1.1.1.0)) (search (rules, g.1.0.1.1.1.1.1.1.1.1.1.1.1.1.1.1.0)) (search (rules, g.1.0.1.1.1.1.1.1.1.1.1.1.1.1.1.1.1.0)), (record { low = search (rules, c.if-z-from); other = search (rules, c.if-from-s) }, (omega (arith, f.hist.0), (omega (arith, f.cand.0), (rw (part-all 4 a.msg.now) (omega (arith, length-drop 4 a.msg.now, q.1.1)), (rw (c.ok_or.ensures.ok_part ∙ ap result_ok c.in_ok-m.was) at c.read.ensures.fits))))))

pub returns-in_err-m : goal.returns-in_err-m
returns-in_err-m c = let a = c.args in let p = err_from_is_err_and c.from_residual.result c.from_residual.ensures.1 in let none = c.ok_or.ensures.ok_part ∙ ap result_ok c.in_err-m.was in
    delivery-junk a.z a.s _ a.from a.hist.now a.cand.now a.msg.now _ none (search (rules, c.if-z-from)) (search (rules, c.if-from-s)) c.read.ensures
    (p.1 ∙ ap Err (p.2 ∙ number-one _ MessageR (ap code_of (sym c.in_err-m.was ∙ c.ok_or.ensures.value ∙ ap (λ x. ok_or x MessageR) none))))

pub returns : goal.returns
returns c = let a = c.args in let some = c.ok_or.ensures.ok_part ∙ ap result_ok c.in_ok-m.was in
    delivery-heard a.z a.s _ a.from a.hist.now a.cand.now a.msg.now _ _ some (search (rules, c.if-z-from)) (search (rules, c.if-from-s)) c.read.ensures (rw (part-all 4 a.msg.now) at c.decide_message.ensures)
