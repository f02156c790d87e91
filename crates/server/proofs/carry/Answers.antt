use Rattle.std.proofs.lemmas.Result.{err_from_is_err_and}
use Rattle.std.specs.Prelude.{Err}
use mathlib.Core.Path.{ap, ◌∙◌}
use Prim.Native.Nat.{◌≤◌}
use mathlib.Core.Path.{refl}
use lib.ListN.{length}
use Rattle.server.specs.Whole.{load_at}
use Rattle.message.proofs.Laws.{part-all}
use Rattle.server.proofs.Laws.{may, carried, stood, load_fits}
use borrow.Author.Rules.{rules}
use Rattle.server.proofs.carry.Goals as goal

pub returns-in_err-p : goal.returns-in_err-p
returns-in_err-p c = let a = c.args in let p = err_from_is_err_and c.from_residual.result c.from_residual.ensures.1 in stood a.z a.s a.ev a.r a.hist.now a.cand.now a.msg.now a.out.now _ c.from_residual.result c.requires.0 c.requires.1 c.in_err-p.was (p.1 ∙ ap Err p.2)

pub offset_bounds-msg-at : goal.offset_bounds-msg-at
offset_bounds-msg-at c = let a = c.args in let g = c.well_formed in let p = c.requires in let w = load_fits a.z a.s a.ev a.hist.now a.cand.now a.msg.now p.0.can in rw c.load_at-at.ensures (search rules)

pub slice_bounds-perform-count : goal.slice_bounds-perform-count
slice_bounds-perform-count c = let a = c.args in let g = c.well_formed in let p = c.requires in let w = load_fits a.z a.s a.ev a.hist.now a.cand.now a.msg.now p.0.can in rw c.load_at-at.ensures w.0

pub slice_bounds-perform-start : goal.slice_bounds-perform-start
slice_bounds-perform-start c = let a = c.args in let g = c.well_formed in let p = c.requires in let w = load_fits a.z a.s a.ev a.hist.now a.cand.now a.msg.now p.0.can in let q : c.load_at-at.result ≤ length a.msg.now = rw c.load_at-at.ensures w.0 in search rules

pub perform-sent-requires : goal.perform-sent-requires
perform-sent-requires c = let a = c.args in let g = c.well_formed in let p = c.requires in let dec = rw c.in_ok-p.was at p.1 in
    rw (c.load_at-at.ensures, part-all (load_at a.ev) a.msg.now) (may a.z a.s a.ev c.in_ok-p.p a.hist.now a.cand.now a.msg.now a.out.now p.0 dec (search (rules, g.1.0.1.1.1.1.1.1.1.1.1.1.1.1.0)) (search (rules, g.1.0.1.1.1.1.1.1.1.1.1.1.1.1.1.0)) (search (rules, g.1.0.1.1.1.1.1.1.1.1.1.1.1.1.1.1.0)) (search (rules, g.1.0.1.1.1.1.1.1.1.1.1.1.1.1.1.1.1.0)))

pub returns : goal.returns
returns c = let a = c.args in let g = c.well_formed in let p = c.requires in let dec = rw c.in_ok-p.was at p.1 in let t = rw c.in_ok-p.is at c.branch-p.type_inv in
    carried a.z a.s a.ev c.in_ok-p.p a.hist.now a.cand.now a.msg.now a.out.now p.0 dec _ _ _ _ _ (search (rules, t)) (search (rules, t)) (search (rules, t)) (search (rules, t)) (rw (c.load_at-at.ensures, part-all (load_at a.ev) a.msg.now) at c.perform-sent.ensures) refl
