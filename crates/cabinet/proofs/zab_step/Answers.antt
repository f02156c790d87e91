use mathlib.Core.Path.{refl, sym, ◌∙◌}
use native.Mathlib.Omega.{arith}
use borrow.Author.Rules.{rules}
use Rattle.base.specs.Choice.{pick, both}
use Rattle.base.proofs.Refusals.{number-not}
use Rattle.cabinet.specs.Zab.{zab_of}
use Rattle.cabinet.proofs.Laws.{is-lent, refused, count_fits, done}
use Rattle.cabinet.proofs.zab_step.Goals as goal

pub returns-then-not-sizes_fit : goal.returns-then-not-sizes_fit
unfolding zab_of pick both
returns-then-not-sizes_fit c = search rules

pub returns-then-not-slot_fits : goal.returns-then-not-slot_fits
unfolding zab_of pick both
returns-then-not-slot_fits c = search rules

pub returns-then-not-record_fits : goal.returns-then-not-record_fits
unfolding zab_of pick both
returns-then-not-record_fits c = search rules

pub step_bytes-requires : goal.step_bytes-requires
step_bytes-requires c = is-lent _ _ _ _ _ _ _ _ (sym c.sizes_fit.ensures ∙ c.if-not-sizes_fit.false) (sym c.slot_fits.ensures ∙ c.if-not-slot_fits.false) _ c.lent_words-lent.ensures

pub returns-in-Err : goal.returns-in-Err
returns-in-Err c = rw c.from-in-Err.ensures (refused _ _ _ _ _ _ _ _ (sym c.sizes_fit.ensures ∙ c.if-not-sizes_fit.false) (sym c.slot_fits.ensures ∙ c.if-not-slot_fits.false) _ c.lent_words-lent.ensures _ _ _ _ c.load.ensures (sym c.record_fits.ensures ∙ c.if-not-record_fits.false) _ c.read_state-s.ensures _ c.event_of-ev.ensures _ _ _ _ c.in-Err.ensures (number-not c.in-Err.why))

pub overflow_cast-a : goal.overflow_cast-a
overflow_cast-a c = omega (arith, count_fits _ _ _ _ _ _ _ _ (sym c.sizes_fit.ensures ∙ c.if-not-sizes_fit.false) (sym c.slot_fits.ensures ∙ c.if-not-slot_fits.false) _ c.lent_words-lent.ensures _ _ _ _ c.load.ensures (sym c.record_fits.ensures ∙ c.if-not-record_fits.false) _ c.read_state-s.ensures _ c.event_of-ev.ensures _ _ _ _ c.in-Ok.ensures)

pub returns-in-Ok : goal.returns-in-Ok
returns-in-Ok c = done _ _ _ _ _ _ _ _ (sym c.sizes_fit.ensures ∙ c.if-not-sizes_fit.false) (sym c.slot_fits.ensures ∙ c.if-not-slot_fits.false) _ c.lent_words-lent.ensures _ _ _ _ c.load.ensures (sym c.record_fits.ensures ∙ c.if-not-record_fits.false) _ c.read_state-s.ensures _ c.event_of-ev.ensures _ _ _ _ c.in-Ok.ensures _ _ _ _ refl c.write_state.ensures (c.write_state.auto.w ∙ c.load.auto.w) c.save.ensures c.from-in-Ok.ensures c.copy_from_slice.ensures.after
