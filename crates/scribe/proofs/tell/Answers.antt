use mathlib.Core.Path.{◌≡◌, refl, sym, ◌∙◌}
use mathlib.Core.Logic.{◌≢◌}
use Rattle.base.specs.Refusals.{code_of, number}
use Rattle.base.proofs.Refusals.{code-ok, code-err, number-not}
use Rattle.scribe.specs.Telling.{event_for}
use Rattle.scribe.proofs.Tells.{tell-refused, tell-taken, low, seen}
use Rattle.scribe.proofs.tell.Goals as goal

pub returns-in-Err : goal.returns-in-Err
returns-in-Err c =
    let a = c.args in
    let H = rw (c.event_for-e.ensures a.c.sizes) at c.event-t.ensures in
    let y : code_of c.event-t.result.answer ≡ number c.in-Err.why = code-err _ _ c.in-Err.is in
    let n : code_of c.event-t.result.answer ≢ 0 = λ e. number-not c.in-Err.why (sym y ∙ e) in
    tell-refused a.c a.line (event_for a.c.sizes a.cmd) a.hists.now a.cands.now a.queue.now a.outbox.now a.out.now c.event-t.result _ _ _ _ H _ _ n
    (rw (c.from-k.ensures, c.from.ensures, ← y) at c.write_record-end.ensures.0)

pub write_taken-end-requires : goal.write_taken-end-requires
write_taken-end-requires c =
    let a = c.args in
    let e = event_for a.c.sizes a.cmd in
    let H = rw (c.event_for-e.ensures a.c.sizes) at c.event-t.ensures in
    let n : code_of c.event-t.result.answer ≡ 0 = code-ok _ _ c.in_default.is in
    let i = c.actor_of-i.ensures a.c.sizes (low a.c a.line e a.hists.now a.cands.now a.queue.now a.outbox.now a.out.now c.event-t.result _ _ _ _ H n) in
    (seen a.c a.line e a.hists.now a.cands.now a.queue.now a.outbox.now a.out.now c.event-t.result _ _ _ _ H n _ i, c.requires)

pub returns : goal.returns
returns c =
    let a = c.args in
    let e = event_for a.c.sizes a.cmd in
    let H = rw (c.event_for-e.ensures a.c.sizes) at c.event-t.ensures in
    let n : code_of c.event-t.result.answer ≡ 0 = code-ok _ _ c.in_default.is in
    let i = c.actor_of-i.ensures a.c.sizes (low a.c a.line e a.hists.now a.cands.now a.queue.now a.outbox.now a.out.now c.event-t.result _ _ _ _ H n) in
    tell-taken a.c a.line e a.hists.now a.cands.now a.queue.now a.outbox.now a.out.now c.event-t.result _ _ _ _ H n _ _ _ _ _ i (c.submits.ensures a.c.sizes) refl c.write_taken-end.ensures
