use Rattle.std.specs.Prelude.{Err}
use Rattle.base.proofs.Refusals.{number-not}
use mathlib.Core.Path.{refl, sym, ◌∙◌}
use native.Mathlib.Omega.{arith}
use Rattle.turn.proofs.Turning.{there, busy, between, delivered-hears, delivered-stood, delivered-dropped, delivered-ships, delivered-taken}
use Rattle.turn.proofs.deliver.Goals as goal

pub bounds-c-from : goal.bounds-c-from
bounds-c-from c = let a = c.args in let g = c.requires in let l = there a.c.sizes a.c.rings a.f a.t g.1 in omega (arith, l.1, g.0.ringed.few, c.from.ensures)

pub hear-requires : goal.hear-requires
hear-requires c = let a = c.args in let g = c.requires in rw c.from.ensures (g.0.ringed, delivered-hears a.c a.hists.now a.cands.now a.queue.now a.out.now g.0 a.f a.t g.1)

pub pop-w-requires : goal.pop-w-requires
pop-w-requires c = let a = c.args in let g = c.requires in (g.0.ringed, (between a.c a.hists.now a.cands.now a.queue.now a.out.now g.0 a.f a.t g.1, busy a.c a.hists.now a.cands.now a.queue.now a.out.now g.0 a.f a.t g.1))

pub send-x-requires : goal.send-x-requires
send-x-requires c = let a = c.args in let g = c.requires in delivered-ships a.c a.hists.now a.cands.now a.queue.now a.out.now g.0 a.f a.t g.1 _ _ _ _ (rw (c.in-Ok.is, c.from.ensures) at c.hear.ensures) _ _ c.pop-w.ensures refl

pub seat-requires : goal.seat-requires
seat-requires c = let a = c.args in let g = c.requires in let l = there a.c.sizes a.c.rings a.f a.t g.1 in omega (arith, l.1, g.0.ringed.few)

pub returns-in-Ok : goal.returns-in-Ok
returns-in-Ok c = let a = c.args in let g = c.requires in let E = rw (c.in-Ok.is, c.from.ensures) at c.hear.ensures in delivered-taken a.c a.hists.now a.cands.now a.queue.now a.out.now g.0 a.f a.t g.1 _ _ _ _ E _ _ c.pop-w.ensures _ _ _ refl c.send-x.ensures c.seat.ensures

pub pop-d-requires : goal.pop-d-requires
pop-d-requires c = let a = c.args in let g = c.requires in (g.0.ringed, (between a.c a.hists.now a.cands.now a.queue.now a.out.now g.0 a.f a.t g.1, busy a.c a.hists.now a.cands.now a.queue.now a.out.now g.0 a.f a.t g.1))

pub returns-then-drops : goal.returns-then-drops
returns-then-drops c = let a = c.args in let g = c.requires in let E = rw (c.in-Err.is, c.from.ensures) at c.hear.ensures in delivered-dropped a.c a.hists.now a.cands.now a.queue.now a.out.now g.0 a.f a.t g.1 _ _ _ _ E _ _ c.pop-d.ensures (Err c.in-Err.why) refl _ (number-not c.in-Err.why) (sym c.drops.ensures ∙ c.if-drops.true) refl

pub returns-else-drops : goal.returns-else-drops
returns-else-drops c = let a = c.args in let g = c.requires in let E = rw (c.in-Err.is, c.from.ensures) at c.hear.ensures in delivered-stood a.c a.hists.now a.cands.now a.queue.now a.out.now g.0 a.f a.t g.1 _ _ _ _ E (Err c.in-Err.why) refl (number-not c.in-Err.why) (sym c.drops.ensures ∙ c.if-drops.false)
