use mathlib.Core.Path.{refl}
use Rattle.std.specs.Prelude.{Err}
use Rattle.base.proofs.Refusals.{number-not}
use native.Mathlib.Omega.{arith}
use Rattle.turn.proofs.Turning.{local-seat, local-stood, local-ships, local-taken}
use Rattle.turn.proofs.local.Goals as goal

pub enact-requires : goal.enact-requires
enact-requires c = let a = c.args in let g = c.requires in rw c.from.ensures (local-seat a.c a.hists.now a.cands.now a.queue.now a.out.now g.0 a.i g.1.0 a.ev g.1.1)

pub returns-in-Err : goal.returns-in-Err
returns-in-Err c = let a = c.args in let g = c.requires in let E = rw (c.in-Err.is, c.from.ensures) at c.enact.ensures in local-stood a.c a.hists.now a.cands.now a.queue.now a.out.now g.0 a.i g.1.0 a.ev _ _ _ _ E (Err c.in-Err.why) refl (number-not c.in-Err.why)

pub send-t-requires : goal.send-t-requires
send-t-requires c = let a = c.args in let g = c.requires in let E = rw (c.in-Ok.is, c.from.ensures) at c.enact.ensures in local-ships a.c a.hists.now a.cands.now a.queue.now a.out.now g.0 a.i g.1.0 a.ev _ _ _ _ E refl

pub seat-requires : goal.seat-requires
seat-requires c = let a = c.args in let g = c.requires in omega (arith, g.1.0, g.0.ringed.few)

pub returns-in-Ok : goal.returns-in-Ok
returns-in-Ok c = let a = c.args in let g = c.requires in let E = rw (c.in-Ok.is, c.from.ensures) at c.enact.ensures in local-taken a.c a.hists.now a.cands.now a.queue.now a.out.now g.0 a.i g.1.0 a.ev _ _ _ _ E _ _ _ refl c.send-t.ensures c.seat.ensures
