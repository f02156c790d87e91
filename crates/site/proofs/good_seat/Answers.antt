use native.Mathlib.Omega.{arith}
use Prim.Native.Nat.{◌*◌}
use mathlib.Core.Path.{refl}
use borrow.Author.Tests.{ne_eqb}
use Rattle.rules.proofs.WellFormed.{sized}
use Rattle.site.specs.Site.{good_seat}
use Rattle.site.proofs.Goods.{and-else, seat-is}
use Rattle.site.proofs.good_seat.Goals as goal

pub bounds-c-j : goal.bounds-c-j
bounds-c-j c = let a = c.args in let p = c.requires in let s = (sized a.c.sizes p.0).seven in omega (arith, p.1.0, s, c.from-j.ensures)

pub returns-else-s-i : goal.returns-else-s-i
unfolding good_seat
returns-else-s-i c = λ q o. rw c.from-j.ensures (and-else _ _ _ refl (ne_eqb _ _ (rw c.from-j.ensures at c.if-s-i.false)))

pub returns-then-s-i : goal.returns-then-s-i
returns-then-s-i c = let a = c.args in let e = c.from-j.ensures in seat-is a.c a.hists.now a.cands.now a.i (2 * a.c.sizes.room.0) c.sound.result c.requires.0 (rw e at c.if-s-i.true) refl (rw e at c.sound.ensures)
