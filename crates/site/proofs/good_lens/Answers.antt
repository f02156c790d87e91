use Prim.Native.Nat.{◌+◌, ◌*◌}
use mathlib.Core.Path.{◌≡◌, refl, ◌∙◌}
use lib.Dec.{eqb}
use borrow.Author.Tests.{eq-eqb, ne_eqb}
use Rattle.base.specs.Choice.{both}
use Rattle.site.proofs.Goods.{and-then, and-else, lens-are}
use Rattle.site.proofs.good_lens.Goals as goal
use Rattle.site.proofs.good_lens.Goals.{then-h-l, else-h-l, then-k-l, else-k-l}

pub returns-then-q-l : goal.returns-then-q-l
returns-then-q-l c =
    let a = c.args in
    let e = c.from-n.ensures in
    let v : c.if-h-l.value ≡ both (eqb a.h (2 * a.z.room.0 * a.z.n)) (eqb a.k (2 * a.z.room.0 * a.z.n)) = elim c.if-h-l.branch [
      | then-h-l w ↦ and-then _ _ _ _ refl (eq-eqb _ _ (rw e at w.if-h-l.true)) (rw e at w.value-is)
      | else-h-l w ↦ and-else _ _ _ (rw e at w.value-is) (w.value-is ∙ ne_eqb _ _ w.if-h-l.false)
    ] in
    let u : c.if-k-l.value ≡ both c.if-h-l.value (eqb a.q ((4 + 2 * a.z.room.0) * (a.depth * (a.z.n * a.z.n)))) = elim c.if-k-l.branch [
      | then-k-l w ↦ and-then _ _ _ _ refl w.if-k-l.true (rw (e, w.from.ensures) at w.value-is)
      | else-k-l w ↦ w.value-is ∙ and-else _ _ _ refl w.if-k-l.false
    ] in
    lens-are a.z a.depth a.h a.k a.q a.o _ _ _ v u (and-then _ _ _ _ refl c.if-q-l.true refl)

pub returns-else-q-l : goal.returns-else-q-l
returns-else-q-l c =
    let a = c.args in
    let e = c.from-n.ensures in
    let v : c.if-h-l.value ≡ both (eqb a.h (2 * a.z.room.0 * a.z.n)) (eqb a.k (2 * a.z.room.0 * a.z.n)) = elim c.if-h-l.branch [
      | then-h-l w ↦ and-then _ _ _ _ refl (eq-eqb _ _ (rw e at w.if-h-l.true)) (rw e at w.value-is)
      | else-h-l w ↦ and-else _ _ _ (rw e at w.value-is) (w.value-is ∙ ne_eqb _ _ w.if-h-l.false)
    ] in
    let u : c.if-k-l.value ≡ both c.if-h-l.value (eqb a.q ((4 + 2 * a.z.room.0) * (a.depth * (a.z.n * a.z.n)))) = elim c.if-k-l.branch [
      | then-k-l w ↦ and-then _ _ _ _ refl w.if-k-l.true (rw (e, w.from.ensures) at w.value-is)
      | else-k-l w ↦ w.value-is ∙ and-else _ _ _ refl w.if-k-l.false
    ] in
    lens-are a.z a.depth a.h a.k a.q a.o _ _ _ v u (and-else _ _ _ refl c.if-q-l.false)
