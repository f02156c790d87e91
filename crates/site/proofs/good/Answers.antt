use mathlib.Core.Path.{◌≡◌, refl, ◌∙◌}
use lib.ListN.{length}
use Rattle.base.specs.Choice.{both}
use Rattle.base.proofs.Choice.{clash}
use Rattle.ring.specs.Queue.{good_rings}
use Rattle.site.specs.Site.{site_of, fitting}
use Rattle.site.proofs.Goods.{and-then, and-else, site-are, fit-seats}
use Rattle.site.proofs.good.Goals as goal
use Rattle.site.proofs.good.Goals.{then-may_lend, else-may_lend}

pub good_seats-requires : goal.good_seats-requires
good_seats-requires c = elim c.if-may_lend.branch [
  | then-may_lend u ↦ fit-seats _ _ _ _ _ _ _ c.may_lend.ensures u.if-may_lend.true
  | else-may_lend u ↦ clash c.if-good_rings.true (u.value-is ∙ u.if-may_lend.false)
]

pub returns-then-good_rings : goal.returns-then-good_rings
returns-then-good_rings c =
    let a = c.args in
    let w = site_of a.c a.hists.now a.cands.now a.queue.now a.out.now in
    let v : c.if-may_lend.value ≡ both (fitting a.c.sizes a.c.depth (length w.hists) (length w.cands) (length w.queue) (length w.box)) (good_rings a.c.depth a.c.rings) = elim c.if-may_lend.branch [
      | then-may_lend u ↦ u.value-is ∙ and-then _ _ _ _ c.may_lend.ensures u.if-may_lend.true u.good_rings.ensures
      | else-may_lend u ↦ u.value-is ∙ and-else _ _ _ c.may_lend.ensures u.if-may_lend.false
    ] in
    site-are a.c.sizes a.c.depth w _ _ v (and-then _ _ _ _ refl c.if-good_rings.true (c.good_seats.ensures a.queue.now a.out.now))

pub returns-else-good_rings : goal.returns-else-good_rings
returns-else-good_rings c =
    let a = c.args in
    let w = site_of a.c a.hists.now a.cands.now a.queue.now a.out.now in
    let v : c.if-may_lend.value ≡ both (fitting a.c.sizes a.c.depth (length w.hists) (length w.cands) (length w.queue) (length w.box)) (good_rings a.c.depth a.c.rings) = elim c.if-may_lend.branch [
      | then-may_lend u ↦ u.value-is ∙ and-then _ _ _ _ c.may_lend.ensures u.if-may_lend.true u.good_rings.ensures
      | else-may_lend u ↦ u.value-is ∙ and-else _ _ _ c.may_lend.ensures u.if-may_lend.false
    ] in
    site-are a.c.sizes a.c.depth w _ _ v (and-else _ _ _ refl c.if-good_rings.false)
