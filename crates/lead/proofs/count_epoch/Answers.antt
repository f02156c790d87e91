use native.Mathlib.Omega.{arith}
use Rattle.lead.proofs.Laws.{counted, counted-sizes}
use Rattle.lead.proofs.count_epoch.Goals as goal

pub chosen-requires : goal.chosen-requires
chosen-requires c = let a = c.args in
    counted-sizes _ _ _ a.hist.now a.cand.now a.load.now _ _ _ _ c.requires.0 (omega (arith, c.requires)) (omega (arith, c.requires.0.cand, c.requires))
    _ c.with_candidate-t.ensures c.choose-w.ensures c.requires.1.0 (omega (arith, c.requires)) (omega (arith, c.requires))

pub returns : goal.returns
returns c = let a = c.args in
    counted _ _ _ _ _ _ _ _ _ _ c.requires.0 (omega (arith, c.requires)) (omega (arith, c.requires.0.cand, c.requires))
    (rw (← c.last_id-x.ensures, ← c.last_id-y.ensures) c.is_above-wins.ensures) c.requires.1.1.0 c.with_candidate-t.ensures c.choose-w.ensures (c.chosen.ensures a.s a.cand.now a.load.now)
