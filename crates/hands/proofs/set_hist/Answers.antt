use native.Mathlib.Omega.{arith}
use Rattle.hands.proofs.Laws.{hist-stays, hist-told, hist-chosen, hist-longer}
use Rattle.hands.proofs.set_hist.Goals as goal

pub returns-in-0 : goal.returns-in-0
returns-in-0 c = hist-stays _ _ _ _ _ _ _ c.requires c.in-0.is

pub returns-in-1 : goal.returns-in-1
returns-in-1 c = hist-told _ _ _ _ _ _ _ c.requires _ c.in-1.is c.take_over.ensures

pub returns-in-2 : goal.returns-in-2
returns-in-2 c = hist-chosen _ _ _ _ _ _ _ c.requires _ c.in-2.is c.take_over-in-2.ensures

pub returns-in_default : goal.returns-in_default
returns-in_default c = hist-longer _ _ _ _ _ _ _ c.requires (omega (arith, c.requires.known))
