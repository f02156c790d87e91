use native.Mathlib.Omega.{arith}
use Rattle.hands.proofs.Laws.{cand-cut, cand-told, cand-copied}
use Rattle.hands.proofs.set_cand.Goals as goal

pub returns-in-0 : goal.returns-in-0
returns-in-0 c = cand-cut _ _ _ _ _ _ _ c.requires _ c.in-0.is c.clear_from.ensures

pub returns-in-1 : goal.returns-in-1
returns-in-1 c = cand-told _ _ _ _ _ _ _ c.requires _ c.in-1.is c.take_over.ensures

pub returns-in_default : goal.returns-in_default
returns-in_default c = cand-copied _ _ _ _ _ _ _ c.requires _ (omega (arith, c.requires.known)) c.take_over-in_default.ensures
