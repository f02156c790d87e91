use native.Mathlib.Omega.{arith}
use Rattle.hands.proofs.Laws.{filled}
use Rattle.hands.proofs.fill.Goals as goal

pub returns : goal.returns
returns c = filled _ _ _ _ _ _ _ c.requires.0 c.requires.1 (omega arith) c.copy_over.ensures c.clear_from.ensures
