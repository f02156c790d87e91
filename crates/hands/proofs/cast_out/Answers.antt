use native.Mathlib.Omega.{arith}
use Rattle.hands.proofs.Laws.{with-hist, with-txn, with_none}
use Rattle.hands.proofs.cast_out.Goals as goal
use Rattle.hands.proofs.cast_out.Goals.{in_default-via-then-c-lt3, in_default-via-else-c-lt3+else-c-lt5}

pub returns-in-3 : goal.returns-in-3
returns-in-3 c = with-hist _ _ _ _ _ _ _ _ _ _ c.requires (omega arith) (omega arith) c.send_all-in-3.ensures

pub returns-in-7 : goal.returns-in-7
returns-in-7 c = with-txn _ _ _ _ _ _ _ _ _ _ c.requires c.in-7.is c.send_all.ensures

pub returns-in_default : goal.returns-in_default
returns-in_default c = elim c.in_default.branch [ in_default-via-then-c-lt3 w ↦ with_none _ _ _ _ _ _ _ _ _ _ c.requires (omega arith) (omega arith) (omega arith) c.send_all-in_default.ensures | in_default-via-else-c-lt3+else-c-lt5 w ↦ with_none _ _ _ _ _ _ _ _ _ _ c.requires (omega arith) (omega arith) (omega arith) c.send_all-in_default.ensures ]
