use Prim.Native.Nat.{◌+◌, ◌-◌, ◌*◌}
use native.Mathlib.Omega.{arith}
use lib.ListN.{length, take, drop}
use lib.ListN.{length-drop, length-take}
use Rattle.hands.proofs.Laws.{slot-put}
use borrow.Author.Rules.{rules}
use Rattle.hands.proofs.send_at.Goals as goal

pub returns : goal.returns
returns c = let a = c.args in slot-put a.out.now c.fill.new.dst a.room.0 a.n.0 (a.at + 5 + 2 * a.room.0 - a.at) (length (take (a.at + 5 + 2 * a.room.0 - a.at) (drop a.at a.out.now))) a.at a.to a.c.kind a.c.e.0 a.c.x.0 a.src.now (search rules) (search rules) (omega arith) (simp (length-take, length-drop) (omega arith)) (search rules)
