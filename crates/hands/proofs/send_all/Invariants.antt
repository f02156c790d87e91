use Prim.Native.Nat.{◌≤◌}
use mathlib.Core.Path.{◌≡◌}
use lib.ListN.{length}
use Rattle.rules.specs.Words.{txns, has, msg_words}
use Rattle.hands.specs.Hands.{Spread}
use Rattle.hands.proofs.send_all.Given as goal

abbrev pub invariant-loop-i : goal.invariant-loop-i
invariant-loop-i l = (l.i ≤ l.z.n) × ((length l.out ≡ length l.initial.out) × Spread l.z.room.0 l.initial.out l.k l.i l.me (has l.c.to) (msg_words l.z.room.0 l.c.kind l.c.e.0 l.c.x.0 (txns l.n.0 l.src)) l.out l.s)
