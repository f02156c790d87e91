use mathlib.Core.Path.{ap}
use Prim.Native.Nat.{ℕ}
use mathlib.Core.List.{List}
use Rattle.rules.specs.Words.{has}
use Rattle.server.specs.Foreseen.{told, seen_of}
use Rattle.server.proofs.Room.{seven}
use Rattle.server.proofs.seen.Goals as goal

pub returns : goal.returns
unfolding seen_of
returns c = let a = c.args in ap (λ (l : List ℕ). record { empties = a.r.empties; to = l }) (seven (told a.z.n a.me (has a.r.one.to) (has a.r.two.to)) _ _ _ _ _ _ _ c.tell-a.ensures c.tell-b.ensures c.tell-c.ensures c.tell-d.ensures c.tell-e.ensures c.tell-f.ensures c.tell-g.ensures)
