use Prim.Native.Nat.{ℕ, ◌≤◌}
use lib.Dec.{leb}
use mathlib.Core.Bool.{true, false}
use Rattle.std.proofs.lemmas.Iterator.{serves_from_Range, cases_from_all, YieldsList-from_range}
use Rattle.ring.proofs.Parts.{all-in-range}
use Rattle.ring.specs.Queue.{cell, count, Chan}
use Rattle.post.specs.Room.{due, fits}
use Rattle.post.proofs.Rooms.{due-may}
use mathlib.Core.Path.{◌≡◌, refl}
use native.Mathlib.Omega.{arith}
use borrow.Author.Rules.{rules}
use borrow.Author.Tests.{tests}
use Rattle.post.proofs.has_room.Goals as goal

pub all-requires-clause-callable : goal.all-requires-clause-callable
all-requires-clause-callable c = let a = c.args in let p = c.requires in
    serves_from_Range (λ x q k. search (rules, tests)) (λ t low high. let m : (a.z.n ≤ 7) × (Chan a.z a.i t × (count a.r (cell a.z.n a.i t) ≤ 16)) = due-may a.z a.depth a.r a.i t p.0 p.1.0 p.1.1.0 p.1.1.1 high in search rules)

pub returns : goal.returns
unfolding fits
returns c = let a = c.args in let f = (λ (t : ℕ). leb (due a.z a.r a.i a.empties a.one a.two t) a.depth) in
    all-in-range a.z.n f c.all.result (cases_from_all _ _ _ (λ t. f t ≡ true) (λ t. f t ≡ false) c.all.ensures.ran (YieldsList-from_range 0 a.z.n a.z.n refl (omega arith)) (λ t q k. search (rules, tests)) (λ t q k. search (rules, tests)))
