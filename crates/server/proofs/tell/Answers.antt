use Prim.Native.Nat.{ℕ, ◌+◌}
use mathlib.Core.Path.{ap₂}
use mathlib.Core.Path.{refl}
use Rattle.base.specs.Choice.{pick}
use Rattle.server.proofs.Room.{told-far, told-me, told_at, byte-pick}
use borrow.Author.Rules.{rules}
use Rattle.server.proofs.tell.Goals as goal

pub returns-then-n-j : goal.returns-then-n-j
unfolding pick
returns-then-n-j c = let a = c.args in told-far a.n a.me a.j _ _ (search (rules, c.if-n-j))

pub returns-then-j-me : goal.returns-then-j-me
unfolding pick
returns-then-j-me c = let a = c.args in told-me a.n a.me a.j _ _ (search (rules, c.if-j-me))

pub returns : goal.returns
unfolding pick
returns c = let a = c.args in rw (c.from.ensures, c.from-2.ensures) (told_at a.n a.me a.j _ _ _ _ _ (search (rules, c.if-n-j)) (search (rules, c.if-j-me)) refl refl (ap₂ (λ (x y : ℕ). x + y) (byte-pick _) (byte-pick _)))
