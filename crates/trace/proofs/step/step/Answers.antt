use Prim.Native.Nat.{◌<◌}
use native.Mathlib.Omega.{arith}
use Rattle.trace.specs.Words.{kind_of}
use Rattle.trace.proofs.Laws.{x-on}
use Rattle.trace.proofs.step.step.Goals as goal

pub returns-in_default : goal.returns-in_default
returns-in_default c = let h : 3 < kind_of c.args.r.recs.now c.args.r.i = grind arith in λ n H g. x-on _ _ _ _ _ H g (λ e. omega arith) (λ e. omega arith) (λ e. omega arith)

pub returns-in_default-2 : goal.returns-in_default-2
returns-in_default-2 c = let h = rw c.in_default.is at c.kind.ensures in λ n H g. x-on _ _ _ _ _ H g (λ e. omega (arith, h)) (λ e. omega (arith, h)) (λ e. omega (arith, h))
