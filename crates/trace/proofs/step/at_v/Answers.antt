use native.Mathlib.Omega.{arith}
use Rattle.trace.proofs.Laws.{v-inside}
use Rattle.trace.proofs.step.at_v.Goals as goal

pub returns-then-c-s : goal.returns-then-c-s
returns-then-c-s c = λ n H g. v-inside _ _ _ _ _ H g c.requires.1 c.server-x.ensures (omega (arith, c.server-x.ensures, c.requires.0.who (λ z. omega (arith, c.requires.1)))) c.if-c-s.true c.inside.ensures
