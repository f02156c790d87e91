use native.Mathlib.Omega.{arith}
use Rattle.base.specs.Choice.{both, either}
use Rattle.rules.specs.Server.{during, good_oracle}
use Rattle.sound.specs.Parts.{another}
use Rattle.std.proofs.lemmas.Grind.{common_steps}
use Rattle.sound.proofs.good_oracle.Goals as goal

pub returns-in-1-to-4 : goal.returns-in-1-to-4
unfolding good_oracle during both either another
returns-in-1-to-4 c = grind (arith, common_steps)

pub returns-in-5-to-8 : goal.returns-in-5-to-8
unfolding good_oracle during both either
returns-in-5-to-8 c = grind (arith, common_steps)
