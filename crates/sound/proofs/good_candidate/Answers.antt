use native.Mathlib.Omega.{arith}
use Rattle.base.specs.Choice.{both, either}
use Rattle.rules.specs.Server.{good_candidate}
use Rattle.std.proofs.lemmas.Grind.{common_steps}
use Rattle.sound.proofs.good_candidate.Goals as goal

pub returns-else-s : goal.returns-else-s
unfolding good_candidate both either
returns-else-s c = λ z b d w j k y g q h. grind (arith, common_steps)
