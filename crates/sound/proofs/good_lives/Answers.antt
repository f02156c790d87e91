use native.Mathlib.Omega.{arith}
use Rattle.base.specs.Choice.{both, either}
use Rattle.rules.specs.Server.{during}
use Rattle.sound.specs.Parts.{sets_live}
use Rattle.std.proofs.lemmas.Grind.{common_steps}
use Rattle.sound.proofs.good_lives.Goals as goal

pub returns-else-matches-2 : goal.returns-else-matches-2
unfolding sets_live during both either
returns-else-matches-2 c = grind (arith, common_steps)

pub returns-else-is_empty-2 : goal.returns-else-is_empty-2
unfolding sets_live during both either
returns-else-is_empty-2 c = grind (arith, common_steps)
