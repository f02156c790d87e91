use mathlib.Core.Path.{refl}
use Rattle.rules.specs.Words.{tab, state_of}
use Rattle.cluster.proofs.start.fresh_state.Goals as goal

pub returns : goal.returns
unfolding state_of tab
returns c = refl
