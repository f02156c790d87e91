use mathlib.Core.Path.{◌∙◌}
use Rattle.trace.proofs.Leaf.{less-pair}
use Rattle.trace.proofs.words.Record.below.Goals as goal

pub returns : goal.returns
returns c = c.lt.ensures ∙ less-pair _ _ c.epoch.ensures c.counter.ensures c.epoch-2.ensures c.counter-2.ensures
