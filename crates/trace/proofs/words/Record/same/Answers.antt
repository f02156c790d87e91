use mathlib.Core.Path.{◌∙◌}
use Rattle.trace.proofs.Leaf.{same-triple}
use Rattle.trace.proofs.words.Record.same.Goals as goal

pub returns : goal.returns
returns c = c.eq.ensures ∙ same-triple _ _ c.epoch.ensures c.counter.ensures c.value.ensures c.epoch-2.ensures c.counter-2.ensures c.value-2.ensures
