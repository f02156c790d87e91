use Rattle.runs.proofs.Series.{taken-one, one-most}
use mathlib.Core.Path.{ap, ◌∙◌}
use mir.Val.{bool_byte}
use Rattle.runs.proofs.many.one_if.Goals as goal

pub returns : goal.returns
returns c = let e = c.from.ensures ∙ ap bool_byte c.is_ok.ensures.value in (e ∙ taken-one c.args.answer, one-most _ _ e)
