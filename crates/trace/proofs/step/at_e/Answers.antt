use Rattle.trace.proofs.Laws.{e-new, e-old}
use Rattle.trace.proofs.step.at_e.Goals as goal

pub returns-in-None : goal.returns-in-None
returns-in-None c = λ sp n H g. e-new _ _ _ _ _ H g c.requires.0 (rw c.in-None.is at c.requires.1)

pub returns-in-Some : goal.returns-in-Some
returns-in-Some c = λ sp n H g. e-old _ _ _ _ _ H g c.requires.0 (rw c.in-Some.is at c.requires.1)
