use Rattle.server.proofs.Laws.{lent-other}
use Rattle.server.specs.Whole.{lent_len}
use Rattle.server.proofs.is_lent.Goals as goal

pub returns-in-Deliver : goal.returns-in-Deliver
unfolding lent_len
returns-in-Deliver c = rw c.in-Deliver.is

pub returns-in_default : goal.returns-in_default
returns-in_default c = lent-other _ _ _ c.in_default.not-Deliver
