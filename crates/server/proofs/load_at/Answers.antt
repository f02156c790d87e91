use Rattle.server.proofs.Laws.{load-other}
use Rattle.server.specs.Whole.{load_at}
use Rattle.server.proofs.load_at.Goals as goal

pub returns-in-Deliver : goal.returns-in-Deliver
unfolding load_at
returns-in-Deliver c = rw c.in-Deliver.is

pub returns-in_default : goal.returns-in_default
returns-in_default c = load-other _ c.in_default.not-Deliver
