use Rattle.follow.proofs.Laws.{restarted}
use Rattle.follow.proofs.plan_restart.Goals as goal

pub returns : goal.returns
returns c = λ h k m. restarted _ _ _ h k m c.requires (rw (c.anew.ensures, c.nobody.ensures, c.cleared-t.ensures))
