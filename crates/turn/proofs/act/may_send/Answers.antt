use Rattle.turn.specs.Act.{may_send}
use Rattle.turn.proofs.act.may_send.Goals as goal

pub returns-in-Ok : goal.returns-in-Ok
unfolding may_send
returns-in-Ok c = rw c.in-Ok.is c.has_room.ensures

pub returns-in-Err : goal.returns-in-Err
unfolding may_send
returns-in-Err c = rw c.in-Err.is
