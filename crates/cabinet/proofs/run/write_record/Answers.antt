use Rattle.cabinet.proofs.Runs.{record-written}
use Rattle.cabinet.proofs.run.write_record.Goals as goal

pub returns : goal.returns
returns c = let a = c.args in record-written a.held.now c.write_state.new.w a.i a.s c.requires.0 c.requires.1 c.write_state.auto.w c.write_state.ensures
