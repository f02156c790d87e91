use native.Mathlib.Omega.{arith}
use Rattle.cabinet.proofs.Runs.{records-start, records-turn, records-end}
use Rattle.cabinet.proofs.run.write_records.Goals as goal

pub loop-i-init : goal.loop-i-init
loop-i-init c = records-start _ _

pub loop-i-preserved : goal.loop-i-preserved
loop-i-preserved c = let a = c.args in let l = c.loop-i in records-turn a.held.now l.held c.write_record.new.held a.ss l.i c.requires c.well_formed.1.0.1.0.1 (omega (arith, c.well_formed.1.0.1.0.1)) l.invariant c.write_record.auto.held c.write_record.ensures.0 c.write_record.ensures.1

pub returns : goal.returns
returns c = let a = c.args in let l = c.loop-i in records-end a.held.now l.held a.ss l.i c.well_formed.1.0.1.0.1 (omega (arith, c.well_formed.1.0.1.0.1)) l.invariant
