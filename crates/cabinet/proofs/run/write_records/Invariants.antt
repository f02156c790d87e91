use Rattle.cabinet.proofs.Runs.{Written}
use Rattle.cabinet.proofs.run.write_records.Given as goal

abbrev pub invariant-loop-i : goal.invariant-loop-i
invariant-loop-i l = Written l.initial.held l.s-items l.held l.i
