use Rattle.scribe.proofs.Notes.{Noted}
use Rattle.scribe.proofs.write_notes.Given as goal

abbrev pub invariant-loop-j : goal.invariant-loop-j
invariant-loop-j l = Noted l.submitted l.who l.hist l.from l.to l.initial.out l.at l.out l.end l.j
