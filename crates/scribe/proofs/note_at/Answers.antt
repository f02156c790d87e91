use Rattle.scribe.proofs.Notes.{note-begun, note-told}
use Rattle.scribe.proofs.note_at.Goals as goal

pub returns-then-submitted : goal.returns-then-submitted
returns-then-submitted c = let a = c.args in note-begun a.submitted a.who a.hist.now a.j c.if-submitted.true

pub returns-else-submitted : goal.returns-else-submitted
returns-else-submitted c = let a = c.args in note-told a.submitted a.who a.hist.now a.j c.if-submitted.false
