use borrow.Author.Rules.{rules}
use Rattle.scribe.proofs.Notes.{notes-start, notes-on}
use Rattle.scribe.proofs.write_notes.Goals as goal

pub loop-j-init : goal.loop-j-init
loop-j-init c = let a = c.args in notes-start a.submitted a.who a.hist.now a.from a.to a.out.now a.at

pub loop-j-preserved : goal.loop-j-preserved
loop-j-preserved c = search (notes-on, rules)
