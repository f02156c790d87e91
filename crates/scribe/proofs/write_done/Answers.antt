use mathlib.Core.Path.{◌≡◌}
use borrow.Author.Rules.{rules}
use Rattle.base.specs.Choice.{pick}
use Rattle.scribe.proofs.Notes.{done-wrote}
use Rattle.scribe.proofs.write_done.Goals as goal
use Rattle.scribe.proofs.write_done.Goals.{then-submitted, else-submitted}

pub returns : goal.returns
unfolding pick
returns c =
    let a = c.args in
    let y : c.if-submitted.to ≡ pick a.submitted a.t.len.0 0 = elim c.if-submitted.branch [ then-submitted w ↦ search rules | else-submitted w ↦ search rules ] in
    done-wrote a.submitted a.s a.t a.hist.now a.out.now _ _ _ _ _ _ _ _ y c.from-who.ensures (search rules) c.write_entered-a.ensures.0 c.write_notes-b.ensures.0 c.write_notes.ensures.0
