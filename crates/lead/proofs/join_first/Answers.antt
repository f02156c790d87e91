use Rattle.lead.proofs.Laws.{join-wait, join-spent, join-elect}
use borrow.Author.Rules.{rules}
use Rattle.lead.proofs.join_first.Goals as goal

pub returns-then-not-is_quorum : goal.returns-then-not-is_quorum
returns-then-not-is_quorum c = λ h k m. join-wait _ _ _ _ _ h k m c.requires.0 c.requires.1.0 c.from.ensures c.if-not-is_quorum.ensures (search rules) c.requires.1.1 c.quiet.ensures

pub returns-then-t : goal.returns-then-t
returns-then-t c = λ h k m. join-spent _ _ _ _ _ h k m c.requires.0 c.requires.1.0 c.from.ensures c.if-not-is_quorum.ensures (search rules) c.if-t.true

pub returns : goal.returns
returns c = λ h k m. join-elect _ _ _ _ _ h k m c.requires.0 c.requires.1.0 c.from.ensures c.if-not-is_quorum.ensures (search rules) (search rules) c.elect.ensures
