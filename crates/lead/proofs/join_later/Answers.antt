use Rattle.lead.proofs.Laws.{later-epoch, later-second, later-done}
use borrow.Author.Rules.{rules}
use Rattle.lead.proofs.join_later.Goals as goal

pub returns-then-lt : goal.returns-then-lt
returns-then-lt c = λ h k m. later-epoch _ _ _ h k m (search (rules, c.if-lt))

pub returns-then-s-eq6 : goal.returns-then-s-eq6
returns-then-s-eq6 c = λ h k m. later-second _ _ _ _ _ h k m c.requires.0 c.requires.1 c.from-f.ensures (search (rules, c.if-lt)) c.if-s-eq6.true c.solo-one.ensures c.no_txn.ensures c.planned.ensures

pub returns : goal.returns
returns c = λ h k m. later-done _ _ _ _ _ h k m c.requires.0 c.requires.1 c.from-f.ensures (search (rules, c.if-lt)) c.if-s-eq6.false c.solo-one.ensures c.solo-two.ensures c.no_txn-2.ensures c.planned-2.ensures
