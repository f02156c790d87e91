use Rattle.deliver.proofs.Laws.{third-gap, third-done, third-more}
use borrow.Author.Rules.{rules}
use Rattle.deliver.proofs.sync_third.Goals as goal

pub returns-then-ne : goal.returns-then-ne
returns-then-ne c = λ h k m. search (third-gap, rules)

pub returns-then-not-is_quorum : goal.returns-then-not-is_quorum
returns-then-not-is_quorum c = λ h k m. third-more _ _ h k m _ _ _ _ _ (search rules) c.synced-t.ensures c.is_quorum.ensures (search rules) c.quiet.ensures c.requires.0 c.requires.1

pub returns : goal.returns
returns c = λ h k m. third-done _ _ h k m _ _ _ _ _ _ (search rules) c.synced-t.ensures c.is_quorum.ensures (search rules) c.no_txn.ensures c.planned.ensures c.requires.0 c.requires.1
