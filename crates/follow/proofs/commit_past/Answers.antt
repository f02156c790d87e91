use Rattle.rules.specs.Step.{on_commit}
use Rattle.follow.proofs.Laws.{other-epoch, commit-gap, commit-done}
use borrow.Author.Rules.{rules}
use Rattle.follow.proofs.commit_past.Goals as goal

pub returns-then-ne : goal.returns-then-ne
unfolding on_commit
returns-then-ne c = λ h k m. search (other-epoch, rules)

pub returns-then-lt : goal.returns-then-lt
returns-then-lt c = λ h k m. search (commit-gap, rules)

pub returns : goal.returns
returns c = λ h k m. commit-done _ _ h k m _ _ _ _ (search rules) (search rules) c.requires (search rules) c.quiet.ensures
