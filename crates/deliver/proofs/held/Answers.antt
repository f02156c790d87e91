use Rattle.base.specs.Quorum.{quorum}
use Rattle.deliver.proofs.Laws.{quorum-same}
use borrow.Author.Rules.{rules}
use Rattle.deliver.proofs.held.Goals as goal

pub returns : goal.returns
unfolding quorum
returns c = quorum-same _ _ _ _ (search rules) c.requires.most c.held_by.ensures
