use Rattle.words.proofs.Laws.{copied}
use Rattle.words.proofs.take_over.Goals as goal

pub returns : goal.returns
returns c = copied _ _ _ _ _ c.requires.0 c.requires.1 c.copy_over.ensures c.clear_from.ensures
