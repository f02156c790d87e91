-- A transaction has two words, so the histories are the same
-- exactly if the words are.
use Rattle.std.proofs.Common.{rules}
use Rattle.words.proofs.Laws.{same_words}
use Rattle.words.proofs.same_prefix.Goals as goal

pub returns : goal.returns
returns c = search (same_words, rules)
