use borrow.Author.Rules.{rules}
use Rattle.cabinet.proofs.Checks.{told-word}
use Rattle.cabinet.proofs.tell.Goals as goal

pub returns : goal.returns
returns c = search (told-word, rules)
