use mathlib.Core.Path.{sym}
use Rattle.ring.proofs.Laws.{wrap-yes, wrap-no}
use borrow.Author.Rules.{rules}
use Rattle.ring.proofs.wrap.Goals as goal

pub returns-then-k-depth : goal.returns-then-k-depth
returns-then-k-depth c = sym (wrap-yes _ _ (search rules))

pub returns-else-k-depth : goal.returns-else-k-depth
returns-else-k-depth c = sym (wrap-no _ _ (search rules))
