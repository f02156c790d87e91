use mathlib.Core.Path.{◌≡◌}
use Rattle.base.specs.Transaction.{rising}
use Rattle.rules.specs.Words.{txns}
use Rattle.words.proofs.Laws.{rise_rest}
use Rattle.words.proofs.rises.Given as goal

abbrev pub invariant-loop-i : goal.invariant-loop-i
invariant-loop-i l = rise_rest l.a.0 l.w l.n l.i l.last ≡ rising l.a.0 0 (txns l.n l.w)
