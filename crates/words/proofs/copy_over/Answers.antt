use mathlib.Core.Path.{sym, ◌∙◌}
use native.Mathlib.Omega.{arith}
use lib.ListN.{length-set}
use lib.Seq.{take_all}
use Rattle.words.proofs.Laws.{copy-on}
use borrow.Author.Rules.{rules}
use Rattle.words.proofs.copy_over.Goals as goal

pub loop-i-preserved : goal.loop-i-preserved
loop-i-preserved c = let l = c.loop-i in (simp length-set (search rules), copy-on _ c.args.src.now l.i (search rules) (search rules) l.invariant.1)

pub returns : goal.returns
returns c = let l = c.loop-i in sym (take_all l.i _ (omega (arith, l.invariant.0, c.loop-i-test.false))) ∙ (l.invariant.1 ∙ take_all l.i _ c.loop-i-test.false)
