use mathlib.Core.List.{[]}
use native.Mathlib.Omega.{arith}
use Rattle.hands.proofs.Laws.{to-self, to_none, to_one, slot-in}
use borrow.Author.Rules.{rules}
use Rattle.hands.proofs.send_one.Goals as goal
use Rattle.hands.proofs.send_one.Goals.{then-i-me-via-then-i-me, then-i-me-via-else-i-me+then-not-c-from}

pub returns-then-i-me : goal.returns-then-i-me
returns-then-i-me c = elim c.then-i-me.branch [ then-i-me-via-then-i-me w ↦ to-self _ _ _ _ _ _ _ w.if-i-me.true | then-i-me-via-else-i-me+then-not-c-from w ↦ to_none _ _ _ _ _ _ _ (search rules) ]

pub send_at-requires : goal.send_at-requires
send_at-requires c = let p = c.requires in let w = slot-in _ c.args.out.now _ _ _ _ [] c.if-i-me.false (search rules) p.1.0 in (omega (arith, w), (p.1.1.words, (p.1.1.fits, p.1.0.most)))

pub returns : goal.returns
returns c = to_one _ _ _ _ _ _ _ _ c.if-i-me.false (search rules) c.send_at.ensures
