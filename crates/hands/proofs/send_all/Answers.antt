use mathlib.Core.Path.{refl}
use Rattle.hands.proofs.Laws.{slots-on, spread-start, spread-on, spread_end}
use borrow.Author.Rules.{rules}
use Rattle.hands.proofs.send_all.Goals as goal

pub loop-i-init : goal.loop-i-init
loop-i-init c = (search rules, (refl, spread-start _ _ _ _ _ _))

pub send_one-s-requires : goal.send_one-s-requires
send_one-s-requires c = let p = c.requires in let v = c.loop-i.invariant in let t = c.loop-i-test in (search rules, (slots-on _ _ _ _ _ _ _ _ _ p.1.0 (search rules) v.1.1.count v.1.0, p.1.1))

pub loop-i-preserved : goal.loop-i-preserved
loop-i-preserved c = (search rules, (search rules, spread-on _ _ _ _ _ _ _ _ _ _ _ c.loop-i.invariant.1.1 c.send_one-s.ensures))

pub returns : goal.returns
returns c = let v = c.loop-i.invariant in spread_end _ _ _ _ _ _ _ _ _ _ v.0 (search rules) v.1.1
