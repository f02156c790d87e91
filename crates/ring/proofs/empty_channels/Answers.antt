use Rattle.ring.proofs.Laws.{empty-start, empty-on, empty-does}
use borrow.Author.Rules.{rules}
use Rattle.ring.proofs.empty_channels.Goals as goal

pub loop-k-init : goal.loop-k-init
loop-k-init c = empty-start _ _ _ _ _ c.requires.0

pub loop-k-preserved : goal.loop-k-preserved
loop-k-preserved c = empty-on _ _ _ _ _ _ _ _ _ _ c.loop-k.invariant c.empty_pair-s.ensures

pub returns : goal.returns
returns c = empty-does _ _ _ _ _ _ _ _ (search rules) (search rules) c.loop-k.invariant
