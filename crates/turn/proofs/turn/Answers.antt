use mathlib.Core.Path.{refl}
use native.Mathlib.Omega.{arith}
use Rattle.server.specs.declared.Event.TheVariants.{Restart}
use Rattle.turn.proofs.Turning.{alone-unknown}
use Rattle.turn.specs.Events.{meant, alone, ruled}
use borrow.Author.Rules.{rules}
use Rattle.turn.proofs.turn.Goals as goal

pub alone-requires : goal.alone-requires
unfolding alone
alone-requires c = search rules

pub alone-requires-in-Submit : goal.alone-requires-in-Submit
unfolding alone
alone-requires-in-Submit c = search rules

pub returns-in-Oracle : goal.returns-in-Oracle
unfolding meant ruled
returns-in-Oracle c = rw c.in-Oracle.is c.oracle.ensures

pub returns-in-Restart : goal.returns-in-Restart
unfolding meant ruled
returns-in-Restart c = rw c.in-Restart.is c.alone.ensures

pub returns-in-Deliver : goal.returns-in-Deliver
unfolding meant ruled
returns-in-Deliver c = rw c.in-Deliver.is c.delivery.ensures

pub returns-in-Submit : goal.returns-in-Submit
unfolding meant ruled
returns-in-Submit c = rw c.in-Submit.is c.alone-in-Submit.ensures

pub returns-in-Unknown : goal.returns-in-Unknown
unfolding meant ruled alone
returns-in-Unknown c = let a = c.args in let g = c.requires in rw c.in-Unknown.is (alone-unknown a.c a.hists.now a.cands.now a.queue.now a.out.now g a.c.sizes.n Restart refl (omega arith))
