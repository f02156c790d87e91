use mathlib.Core.Path.{refl}
use native.Mathlib.Omega.{arith}
use Rattle.server.proofs.Laws.{facts, sized_of, on-oracle, on-restart, on-submit, on-unknown, on-deliver, can-deliver}
use borrow.Author.Rules.{rules}
use Rattle.server.proofs.decide.Goals as goal

pub plan_oracle-requires : goal.plan_oracle-requires
plan_oracle-requires c = let a = c.args in let p = c.requires in let g = c.well_formed in let f = facts a.z a.s a.hist.now a.cand.now p.sizes p.state in sized_of a.z a.s a.hist.now a.cand.now f (search (rules, g.1.0.1.1.1.1.1.1.1.1.1.1.1.1.0)) (search (rules, g.1.0.1.1.1.1.1.1.1.1.1.1.1.1.1.0)) (search (rules, g.1.0.1.1.1.1.1.1.1.1.1.1.1.1.1.1.0)) (search (rules, g.1.0.1.1.1.1.1.1.1.1.1.1.1.1.1.1.1.0))

pub plan_restart-requires : goal.plan_restart-requires
plan_restart-requires c = let a = c.args in let p = c.requires in let g = c.well_formed in let f = facts a.z a.s a.hist.now a.cand.now p.sizes p.state in sized_of a.z a.s a.hist.now a.cand.now f (search (rules, g.1.0.1.1.1.1.1.1.1.1.1.1.1.1.0)) (search (rules, g.1.0.1.1.1.1.1.1.1.1.1.1.1.1.1.0)) (search (rules, g.1.0.1.1.1.1.1.1.1.1.1.1.1.1.1.1.0)) (search (rules, g.1.0.1.1.1.1.1.1.1.1.1.1.1.1.1.1.1.0))

pub decide_delivery-requires : goal.decide_delivery-requires
decide_delivery-requires c = let a = c.args in let p = c.requires in let g = c.well_formed in can-deliver a.z a.s _ _ a.hist.now a.cand.now a.msg.now c.in-Deliver.is p

pub plan_submit-requires : goal.plan_submit-requires
plan_submit-requires c = let a = c.args in let p = c.requires in let g = c.well_formed in let f = facts a.z a.s a.hist.now a.cand.now p.sizes p.state in (sized_of a.z a.s a.hist.now a.cand.now f (search (rules, g.1.0.1.1.1.1.1.1.1.1.1.1.1.1.0)) (search (rules, g.1.0.1.1.1.1.1.1.1.1.1.1.1.1.1.0)) (search (rules, g.1.0.1.1.1.1.1.1.1.1.1.1.1.1.1.1.0)) (search (rules, g.1.0.1.1.1.1.1.1.1.1.1.1.1.1.1.1.1.0)), omega (arith, f.hist.0))

pub returns-in-Oracle : goal.returns-in-Oracle
returns-in-Oracle c = let a = c.args in let p = c.requires in let g = c.well_formed in on-oracle a.z a.s _ a.hist.now a.cand.now a.msg.now _ _ c.in-Oracle.is (λ y. c.plan_oracle.ensures a.hist.now a.cand.now y)

pub returns-in-Restart : goal.returns-in-Restart
returns-in-Restart c = let a = c.args in let p = c.requires in let g = c.well_formed in on-restart a.z a.s _ a.hist.now a.cand.now a.msg.now _ c.in-Restart.is (λ y. c.plan_restart.ensures a.hist.now a.cand.now y)

pub returns-in-Deliver : goal.returns-in-Deliver
returns-in-Deliver c = let a = c.args in let p = c.requires in let g = c.well_formed in on-deliver a.z a.s _ a.hist.now a.cand.now a.msg.now _ _ c.in-Deliver.is p c.decide_delivery.ensures

pub returns-in-Submit : goal.returns-in-Submit
returns-in-Submit c = let a = c.args in let p = c.requires in let g = c.well_formed in on-submit a.z a.s _ a.hist.now a.cand.now a.msg.now _ _ c.in-Submit.is (λ y. c.plan_submit.ensures a.cand.now y)

pub returns-in-Unknown : goal.returns-in-Unknown
returns-in-Unknown c = let a = c.args in let p = c.requires in let g = c.well_formed in on-unknown a.z a.s _ a.hist.now a.cand.now a.msg.now _ c.in-Unknown.is refl
