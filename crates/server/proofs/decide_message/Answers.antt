use Rattle.server.proofs.Laws.{on-cepoch, on-newepoch, on-acke, on-newleader, on-ackld, on-commitld, on-propose, on-ack, on-commit, held-acke, held-newleader}
use Rattle.server.proofs.decide_message.Goals as goal

pub plan_acke-requires : goal.plan_acke-requires
plan_acke-requires c = (c.requires.0, (c.requires.1.0, (c.requires.1.1.0, (c.requires.1.1.1.0, (c.requires.1.1.1.1.0, held-acke _ _ _ _ _ c.in-Acke.is c.requires.1.1.1.1.1)))))

pub plan_newleader-requires : goal.plan_newleader-requires
plan_newleader-requires c = (c.requires.0, (c.requires.1.0, (c.requires.1.1.0, (c.requires.1.1.1.1.0, held-newleader _ _ _ _ c.in-Newleader.is c.requires.1.1.1.1.1))))

pub returns-in-Cepoch : goal.returns-in-Cepoch
returns-in-Cepoch c = let a = c.args in on-cepoch _ a.s _ a.from a.hist.now a.cand.now a.load.now _ _ c.in-Cepoch.is (c.plan_cepoch.ensures a.hist.now a.cand.now a.load.now)

pub returns-in-Newepoch : goal.returns-in-Newepoch
returns-in-Newepoch c = let a = c.args in on-newepoch _ a.s _ a.from a.hist.now a.cand.now a.load.now _ _ c.in-Newepoch.is (c.plan_newepoch.ensures a.hist.now a.cand.now a.load.now)

pub returns-in-Acke : goal.returns-in-Acke
returns-in-Acke c = let a = c.args in on-acke _ a.s _ a.from a.hist.now a.cand.now a.load.now _ _ _ _ c.in-Acke.is c.plan_acke.ensures

pub returns-in-Newleader : goal.returns-in-Newleader
returns-in-Newleader c = let a = c.args in on-newleader _ a.s _ a.from a.hist.now a.cand.now a.load.now _ _ _ c.in-Newleader.is (c.plan_newleader.ensures a.cand.now)

pub returns-in-Ackld : goal.returns-in-Ackld
returns-in-Ackld c = let a = c.args in on-ackld _ a.s _ a.from a.hist.now a.cand.now a.load.now _ _ _ c.in-Ackld.is (c.plan_ackld.ensures a.hist.now a.cand.now a.load.now)

pub returns-in-Commitld : goal.returns-in-Commitld
returns-in-Commitld c = let a = c.args in on-commitld _ a.s _ a.from a.hist.now a.cand.now a.load.now _ _ _ c.in-Commitld.is (c.plan_commitld.ensures a.hist.now a.cand.now a.load.now)

pub returns-in-Propose : goal.returns-in-Propose
returns-in-Propose c = let a = c.args in on-propose _ a.s _ a.from a.hist.now a.cand.now a.load.now _ _ _ _ c.in-Propose.is (c.plan_propose.ensures a.cand.now a.load.now)

pub returns-in-Ack : goal.returns-in-Ack
returns-in-Ack c = let a = c.args in on-ack _ a.s _ a.from a.hist.now a.cand.now a.load.now _ _ _ c.in-Ack.is (c.plan_ack.ensures a.hist.now a.cand.now a.load.now)

pub returns-in-Commit : goal.returns-in-Commit
returns-in-Commit c = let a = c.args in on-commit _ a.s _ a.from a.hist.now a.cand.now a.load.now _ _ _ c.in-Commit.is (c.plan_commit.ensures a.hist.now a.cand.now a.load.now)
