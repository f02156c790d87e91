use mathlib.Core.Path.{◌∙◌}
use Rattle.trace.proofs.Leaf.{lacks-front}
use native.Mathlib.Omega.{arith}
use borrow.Author.Tests.{not-true, not-false}
use Rattle.trace.proofs.Laws.{b-two, b-five, b-on}
use Rattle.trace.proofs.step.at_b.Goals as goal

pub returns-then-not-follows : goal.returns-then-not-follows
returns-then-not-follows c = λ n H g. b-two _ _ _ _ _ H g c.requires.1 c.follows.ensures (not-true c.follows.result c.if-not-follows.true-raw)

pub returns-then-lacks : goal.returns-then-lacks
returns-then-lacks c = λ n H g. b-five _ _ _ _ _ H g c.requires.1 c.follows.ensures (not-false c.follows.result c.if-not-follows.false-raw) c.server-x.ensures (omega (arith, c.server-x.ensures, c.requires.0.who (λ z. omega (arith, c.requires.1)))) (c.lacks.ensures ∙ lacks-front c.args.r.recs.now c.args.space.now c.args.r.i c.args.s.len (omega (arith, c.requires.0.room, c.requires.0.len)) _) c.if-lacks.true

pub returns : goal.returns
returns c = λ n H g. b-on _ _ _ _ _ H g c.requires.1 c.follows.ensures (not-false c.follows.result c.if-not-follows.false-raw) c.server-x.ensures (omega (arith, c.server-x.ensures, c.requires.0.who (λ z. omega (arith, c.requires.1)))) (c.lacks.ensures ∙ lacks-front c.args.r.recs.now c.args.space.now c.args.r.i c.args.s.len (omega (arith, c.requires.0.room, c.requires.0.len)) _) c.if-lacks.false c.epoch.ensures c.max.ensures
