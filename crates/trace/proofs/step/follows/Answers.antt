use mathlib.Core.Path.{sym, ◌∙◌}
use borrow.Author.Tests.{eqb-true, eqb-false}
use Rattle.trace.specs.Words.{kind_of}
use Rattle.trace.specs.declared.words.Kind.TheVariants.{E}
use Rattle.trace.proofs.Kind.{read-eq}
use Rattle.trace.proofs.Leaf.{latest-within}
use Rattle.trace.proofs.Laws.{follows-none, follows-other, follows-e, follows-b}
use Rattle.trace.proofs.step.follows.Goals as goal

pub returns-in_default : goal.returns-in_default
returns-in_default c = λ k1 k2. follows-none c.args.r.recs.now c.args.r.i k1 k2 (rw c.in_default.is at c.requires.1)

pub at-b-requires : goal.at-b-requires
at-b-requires c = latest-within c.args.r.recs.now _ c.args.r.i c.in-Some.j (rw c.in-Some.is at c.requires.1) c.args.r.here

pub returns-then-server : goal.returns-then-server
returns-then-server c = λ k1 k2. follows-other c.args.r.recs.now c.args.r.i k1 k2 (rw c.in-Some.is at c.requires.1) (rw (c.at-b.ensures.0, c.at-b.ensures.1) at c.server.ensures) c.server-2.ensures c.if-server.true

pub returns-then-eq : goal.returns-then-eq
returns-then-eq c = λ k1 k2. follows-e c.args.r.recs.now c.args.r.i k1 k2 (rw c.in-Some.is at c.requires.1) (rw (c.at-b.ensures.0, c.at-b.ensures.1) at c.server.ensures) c.server-2.ensures c.if-server.false c.counter-c.ensures c.requires.0
    (eqb-true (kind_of c.args.r.recs.now c.in-Some.j) 1 (sym (read-eq c.kind.result E _ (rw (c.at-b.ensures.0, c.at-b.ensures.1) at c.kind.ensures)) ∙ sym c.eq.ensures ∙ c.if-eq.true))

pub returns : goal.returns
returns c = λ k1 k2. follows-b c.args.r.recs.now c.args.r.i k1 k2 (rw c.in-Some.is at c.requires.1) (rw (c.at-b.ensures.0, c.at-b.ensures.1) at c.server.ensures) c.server-2.ensures c.if-server.false c.counter-c.ensures c.requires.0
    (eqb-false (kind_of c.args.r.recs.now c.in-Some.j) 1 (sym (read-eq c.kind.result E _ (rw (c.at-b.ensures.0, c.at-b.ensures.1) at c.kind.ensures)) ∙ sym c.eq.ensures ∙ c.if-eq.false)) (rw (c.at-b.ensures.0, c.at-b.ensures.1) at c.counter.ensures)
