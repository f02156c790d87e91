use Prim.Native.Nat.{◌≤◌}
use mathlib.Core.Path.{◌≡◌, sym, ◌∙◌}
use mathlib.Core.Bool.{true, false}
use native.Mathlib.Omega.{arith}
use lib.Dec.{eqb}
use borrow.Author.Rules.{rules}
use Rattle.base.proofs.Choice.{decide}
use Rattle.base.specs.Choice.{both, either}
use Rattle.trace.specs.Words.{kind_of}
use Rattle.trace.specs.declared.words.Kind.TheVariants.{E}
use Rattle.trace.proofs.Kind.{kind-eq}
use Rattle.trace.proofs.Records.{sound-x, sound-none, sound-as}
use Rattle.trace.proofs.sound.Goals as goal
use Rattle.trace.proofs.sound.Goals.{then-server-from, else-server-from}

pub returns-in-None : goal.returns-in-None
returns-in-None c = sound-none c.args.n c.args.r.recs.now c.args.r.i c.in-None.ensures

pub returns-in-Some-X : goal.returns-in-Some-X
returns-in-Some-X c = sound-x c.args.n c.args.r.recs.now c.args.r.i (rw c.in-Some-X.field-0-is at c.in-Some-X.ensures)

pub returns-then-eq : goal.returns-then-eq
unfolding both either
returns-then-eq c =
    let low : 1 ≤ kind_of c.args.r.recs.now c.args.r.i = grind arith in
    let high : kind_of c.args.r.recs.now c.args.r.i ≤ 3 = grind arith in
    let e : eqb (kind_of c.args.r.recs.now c.args.r.i) 1 ≡ true = sym (kind-eq c.in-Some.k E _ c.in-Some.ensures) ∙ sym c.eq.ensures ∙ c.if-eq.true in
    rw (sound-as c.args.n c.args.r.recs.now c.args.r.i low high, e)
    (elim c.if-server-from.branch [ then-server-from w ↦ search (decide, rules) | else-server-from w ↦ search (decide, rules) ])

pub returns-else-eq : goal.returns-else-eq
unfolding both either
returns-else-eq c =
    let low : 1 ≤ kind_of c.args.r.recs.now c.args.r.i = grind arith in
    let high : kind_of c.args.r.recs.now c.args.r.i ≤ 3 = grind arith in
    let e : eqb (kind_of c.args.r.recs.now c.args.r.i) 1 ≡ false = sym (kind-eq c.in-Some.k E _ c.in-Some.ensures) ∙ sym c.eq.ensures ∙ c.if-eq.false in
    rw (sound-as c.args.n c.args.r.recs.now c.args.r.i low high, e)
    (elim c.if-server-from.branch [ then-server-from w ↦ search (decide, rules) | else-server-from w ↦ search (decide, rules) ])

pub returns-else-epoch-ne0 : goal.returns-else-epoch-ne0
unfolding both either
returns-else-epoch-ne0 c =
    let low : 1 ≤ kind_of c.args.r.recs.now c.args.r.i = grind arith in
    let high : kind_of c.args.r.recs.now c.args.r.i ≤ 3 = grind arith in
    rw (sound-as c.args.n c.args.r.recs.now c.args.r.i low high)
    (elim c.if-server-from.branch [ then-server-from w ↦ search (decide, rules) | else-server-from w ↦ search (decide, rules) ])
