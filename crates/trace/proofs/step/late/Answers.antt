use Prim.Native.Nat.{ℕ}
use mathlib.Core.Path.{sym, ap, ◌∙◌}
use mathlib.Core.List.{List, map}
use lib.Seq.{take-length}
use Rattle.trace.specs.Fold.{mem}
use Rattle.trace.specs.Words.{entry_at}
use Rattle.trace.proofs.Records.{late-rises, late-none, late-six, late-had, late-new}
use Rattle.trace.proofs.step.late.Goals as goal
use Rattle.trace.proofs.step.late.Goals.{then-top-e-via-then-top-e, then-top-e-via-else-top-e+then-among}

pub returns-then-e-top : goal.returns-then-e-top
returns-then-e-top c = late-rises _ _ _ _ _ c.rises.ensures c.epoch-e.ensures c.if-rises.true c.if-e-top.true

pub returns-else-e-top : goal.returns-else-e-top
returns-else-e-top c = late-none _ _ _ _ _ c.rises.ensures c.epoch-e.ensures c.if-rises.true c.if-e-top.false

pub returns-then-top-e : goal.returns-then-top-e
returns-then-top-e c = elim c.then-top-e.branch [ then-top-e-via-then-top-e w ↦ late-six _ _ _ _ _ c.rises.ensures c.epoch-e.ensures c.if-rises.false w.if-top-e.true | then-top-e-via-else-top-e+then-among w ↦ late-had _ _ _ _ _ c.rises.ensures c.epoch-e.ensures c.if-rises.false w.if-top-e.false (w.among.ensures ∙ ap (λ (l : List ℕ). mem (entry_at c.args.r.recs.now c.args.r.i) (map (entry_at c.args.r.recs.now) l)) (sym (take-length c.args.marks.now))) w.if-among.true ]

pub returns : goal.returns
returns c = late-new _ _ _ _ _ c.rises.ensures c.epoch-e.ensures c.if-rises.false c.if-top-e.false (c.among.ensures ∙ ap (λ (l : List ℕ). mem (entry_at c.args.r.recs.now c.args.r.i) (map (entry_at c.args.r.recs.now) l)) (sym (take-length c.args.marks.now))) c.if-among.false
