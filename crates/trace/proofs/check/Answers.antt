use Prim.Native.Nat.{◌≤◌, ◌<◌}
use mathlib.Core.Logic.{◌⊎◌, ⊎_elim}
use native.Mathlib.Omega.{arith}
use Rattle.trace.proofs.Walk.{check-few, check-many, check-part, check-long, check-room, check-judged}
use Rattle.trace.proofs.check.Goals as goal
use Rattle.trace.proofs.check.Goals.{then-recs-ne0-via-then-recs-ne0, then-recs-ne0-via-else-recs-ne0+then-count-gt1024, then-recs-ne0-via-else-recs-ne0+else-count-gt1024+then-space-count}

pub returns-then-not-contains : goal.returns-then-not-contains
returns-then-not-contains c =
    let h : (c.args.n < 3) ⊎ (7 < c.args.n) = grind arith in
    ⊎_elim (check-few _ _ _) (check-many _ _ _) h

pub returns-then-recs-ne0 : goal.returns-then-recs-ne0
returns-then-recs-ne0 c =
    let h : (3 ≤ c.args.n) × (c.args.n ≤ 7) = grind arith in
    elim c.then-recs-ne0.branch [
      | then-recs-ne0-via-then-recs-ne0 w ↦ check-part _ _ _ w.if-recs-ne0.true
      | then-recs-ne0-via-else-recs-ne0+then-count-gt1024 w ↦ check-long _ _ _ h.0 h.1 w.if-count-gt1024.true
      | then-recs-ne0-via-else-recs-ne0+else-count-gt1024+then-space-count w ↦ check-room _ _ _ w.if-space-count.true
    ]

pub returns : goal.returns
returns c =
    let h : (3 ≤ c.args.n) × (c.args.n ≤ 7) = grind arith in
    check-judged _ _ _ h.0 h.1 c.if-recs-ne0.false c.if-count-gt1024.false c.if-space-count.false c.judge.ensures
