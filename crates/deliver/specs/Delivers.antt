-- The records and the plans of a leader that counts acknowledgements.
use Rattle.std.specs.Prelude.{ℕ, ◌-◌, max, Bool, true, false, List, ltb, set}
use Rattle.base.specs.Choice.{pick}
use Rattle.rules.specs.declared.State.{State}
use Rattle.rules.specs.Step.{advance}
use Rattle.rules.specs.Words.{num}
use Rattle.plan.specs.declared.Cast.{Cast}
use Rattle.plan.specs.declared.Plan.{Plan}
use Rattle.plan.specs.Plans.{pl, no_txn, no_cast, all_cast, solo_cast, plan_of}

-- the count of f raised to c
abbrev pub raised_of : State → ℕ → ℕ → State
raised_of s f c = record {
  me = s.me;
  stage = s.stage;
  oracle = s.oracle;
  p = s.p;
  a = s.a;
  d = s.d;
  len = s.len;
  largest = s.largest;
  cand_a = s.cand_a;
  cand_len = s.cand_len;
  joined = s.joined;
  acked = s.acked;
  synced = s.synced;
  counts = set s.counts f (max (num s.counts f) c);
}

-- and f synced
abbrev pub synced_of : State → ℕ → ℕ → State
synced_of s f c = record {
  me = s.me;
  stage = s.stage;
  oracle = s.oracle;
  p = s.p;
  a = s.a;
  d = s.d;
  len = s.len;
  largest = s.largest;
  cand_a = s.cand_a;
  cand_len = s.cand_len;
  joined = s.joined;
  acked = s.acked;
  synced = set s.synced f true;
  counts = set s.counts f (max (num s.counts f) c);
}

-- d delivered, in a stage
abbrev pub delivered_of : State → ℕ → ℕ → State
delivered_of t stage d = record {
  me = t.me;
  stage = stage;
  oracle = t.oracle;
  p = t.p;
  a = t.a;
  d = pl d;
  len = t.len;
  largest = t.largest;
  cand_a = t.cand_a;
  cand_len = t.cand_len;
  joined = t.joined;
  acked = t.acked;
  synced = t.synced;
  counts = t.counts;
}

-- how far the leader advances
abbrev pub reach : ℕ → State → ℕ
reach n t = advance n t.me (num t.counts) t.d.0 (t.len.0 - t.d.0)

-- COMMIT to a set, if d rose
unfoldable pub commits_of : List Bool → ℕ → ℕ → ℕ → Cast
commits_of to old p d = pick (ltb old d) (all_cast to 9 p d) no_cast

abbrev pub committed_of : ℕ → State → List Bool → Plan
committed_of n t to = plan_of false (delivered_of t 8 (reach n t)) 0 0 no_txn (commits_of to t.d.0 t.p.0 (reach n t)) no_cast

-- COMMIT to those synced but f, then COMMIT-LD to f
abbrev pub welcomed_of : ℕ → State → ℕ → ℕ → Plan
welcomed_of n s f c =
    let t = synced_of s f c in
    plan_of false (delivered_of t 8 (reach n t)) 0 0 no_txn (commits_of (set s.synced f false) s.d.0 s.p.0 (reach n t)) (solo_cast f 6 s.p.0 (reach n t))
