-- The record with its volatile state cleared.
use Rattle.std.specs.Prelude.{ℕ, replicate}
use Rattle.rules.specs.declared.State.{State}
use Rattle.plan.specs.Plans.{ep, pl, nowhere}

abbrev pub cleared_of : State → ℕ → ℕ → State
cleared_of s stage oracle = record {
  me = s.me;
  stage = stage;
  oracle = oracle;
  p = s.p;
  a = s.a;
  d = s.d;
  len = s.len;
  largest = ep 0;
  cand_a = ep 0;
  cand_len = pl 0;
  joined = nowhere;
  acked = nowhere;
  synced = nowhere;
  counts = replicate 7 0;
}
