-- Records after a leader's steps.
use Rattle.std.specs.Prelude.{ℕ, true, false, set}
use Rattle.base.specs.declared.Epoch.{Epoch}
use Rattle.base.specs.declared.Place.{Place}
use Rattle.rules.specs.declared.State.{State}
use Rattle.plan.specs.Plans.{ep, pl, nowhere}

-- L2 begins in epoch p
abbrev pub elected_of : State → ℕ → State
elected_of s p = record { me = s.me; stage = 6; oracle = s.oracle; p = ep p; a = s.a; d = s.d; len = s.len; largest = ep 0; cand_a = s.a; cand_len = s.len; joined = s.joined; acked = set nowhere s.me true; synced = s.synced; counts = s.counts }

-- f has joined, and m is the largest epoch seen
abbrev pub joined_of : State → ℕ → Epoch → State
joined_of s f m = record { me = s.me; stage = s.stage; oracle = s.oracle; p = s.p; a = s.a; d = s.d; len = s.len; largest = m; cand_a = s.cand_a; cand_len = s.cand_len; joined = set s.joined f true; acked = s.acked; synced = s.synced; counts = s.counts }

-- f has joined again
abbrev pub rejoined_of : State → ℕ → State
rejoined_of s f = record { me = s.me; stage = s.stage; oracle = s.oracle; p = s.p; a = s.a; d = s.d; len = s.len; largest = s.largest; cand_a = s.cand_a; cand_len = s.cand_len; joined = set s.joined f true; acked = s.acked; synced = set s.synced f false; counts = s.counts }

-- f is counted, and the candidate is (a, n transactions)
abbrev pub counted_of : State → ℕ → Epoch → Place → State
counted_of s f a n = record { me = s.me; stage = s.stage; oracle = s.oracle; p = s.p; a = s.a; d = s.d; len = s.len; largest = s.largest; cand_a = a; cand_len = n; joined = s.joined; acked = set s.acked f true; synced = s.synced; counts = s.counts }

-- L3 begins with the candidate for its history
abbrev pub chosen_of : State → State
chosen_of s = record { me = s.me; stage = 7; oracle = s.oracle; p = s.p; a = s.p; d = s.d; len = s.cand_len; largest = s.largest; cand_a = ep 0; cand_len = pl 0; joined = s.joined; acked = nowhere; synced = set nowhere s.me true; counts = s.counts }
