-- The tests of a record's parts, over the numbers and the words that code holds.
use Rattle.std.specs.Prelude.{ℕ, ◌+◌, ◌*◌, ◌≤◌, Bool, not, List, eqb, leb, length}
use Rattle.base.specs.Choice.{both, either}
use Rattle.base.specs.Quorum.{Set}
use Rattle.base.specs.Transaction.{Hist}
use Rattle.base.specs.declared.Sizes.{Sizes}
use Rattle.rules.specs.declared.State.{State}
use Rattle.rules.specs.Server.{Dur, Vol, during, empty, good_sets, good_counts, good_largest, good_candidate}
use Rattle.rules.specs.Words.{has, num, server_of}

abbrev pub dur_of : ℕ → ℕ → ℕ → Hist → Dur
dur_of p a d h = record { p = p; a = a; d = d; hist = h }

-- a = p in F3, F4, L3, L4
unfoldable pub accepted : ℕ → ℕ → ℕ → Bool
accepted stage p a = either (not (either (during 3 4 stage) (during 7 8 stage))) (eqb a p)

-- p at least 1 in F2 to F4 and L2 to L4
unfoldable pub promised : ℕ → ℕ → Bool
promised stage p = either (not (either (during 2 4 stage) (during 6 8 stage))) (leb 1 p)

-- the oracle is another server
unfoldable pub another : ℕ → ℕ → ℕ → Bool
another n i orc = both (leb 1 orc) (both (leb orc n) (not (eqb orc (i + 1))))

-- a count is at most the length, and 0 where it does not live
unfoldable pub count_fits : ℕ → ℕ → Bool → Bool
count_fits c len lives = both (leb c len) (either lives (eqb c 0))

-- joined lives in L1 to L4, acked-epoch in L2, synced in L3 and L4
unfoldable pub sets_live : ℕ → Set → Set → Set → Bool
sets_live stage joined acked synced = both (either (during 5 8 stage) (empty joined)) (both (either (eqb stage 6) (empty acked)) (either (during 7 8 stage) (empty synced)))

abbrev pub vol_of : List Bool → List Bool → List Bool → ℕ → ℕ → Hist → List ℕ → Vol
vol_of joined acked synced largest a h counts = record { joined = has joined; acked = has acked; synced = has synced; largest = largest; cand_epoch = a; cand_hist = h; counts = num counts }

-- the volatile part
unfoldable pub good_vol : Sizes → State → List ℕ → List ℕ → Bool
good_vol z s h k =
    both (good_sets z s.me s.stage (server_of s h k).vol)
    (both (good_counts z s.stage (server_of s h k).dur (server_of s h k).vol)
    (both (good_largest s.stage (server_of s h k).dur (server_of s h k).vol)
    (good_candidate z s.stage (server_of s h k).dur (server_of s h k).vol)))

-- sizes and lent words within bounds
pub record Lent (z : Sizes) (s : State) (h k : List ℕ) : Type 0 where
  pub most : z.n ≤ 7
  pub len : s.len.0 ≤ z.room.0
  pub cand : s.cand_len.0 ≤ z.room.0
  pub hist : 2 * s.len.0 ≤ length h
  pub words : 2 * s.cand_len.0 ≤ length k
