-- The record of a server, a fresh one, and what is well formed.
use Rattle.std.specs.Prelude.{ℕ, ◌+◌, Bool, not, [], eqb, leb, ltb, length}
use Rattle.base.specs.Choice.{both, either, all_below}
use Rattle.base.specs.Quorum.{Set, nobody}
use Rattle.base.specs.Transaction.{Hist, small, good_hist}
use Rattle.base.specs.declared.Sizes.{Sizes}

-- durable: promise, accepted epoch, delivered count, history
pub record Dur : Type 0 where
  pub p : ℕ
  pub a : ℕ
  pub d : ℕ
  pub hist : Hist

-- volatile, beside stage and oracle: the sets joined, acked-epoch and synced, the largest epoch seen,
-- a candidate (epoch and history), a count of acknowledged transactions for each server
pub record Vol : Type 0 where
  pub joined : Set
  pub acked : Set
  pub synced : Set
  pub largest : ℕ
  pub cand_epoch : ℕ
  pub cand_hist : Hist
  pub counts : ℕ → ℕ

-- no oracle is 0, oracle x is x + 1
pub record Server : Type 0 where
  pub dur : Dur
  pub stage : ℕ
  pub orc : ℕ
  pub vol : Vol

abbrev pub LOOK : ℕ
LOOK = 0

abbrev pub F1 : ℕ
F1 = 1

abbrev pub F2 : ℕ
F2 = 2

abbrev pub F3 : ℕ
F3 = 3

abbrev pub F4 : ℕ
F4 = 4

abbrev pub L1 : ℕ
L1 = 5

abbrev pub L2 : ℕ
L2 = 6

abbrev pub L3 : ℕ
L3 = 7

abbrev pub L4 : ℕ
L4 = 8

abbrev pub nil : ℕ → ℕ
nil s = 0

-- volatile state, cleared
abbrev pub idle : Vol
idle = record { joined = nobody; acked = nobody; synced = nobody; largest = 0; cand_epoch = 0; cand_hist = []; counts = nil }

-- LOOK with all else zero
abbrev pub fresh : Server
fresh = record { dur = record { p = 0; a = 0; d = 0; hist = [] }; stage = LOOK; orc = 0; vol = idle }

-- ---- well formed, clause by clause; sets and counts are looked at for each of seven servers

abbrev pub SEVEN : ℕ
SEVEN = 7

-- servers 3 to 7, room 1 to 64
unfoldable pub good_sizes : Sizes → Bool
good_sizes z = both (leb 3 z.n) (both (leb z.n SEVEN) (both (leb 1 z.room.0) (leb z.room.0 64)))

-- is the stage one of lo to hi?
unfoldable pub during : ℕ → ℕ → ℕ → Bool
during lo hi stage = both (leb lo stage) (leb stage hi)

unfoldable pub empty : Set → Bool
empty q = all_below SEVEN (λ s. not (q s))

-- every member of q is in r
unfoldable pub inside : Set → Set → Bool
inside q r = all_below SEVEN (λ s. either (not (q s)) (r s))

-- a ≤ p; d ≤ length ≤ H; the history rules; epochs have 32 bits
unfoldable pub good_dur : Sizes → Dur → Bool
good_dur z u = both (small u.p) (both (leb u.a u.p) (both (leb u.d (length u.hist)) (good_hist z.room.0 u.a u.hist)))

-- a = p in F3, F4, L3, L4; p at least 1 in F2 to F4 and L2 to L4
unfoldable pub good_epochs : ℕ → Dur → Bool
good_epochs stage u =
    both (either (not (either (during F3 F4 stage) (during L3 L4 stage))) (eqb u.a u.p))
    (either (not (either (during F2 F4 stage) (during L2 L4 stage))) (leb 1 u.p))

-- a follower's oracle is another server, a leader's is itself, LOOK has none
unfoldable pub good_oracle : Sizes → ℕ → ℕ → ℕ → Bool
good_oracle z i stage orc =
    both (leb stage L4)
    (both (either (not (eqb stage LOOK)) (eqb orc 0))
    (both (either (not (during F1 F4 stage)) (both (leb 1 orc) (both (leb orc z.n) (not (eqb orc (i + 1))))))
    (either (not (during L1 L4 stage)) (eqb orc (i + 1)))))

-- sets lie inside the servers; a leader's joined holds itself and contains its other sets;
-- joined lives in L1 to L4, acked-epoch in L2, synced in L3 and L4
unfoldable pub good_sets : Sizes → ℕ → ℕ → Vol → Bool
good_sets z i stage v =
    both (inside v.joined (λ s. ltb s z.n))
    (both (either (not (during L1 L4 stage)) (v.joined i))
    (both (inside v.acked v.joined)
    (both (inside v.synced v.joined)
    (both (either (during L1 L4 stage) (empty v.joined))
    (both (either (eqb stage L2) (empty v.acked))
    (either (during L3 L4 stage) (empty v.synced)))))))

-- counts ≤ length, and 0 for servers not below n; they live in L3 and L4
unfoldable pub good_counts : Sizes → ℕ → Dur → Vol → Bool
good_counts z stage u v =
    all_below SEVEN (λ s. both (leb (v.counts s) (length u.hist)) (either (both (ltb s z.n) (during L3 L4 stage)) (eqb (v.counts s) 0)))

-- largest seen ≥ p in L1; it lives there
unfoldable pub good_largest : ℕ → Dur → Vol → Bool
good_largest stage u v = both (small v.largest) (both (either (not (eqb stage L1)) (leb u.p v.largest)) (either (eqb stage L1) (eqb v.largest 0)))

-- the candidate in L2 keeps the history rules for its own epoch, which is below p; it lives there
unfoldable pub good_candidate : Sizes → ℕ → Dur → Vol → Bool
good_candidate z stage u v =
    both (either (not (eqb stage L2)) (ltb v.cand_epoch u.p))
    (both (good_hist z.room.0 v.cand_epoch v.cand_hist)
    (either (eqb stage L2) (both (eqb v.cand_epoch 0) (eqb (length v.cand_hist) 0))))

-- the record of server i
unfoldable pub well_formed : Sizes → ℕ → Server → Bool
well_formed z i s =
    both (ltb i z.n)
    (both (good_dur z s.dur)
    (both (good_epochs s.stage s.dur)
    (both (good_oracle z i s.stage s.orc)
    (both (good_sets z i s.stage s.vol)
    (both (good_counts z s.stage s.dur s.vol)
    (both (good_largest s.stage s.dur s.vol)
    (good_candidate z s.stage s.dur s.vol)))))))
