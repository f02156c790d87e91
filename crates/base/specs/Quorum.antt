-- Sets of servers are tests; a quorum is a set with 2 × size > n.
use Rattle.std.specs.Prelude.{ℕ, zero, suc, ◌+◌, ◌*◌, Bool, true, false, ltb}
use Rattle.base.specs.Choice.{pick, upd}

abbrev pub Set : Type 0
Set = ℕ → Bool

abbrev pub nobody : Set
nobody s = false

unfoldable pub just : ℕ → Set
just i = upd nobody i true

-- the weight of those servers below n that are in q
unfoldable pub weight : (ℕ → ℕ) → Set → ℕ → ℕ
weight w q zero = 0
weight w q (suc n) = weight w q n + pick (q n) (w n) 0

-- how many of the servers below n are in q: each weighs one
abbrev pub size : Set → ℕ → ℕ
size q n = weight (λ _. 1) q n

unfoldable pub quorum : ℕ → Set → Bool
quorum n q = ltb n (2 * size q n)
