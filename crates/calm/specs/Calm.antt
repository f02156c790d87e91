-- The calm run: who is named, which deliveries are meant, and what they leave.
use Rattle.std.specs.Prelude.{ℕ, ◌+◌, ◌≤◌, ◌<◌, ◌≡◌, ◌≢◌, Bool, true, false, not, List, [], ◌∷◌, map, eqb, ltb, length}
use Rattle.base.specs.Choice.{pick, both, either}
use Rattle.base.specs.Quorum.{Set, nobody, quorum}
use Rattle.base.specs.Transaction.{Hist, ident, last_id, next_counter}
use Rattle.base.specs.declared.Txn.{Txn}
use Rattle.base.specs.declared.Sizes.{Sizes}
use Rattle.rules.specs.Server.{F4, L4, idle}
use Rattle.rules.specs.Cluster.{Cluster, Event, O, D, event, after, play, start, is_done}

-- the clusters that events lead to from fresh servers with nothing waiting
pub record Reached (z : Sizes) (depth : ℕ) (c : Cluster) : Type 0 where
  pub events : List Event
  pub played : c ≡ play z depth start events

-- all servers
abbrev pub below : ℕ → Set
below n s = ltb s n

-- some of the servers, x one of them, that are a quorum
pub record Crew (n x : ℕ) (q : Set) : Type 0 where
  pub inside : (s : ℕ) → q s ≡ true → s < n
  pub mine : q x ≡ true
  pub enough : quorum n q ≡ true

unfoldable pub among : ℕ → List ℕ → Bool
among i [] = false
among i (f ∷ fs) = either (eqb i f) (among i fs)

-- fs are those of q other than x: each of them, in any order, and repeats are allowed
abbrev pub Others : Set → ℕ → List ℕ → Type 0
Others q x fs = (i : ℕ) → among i fs ≡ both (q i) (not (eqb i x))

-- x is named first at itself and then at fs, in that order
unfoldable pub naming : ℕ → List ℕ → List Event
naming x fs = O x x ∷ map (λ f. O f x) fs

-- ---- events that are taken

-- is every one of them, in turn?
unfoldable pub all_done : Sizes → ℕ → Cluster → List Event → Bool
all_done z depth c [] = true
all_done z depth c (e ∷ es) = both (is_done (event z depth c e)) (all_done z depth (after (event z depth c e)) es)

module _ (z : Sizes) (depth : ℕ) (q : Set) where
  -- deliveries of waiting messages between servers of q, and no other event
  pub data Lively : Cluster → List Event → Type 0 where
    end : {c : Cluster} → Lively c []
    then : {c : Cluster} {f t : ℕ} {es : List Event} → q f ≡ true → q t ≡ true → c.chan f t ≢ []
        → Lively (after (event z depth c (D f t))) es → Lively c (D f t ∷ es)

-- a message waits between servers of q
pub record Waiting (q : Set) (c : Cluster) : Type 0 where
  pub from : ℕ
  pub to : ℕ
  pub from_in : q from ≡ true
  pub to_in : q to ≡ true
  pub busy : c.chan from to ≢ []

-- ---- what they leave

-- x is established, its history is everybody's of q and delivered there, and nothing waits between them
pub record Settled (q : Set) (x : ℕ) (c : Cluster) : Type 0 where
  pub leads : (c.srv x).stage ≡ L4
  pub follow : (i : ℕ) → q i ≡ true → i ≢ x → ((c.srv i).stage ≡ F4) × ((c.srv i).orc ≡ x + 1)
  pub silent : (a b : ℕ) → q a ≡ true → q b ≡ true → c.chan a b ≡ []
  pub hists : (i : ℕ) → q i ≡ true → (c.srv i).dur.hist ≡ (c.srv x).dur.hist
  pub whole : (i : ℕ) → q i ≡ true → (c.srv i).dur.d ≡ length (c.srv i).dur.hist
  pub epochs : (i : ℕ) → q i ≡ true → ((c.srv i).dur.p ≡ (c.srv x).dur.p) × ((c.srv i).dur.a ≡ (c.srv x).dur.p)

-- the count that an established leader has of each server when all of q hold k transactions
abbrev pub full : Set → ℕ → ℕ → ℕ → ℕ
full q x k i = pick (both (q i) (not (eqb i x))) k 0

-- the same, record by record: x leads epoch e, all of q hold h and have delivered it, and nothing waits for or from them
pub record Ready (q : Set) (x e : ℕ) (h : Hist) (c : Cluster) : Type 0 where
  pub leads : c.srv x ≡ record { dur = record { p = e; a = e; d = length h; hist = h }; stage = L4; orc = x + 1; vol = record { joined = q; acked = nobody; synced = q; largest = 0; cand_epoch = 0; cand_hist = []; counts = full q x (length h) } }
  pub rest : (i : ℕ) → q i ≡ true → i ≢ x → c.srv i ≡ record { dur = record { p = e; a = e; d = length h; hist = h }; stage = F4; orc = x + 1; vol = idle }
  pub empty : (a b : ℕ) → either (q a) (q b) ≡ true → c.chan a b ≡ []

-- servers outside q, and the channels between them, are what they were in c₀
pub record Apart (q : Set) (c₀ c : Cluster) : Type 0 where
  pub servers : (i : ℕ) → q i ≡ false → c.srv i ≡ c₀.srv i
  pub channels : (a b : ℕ) → q a ≡ false → q b ≡ false → c.chan a b ≡ c₀.chan a b

-- both
pub record Established (q : Set) (x e : ℕ) (h : Hist) (c : Cluster) : Type 0 where
  pub settled : Settled q x c
  pub ready : Ready q x e h c

-- the recovery's end, whichever history was chosen
abbrev pub Recovered : Set → ℕ → ℕ → Cluster → Type 0
Recovered q x e c = (h : Hist) × Established q x e h c

-- told of deliveries es from c, k of which end a round: none is refused, there are never more, there is no stop before, what they
-- leave, and that the rest of the cluster is as it was in c₀
pub record Round (z : Sizes) (depth : ℕ) (q : Set) (c₀ c : Cluster) (es : List Event) (k : ℕ) (End : Cluster → Type 0) : Type 0 where
  pub clean : all_done z depth c es ≡ true
  pub bound : length es ≤ k
  pub early : length es < k → Waiting q (play z depth c es)
  pub ends : length es ≡ k → End (play z depth c es)
  pub apart : Apart q c₀ (play z depth c es)

-- what a submission of v appends where the leader of epoch e has the history h: the next identifier of e, with v
abbrev pub submitted-entry : ℕ → ℕ → Hist → Txn
submitted-entry v e h = record { id = record { 0 = ident e (next_counter e (last_id h)) }; val = v }
