-- It moves: the calm run on structs and lent words, its whole answer, and what it promises.
use Rattle.std.specs.Prelude.{ℕ, zero, suc, ◌+◌, ◌-◌, ◌*◌, ◌≤◌, ◌<◌, ◌≡◌, ◌≢◌, true, List, [], ◌∷◌, ◌++◌, ltb, length}
use Rattle.base.specs.Choice.{pick}
use Rattle.base.specs.Refusals.{code_of, STATE}
use Rattle.base.specs.Transaction.{LAST, ident, last_id}
use Rattle.base.specs.declared.Sizes.{Sizes}
use Rattle.rules.specs.Cluster.{Cluster as Servers, Event, S, start, event, after, play}
use Rattle.calm.specs.Calm.{below, naming, Recovered, Established, submitted-entry}
use Rattle.site.specs.Site.{Site, cluster_of, good_site}
use Rattle.turn.specs.Events.{After, event_of}
use Rattle.runs.specs.Runs.{played, tally, easings}
use Rattle.pledge.specs.declared.Calmed.{Calmed}

-- ---- who is named

-- of the servers other than x, in rising number, the one of number j
unfoldable pub other_at : ℕ → ℕ → ℕ
other_at x j = pick (ltb j x) j (j + 1)

-- m of them from number j on
unfoldable pub others_from : ℕ → ℕ → ℕ → List ℕ
others_from x j zero = []
others_from x j (suc m) = other_at x j ∷ others_from x (suc j) m

-- x is named at itself and then at all others
abbrev pub names : Sizes → ℕ → List Event
names z x = naming x (others_from x 0 (z.n - 1))

-- the words of these events, for seven servers
abbrev pub name_words : ℕ → List ℕ
name_words x =
    1 ∷ x ∷ x
    ∷ 1 ∷ other_at x 0 ∷ x
    ∷ 1 ∷ other_at x 1 ∷ x
    ∷ 1 ∷ other_at x 2 ∷ x
    ∷ 1 ∷ other_at x 3 ∷ x
    ∷ 1 ∷ other_at x 4 ∷ x
    ∷ 1 ∷ other_at x 5 ∷ x ∷ []

-- ---- what is held on the way, from w on

-- the deliveries of settling, up to 64, which is more than any calm run has
abbrev pub settling : Sizes → ℕ → Site → List Event
settling z depth w = easings z depth 64 (cluster_of z depth w)

-- x is named everywhere
unfoldable pub renamed : Sizes → ℕ → Site → ℕ → Site
renamed z depth w x = played z depth w (names z x)

-- and the cluster has settled
unfoldable pub regained : Sizes → ℕ → Site → ℕ → Site
regained z depth w x = played z depth (renamed z depth w x) (settling z depth (renamed z depth w x))

-- then v is submitted at x
unfoldable pub submission : Sizes → ℕ → Site → ℕ → ℕ → After
submission z depth w x v = event_of z depth (regained z depth w x) (S x v)

-- and it has settled again
unfoldable pub finished : Sizes → ℕ → Site → ℕ → ℕ → Site
finished z depth w x v = played z depth (submission z depth w x v).site (settling z depth (submission z depth w x v).site)

-- ---- the same of the rules, from c on

-- the deliveries of settling
abbrev pub settles : Sizes → ℕ → Servers → List Event
settles z depth c = easings z depth 64 c

-- x is named everywhere
abbrev pub turned : Sizes → ℕ → ℕ → Servers → Servers
turned z depth x c = play z depth c (names z x)

-- and the cluster has settled
abbrev pub rested : Sizes → ℕ → ℕ → Servers → Servers
rested z depth x c = play z depth (turned z depth x c) (settles z depth (turned z depth x c))

-- then v is submitted at x
abbrev pub begun : Sizes → ℕ → ℕ → ℕ → Servers → Servers
begun z depth x v c = after (event z depth (rested z depth x c) (S x v))

-- and it has settled again
abbrev pub ended : Sizes → ℕ → ℕ → ℕ → Servers → Servers
ended z depth x v c = play z depth (begun z depth x v c) (settles z depth (begun z depth x v c))

-- ---- what it promises

-- x is a server whose promise is below no other's and below the last epoch
pub record Leads (z : Sizes) (x : ℕ) (c : Servers) : Type 0 where
  pub inside : x < z.n
  pub top : (i : ℕ) → i < z.n → (c.srv i).dur.p ≤ (c.srv x).dur.p
  pub low : (c.srv x).dur.p < LAST

-- x's history has room, and its epoch another identifier
pub record Roomy (z : Sizes) (x : ℕ) (c : Servers) : Type 0 where
  pub room : length (c.srv x).dur.hist < z.room.0
  pub next : last_id (c.srv x).dur.hist ≢ ident (c.srv x).dur.p LAST

-- IT MOVES, from c to c₂ and then to c₄: all are named, 6 (n - 1) deliveries establish x everywhere, and where it has room
-- v is submitted and 3 (n - 1) more deliver it everywhere; every delivery is taken, and nothing waits at either end
pub record Moves (z : Sizes) (x v : ℕ) (c c₂ c₄ : Servers) (t : Calmed) : Type 0 where
  pub named : t.named ≡ z.n
  pub first : t.first ≡ 6 * (z.n - 1)
  pub recovered : Recovered (below z.n) x ((c.srv x).dur.p + 1) c₂
  pub submitted : Roomy z x c₂ → code_of t.answer ≡ 0
  pub second : Roomy z x c₂ → t.second ≡ 3 * (z.n - 1)
  pub delivered : Roomy z x c₂
      → Established (below z.n) x (c₂.srv x).dur.p ((c₂.srv x).dur.hist ++ (submitted-entry v (c₂.srv x).dur.p (c₂.srv x).dur.hist ∷ [])) c₄

-- the calm run from w, which leaves w': the whole answer, where STATE leaves every word as it was; what is left is well formed
-- and stands for what the rules do; and it moves, from whatever a run of events from fresh servers leads to
pub record Calms (z : Sizes) (depth : ℕ) (w : Site) (x v : ℕ) (t : Calmed) (w' : Site) : Type 0 where
  pub code : code_of t.answer ≡ pick (good_site z depth w) (submission z depth w x v).code STATE
  pub named : t.named ≡ pick (good_site z depth w) (tally z depth (cluster_of z depth w) (names z x)) 0
  pub first : t.first ≡ pick (good_site z depth w) (tally z depth (cluster_of z depth (renamed z depth w x)) (settling z depth (renamed z depth w x))) 0
  pub second : t.second ≡ pick (good_site z depth w) (tally z depth (cluster_of z depth (submission z depth w x v).site) (settling z depth (submission z depth w x v).site)) 0
  pub sizes : t.cluster.sizes ≡ z
  pub deep : t.cluster.depth ≡ depth
  pub site : w' ≡ pick (good_site z depth w) (finished z depth w x v) w
  pub good : good_site z depth w ≡ true → good_site z depth w' ≡ true
  pub halfway : good_site z depth w ≡ true → cluster_of z depth (regained z depth w x) ≡ rested z depth x (cluster_of z depth w)
  pub rules : good_site z depth w ≡ true → cluster_of z depth w' ≡ ended z depth x v (cluster_of z depth w)
  pub moves : good_site z depth w ≡ true → (before : List Event) → cluster_of z depth w ≡ play z depth start before → Leads z x (cluster_of z depth w)
      → Moves z x v (cluster_of z depth w) (cluster_of z depth (regained z depth w x)) (cluster_of z depth w') t

-- the calm run of fresh servers: no refusal, all are named, and both numbers of deliveries
pub record Counted (z : Sizes) (t : Calmed) : Type 0 where
  pub code : code_of t.answer ≡ 0
  pub named : t.named ≡ z.n
  pub first : t.first ≡ 6 * (z.n - 1)
  pub second : t.second ≡ 3 * (z.n - 1)
