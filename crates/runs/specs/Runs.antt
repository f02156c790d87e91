-- Many events: a run of events from lent words, and settling.
use Rattle.std.specs.Prelude.{ℕ, zero, suc, ◌+◌, ◌*◌, ◌/◌, ◌%◌, ◌≡◌, Bool, true, List, [], ◌∷◌, eqb, leb, ltb, length, get_or, Err}
use Rattle.base.specs.Choice.{pick, both}
use Rattle.base.specs.Refusals.{code_of, STATE}
use Rattle.base.specs.declared.Refusal.TheVariants.{State}
use Rattle.base.specs.declared.Sizes.{Sizes}
use Rattle.rules.specs.Cluster.{Cluster as Servers, Event, O, R, D, S, play, event, after, is_done}
use Rattle.ring.specs.declared.Rings.{Rings}
use Rattle.ring.specs.Queue.{count}
use Rattle.site.specs.Site.{Site, site_of, cluster_of, good_site, Good}
use Rattle.turn.specs.Events.{event_of}
use Rattle.site.specs.declared.Cluster.{Cluster}
use Rattle.runs.specs.declared.Ran.{Ran}

-- ---- a run: three words for each event, its kind (1 to 4 for O, R, D, S) and two numbers

-- an event of no known kind is one at no server
unfoldable pub named : Sizes → ℕ → ℕ → ℕ → Event
named z k a b = pick (eqb k 1) (O a b) (pick (eqb k 2) (R a) (pick (eqb k 3) (D a b) (pick (eqb k 4) (S a b) (R z.n))))

unfoldable pub event_at : Sizes → List ℕ → ℕ → Event
event_at z es j = named z (get_or es (3 * j) 0) (get_or es (3 * j + 1) 0) (get_or es (3 * j + 2) 0)

-- the first n of them, from event j on
unfoldable pub events_from : Sizes → List ℕ → ℕ → ℕ → List Event
events_from z es j zero = []
events_from z es j (suc n) = event_at z es j ∷ events_from z es (suc j) n

-- how many are run: all, or the budget
unfoldable pub within : ℕ → ℕ → ℕ
within budget n = pick (leb n budget) n budget

abbrev pub events_of : Sizes → List ℕ → ℕ → List Event
events_of z es budget = events_from z es 0 (within budget (length es / 3))

-- what is held after them
unfoldable pub played : Sizes → ℕ → Site → List Event → Site
played z depth w [] = w
played z depth w (e ∷ es) = played z depth (event_of z depth w e).site es

-- how many of them the rules take
unfoldable pub tally : Sizes → ℕ → Servers → List Event → ℕ
tally z depth c [] = 0
tally z depth c (e ∷ es) = pick (is_done (event z depth c e)) 1 0 + tally z depth (after (event z depth c e)) es

-- a run is refused if the cluster is not well formed or the words are no whole events
unfoldable pub good_run : Sizes → ℕ → Site → List ℕ → Bool
good_run z depth w es = both (good_site z depth w) (eqb (length es % 3) 0)

-- one event more than t met
pub record On (t : Ran) (e : Event) (h k q o : List ℕ) (r : Ran) (h' k' q' o' : List ℕ) : Type 0 where
  pub code : code_of r.answer ≡ 0
  pub met : r.met ≡ t.met + 1
  pub taken : r.taken ≡ t.taken + pick (is_done (event t.cluster.sizes t.cluster.depth (cluster_of t.cluster.sizes t.cluster.depth (site_of t.cluster h k q o)) e)) 1 0
  pub sizes : r.cluster.sizes ≡ t.cluster.sizes
  pub depth : r.cluster.depth ≡ t.cluster.depth
  pub site : site_of r.cluster h' k' q' o' ≡ (event_of t.cluster.sizes t.cluster.depth (site_of t.cluster h k q o) e).site
  pub rules : cluster_of t.cluster.sizes t.cluster.depth (site_of r.cluster h' k' q' o') ≡ after (event t.cluster.sizes t.cluster.depth (cluster_of t.cluster.sizes t.cluster.depth (site_of t.cluster h k q o)) e)
  pub good : Good t.cluster.sizes t.cluster.depth (site_of r.cluster h' k' q' o')

-- all of es, from a cluster that is well formed
pub record Does (c : Cluster) (es : List Event) (h k q o : List ℕ) (t : Ran) (h' k' q' o' : List ℕ) : Type 0 where
  pub code : code_of t.answer ≡ 0
  pub met : t.met ≡ length es
  pub taken : t.taken ≡ tally c.sizes c.depth (cluster_of c.sizes c.depth (site_of c h k q o)) es
  pub sizes : t.cluster.sizes ≡ c.sizes
  pub depth : t.cluster.depth ≡ c.depth
  pub site : site_of t.cluster h' k' q' o' ≡ played c.sizes c.depth (site_of c h k q o) es
  pub rules : cluster_of c.sizes c.depth (site_of t.cluster h' k' q' o') ≡ play c.sizes c.depth (cluster_of c.sizes c.depth (site_of c h k q o)) es
  pub good : Good c.sizes c.depth (site_of t.cluster h' k' q' o')

abbrev pub refused_of : Cluster → Ran
refused_of c = record { answer = Err State; met = 0; taken = 0; cluster = c }

-- many events es of what is well formed (ok), or STATE and every word as it was: how many there were, how many were taken,
-- the structs and every word afterwards; what the rules do; and it is well formed
pub record Runs (c : Cluster) (ok : Bool) (es : List Event) (h k q o : List ℕ) (t : Ran) (h' k' q' o' : List ℕ) : Type 0 where
  pub code : code_of t.answer ≡ pick ok 0 STATE
  pub met : t.met ≡ pick ok (length es) 0
  pub taken : t.taken ≡ pick ok (tally c.sizes c.depth (cluster_of c.sizes c.depth (site_of c h k q o)) es) 0
  pub sizes : t.cluster.sizes ≡ c.sizes
  pub depth : t.cluster.depth ≡ c.depth
  pub site : site_of t.cluster h' k' q' o' ≡ pick ok (played c.sizes c.depth (site_of c h k q o) es) (site_of c h k q o)
  pub rules : ok ≡ true → cluster_of c.sizes c.depth (site_of t.cluster h' k' q' o') ≡ play c.sizes c.depth (cluster_of c.sizes c.depth (site_of c h k q o)) es
  pub good : ok ≡ true → good_site c.sizes c.depth (site_of t.cluster h' k' q' o') ≡ true

-- ---- settling: the lowest channel in which a message waits, again and again

-- the channel numbered j
abbrev pub channel_at : Sizes → ℕ → Event
channel_at z j = D (j / z.n) (j % z.n)

-- the first channel from channel j on, of k more, in which a message waits; or the channel after the last
unfoldable pub lowest : Sizes → Servers → ℕ → ℕ → ℕ
lowest z c j zero = j
lowest z c j (suc k) = pick (leb 1 (length (c.chan (j / z.n) (j % z.n)))) j (lowest z c (suc j) k)

-- the same, of rings
unfoldable pub lowest_ring : Rings → ℕ → ℕ → ℕ
lowest_ring r j zero = j
lowest_ring r j (suc k) = pick (leb 1 (count r j)) j (lowest_ring r (suc j) k)

-- the deliveries that settling makes within a budget
unfoldable pub easings : Sizes → ℕ → ℕ → Servers → List Event
easings z depth zero c = []
easings z depth (suc b) c =
    let j = lowest z c 0 (z.n * z.n) in
    pick (ltb j (z.n * z.n)) (channel_at z j ∷ easings z depth b (after (event z depth c (channel_at z j)))) []
