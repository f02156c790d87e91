-- One ledger: what a run of events leaves in structs and lent words, and what it promises of them.
use Rattle.std.specs.Prelude.{ℕ, ◌%◌, ◌≤◌, ◌<◌, ◌≡◌, ◌⊎◌, Bool, true, List, eqb, length, get_or, take}
use Rattle.base.specs.Choice.{pick, both}
use Rattle.base.specs.Refusals.{code_of, STATE}
use Rattle.base.specs.Transaction.{Hist, none, Begins}
use Rattle.base.specs.Record.{entry}
use Rattle.base.specs.declared.Sizes.{Sizes}
use Rattle.rules.specs.Cluster.{Event, start, play, trace}
use Rattle.rules.specs.Words.{txns, zeros}
use Rattle.ledger.specs.Delivered.{delivered_of}
use Rattle.ledger.specs.Records.{count, is_e, Submitted}
use Rattle.site.specs.Parts.{part}
use Rattle.site.specs.Site.{Site, site_of, record_at, cluster_of, good_site}
use Rattle.cluster.specs.Any.{good_fresh, fresh_of}
use Rattle.runs.specs.Runs.{events_of, played, tally}
use Rattle.site.specs.declared.Cluster.{Cluster}
use Rattle.runs.specs.declared.Ran.{Ran}

-- x begins y
-- what server i has delivered: the first d transactions of its words
abbrev pub delivered_at : Sizes → Cluster → List ℕ → ℕ → Hist
delivered_at z c h i = take (record_at c.servers i).d.0 (txns (record_at c.servers i).len.0 (part z i h))

-- ONE LEDGER, of servers c with the histories h, after the events es from fresh servers
pub record OneLedger (z : Sizes) (depth : ℕ) (es : List Event) (c : Cluster) (h : List ℕ) : Type 0 where
  -- of what two servers have delivered, one begins the other
  pub agreement : (i j : ℕ) → i < z.n → j < z.n → Begins (delivered_at z c h i) (delivered_at z c h j) ⊎ Begins (delivered_at z c h j) (delivered_at z c h i)
  -- what a server had delivered after the first k events begins what it has delivered now
  pub kept : (k i : ℕ) → i < z.n → Begins (delivered_of ((play z depth start (take k es)).srv i)) (delivered_at z c h i)
  -- what is delivered was submitted, once, by the leader of its epoch
  pub submitted : (i k : ℕ) → i < z.n → k < length (delivered_at z c h i) → Submitted (trace z depth start 1 es) (entry (get_or (delivered_at z c h i) k none))
  -- an epoch is established at most once
  pub leader : (e : ℕ) → count (is_e e) (trace z depth start 1 es) ≤ 1

-- are sizes and lent words those of a cluster, and es whole events?
unfoldable pub fits : Sizes → ℕ → List ℕ → List ℕ → List ℕ → List ℕ → List ℕ → Bool
fits z depth es h k q o = both (good_fresh z depth h k q o) (eqb (length es % 3) 0)

-- fresh servers with every word zero but the outbox's; where the words do not fit they are as they were
unfoldable pub blank : Sizes → ℕ → List ℕ → List ℕ → List ℕ → List ℕ → Site
blank z depth h k q o = pick (good_fresh z depth h k q o)
    (site_of (fresh_of z depth) (zeros (length h)) (zeros (length k)) (zeros (length q)) o)
    (site_of (fresh_of z depth) h k q o)

-- a run of the events es, within the budget, from fresh servers: the whole answer; the cluster that is left is well formed and
-- stands for the rules' cluster after them; and it has one ledger
pub record Pledged (z : Sizes) (depth budget : ℕ) (es h k q o : List ℕ) (t : Ran) (h' k' q' o' : List ℕ) : Type 0 where
  pub code : code_of t.answer ≡ pick (fits z depth es h k q o) 0 STATE
  pub met : t.met ≡ pick (fits z depth es h k q o) (length (events_of z es budget)) 0
  pub taken : t.taken ≡ pick (fits z depth es h k q o) (tally z depth start (events_of z es budget)) 0
  pub sizes : t.cluster.sizes ≡ z
  pub deep : t.cluster.depth ≡ depth
  pub site : site_of t.cluster h' k' q' o' ≡ pick (fits z depth es h k q o) (played z depth (blank z depth h k q o) (events_of z es budget)) (blank z depth h k q o)
  pub good : code_of t.answer ≡ 0 → good_site z depth (site_of t.cluster h' k' q' o') ≡ true
  pub rules : code_of t.answer ≡ 0 → cluster_of z depth (site_of t.cluster h' k' q' o') ≡ play z depth start (events_of z es budget)
  pub ledger : code_of t.answer ≡ 0 → OneLedger z depth (events_of z es budget) t.cluster h'
