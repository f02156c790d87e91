-- Any event, and a fresh cluster: whole answers.
use Rattle.std.specs.Prelude.{ℕ, ◌≡◌, Bool, true, List, length, replicate}
use Rattle.base.specs.Choice.{pick}
use Rattle.base.specs.Refusals.{code_of, STATE}
use Rattle.base.specs.declared.Sizes.{Sizes}
use Rattle.rules.specs.Server.{fresh}
use Rattle.rules.specs.Cluster.{Event, start, event}
use Rattle.rules.specs.Words.{tab, zeros, state_of}
use Rattle.ring.specs.declared.Rings.{Rings}
use Rattle.site.specs.Site.{site_of, cluster_of, fitting, good_site}
use Rattle.turn.specs.Events.{whole_event, outcome_of, Leaves}
use Rattle.turn.specs.Turns.{after_of}
use Rattle.site.specs.declared.Cluster.{Cluster}
use Rattle.site.specs.declared.Told.{Told}

-- ---- any event: the whole answer; and of what is well formed, what the rules do

pub record Happens (c : Cluster) (e : Event) (h k q o : List ℕ) (t : Told) (h' k' q' o' : List ℕ) : Type 0 where
  pub leaves : Leaves c (whole_event c.sizes c.depth (site_of c h k q o) e) t h' k' q' o'
  pub rules : good_site c.sizes c.depth (site_of c h k q o) ≡ true
      → event c.sizes c.depth (cluster_of c.sizes c.depth (site_of c h k q o)) e ≡ outcome_of c.sizes c.depth e (site_of c h k q o) (after_of t h' k' q' o')
  pub good : good_site c.sizes c.depth (site_of c h k q o) ≡ true → good_site c.sizes c.depth (site_of t.cluster h' k' q' o') ≡ true

-- ---- a fresh cluster

-- every ring's first slot is its head, nothing waits
abbrev pub no_rings : Rings
no_rings = record { heads = replicate 49 0; counts = replicate 49 0 }

-- fresh servers, each with its own number
abbrev pub fresh_of : Sizes → ℕ → Cluster
fresh_of z depth = record { sizes = z; depth = depth; servers = tab 7 (λ i. state_of i fresh); rings = no_rings }

-- are they lent as many words as it needs?
abbrev pub good_fresh : Sizes → ℕ → List ℕ → List ℕ → List ℕ → List ℕ → Bool
good_fresh z depth h k q o = fitting z depth (length h) (length k) (length q) (length o)

-- all words zero, or STATE and every word as it was; the outbox is not written
pub record Freshly (z : Sizes) (depth : ℕ) (h k q o : List ℕ) (t : Told) (h' k' q' : List ℕ) : Type 0 where
  pub code : code_of t.answer ≡ pick (good_fresh z depth h k q o) 0 STATE
  pub cluster : t.cluster ≡ fresh_of z depth
  pub hists : h' ≡ pick (good_fresh z depth h k q o) (zeros (length h)) h
  pub cands : k' ≡ pick (good_fresh z depth h k q o) (zeros (length k)) k
  pub queue : q' ≡ pick (good_fresh z depth h k q o) (zeros (length q)) q
  pub rules : good_fresh z depth h k q o ≡ true → cluster_of z depth (site_of t.cluster h' k' q' o) ≡ start
  pub good : good_fresh z depth h k q o ≡ true → good_site z depth (site_of t.cluster h' k' q' o) ≡ true
