-- What the program writes: the records that a line of the script leaves, as text.
use Rattle.std.specs.Prelude.{ℕ, zero, suc, ◌+◌, ◌-◌, ◌*◌, ◌≤◌, ◌<◌, ◌≡◌, Bool, true, false, not, List, [], ◌∷◌, ◌++◌, Option, Some, None, map, eqb, length, drop}
use Rattle.base.specs.Choice.{pick, both}
use Rattle.base.specs.Refusals.{STATE}
use Rattle.base.specs.Record.{Rec, E, B, «V», X, entry}
use Rattle.base.specs.declared.Txn.{Txn}
use Rattle.base.specs.declared.Sizes.{Sizes}
use Rattle.rules.specs.declared.State.{State}
use Rattle.rules.specs.Server.{L4}
use Rattle.rules.specs.Cluster.{Event, O, R, D, S, event, after, records, trace, start}
use Rattle.rules.specs.Words.{txn_at}
use Rattle.site.specs.declared.Cluster.{Cluster}
use Rattle.site.specs.Parts.{share}
use Rattle.site.specs.Site.{site_of, record_at, cluster_of, good_site}
use Rattle.turn.specs.Events.{whole_event}
use Rattle.script.specs.declared.Command.{Command}
use Rattle.script.specs.declared.Command.TheVariants.{Begin, Oracle, Restart, Deliver, Submit}
use Rattle.script.specs.Line.{line_of}
use Rattle.script.specs.Text.{header, bytes_of, Wrote}
use Rattle.scribe.specs.declared.Said.{Said}

-- records, one line each
unfoldable pub text : List Rec → List ℕ
text [] = []
text (r ∷ rs) = bytes_of r ++ text rs

-- ---- the script

-- the event that a line after the first means; a bad line, a second N included, is one at no server
unfoldable pub event_for : Sizes → Option Command → Event
event_for z (Some (Begin n)) = R z.n
event_for z (Some (Oracle s x)) = O s x
event_for z (Some (Restart s)) = R s
event_for z (Some (Deliver f t)) = D f t
event_for z (Some (Submit s v)) = S s v
event_for z None = R z.n

-- room for 16 transactions, channels of four messages
abbrev pub limits : ℕ → Sizes
limits n = record { n = n; room = record { 0 = 16 } }

-- the whole output of a script, given by its first line's command and the lines after it
unfoldable pub output_after : Option Command → List (List ℕ) → List ℕ
output_after (Some (Begin n)) ls = header n ++ text (trace (limits n) 4 start 2 (map (λ l. event_for (limits n) (line_of l)) ls))
output_after (Some (Oracle s x)) ls = text (X 1 1 ∷ [])
output_after (Some (Restart s)) ls = text (X 1 1 ∷ [])
output_after (Some (Deliver f t)) ls = text (X 1 1 ∷ [])
output_after (Some (Submit s v)) ls = text (X 1 1 ∷ [])
output_after None ls = text (X 1 1 ∷ [])

unfoldable pub output_of : List (List ℕ) → List ℕ
output_of [] = text (X 1 1 ∷ [])
output_of (l ∷ ls) = output_after (line_of l) ls

-- ---- the records of a history's places

-- a B, or else a V, of server `who`
unfoldable pub marked : Bool → ℕ → Txn → Rec
marked true who t = B who (entry t)
marked false who t = «V» who (entry t)

-- of n places from place j on
unfoldable pub notes : Bool → ℕ → List ℕ → ℕ → ℕ → List Rec
notes b who h j zero = []
notes b who h j (suc n) = marked b who (txn_at (drop (2 * j) h)) ∷ notes b who h (suc j) n

-- an E, if server `who` enters L4 with promise p
unfoldable pub entered : ℕ → ℕ → ℕ → ℕ → List Rec
entered was now who p = pick (both (not (eqb was L4)) (eqb now L4)) (E who p ∷ []) []

-- what an event taken leaves, where s and t are the server's record before and after it and h the words of its history after it
unfoldable pub done_by : Bool → State → State → List ℕ → List Rec
done_by b s t h = entered s.stage t.stage t.me t.p.0 ++ (notes true t.me h s.len.0 (pick b t.len.0 0 - s.len.0) ++ notes false t.me h s.d.0 (t.d.0 - s.d.0))

-- the record of server i and its words, as much as is read of them
pub record Seen (d : Cluster) (i : ℕ) (h : List ℕ) : Type 0 where
  pub low : i < d.sizes.n
  pub few : d.sizes.n ≤ 7
  pub room : d.sizes.room.0 ≤ 64
  pub words : share d.sizes * i + share d.sizes ≤ length h
  pub len : (record_at d.servers i).len.0 ≤ d.sizes.room.0
  pub told : (record_at d.servers i).d.0 ≤ (record_at d.servers i).len.0

-- ---- a line of the script after the first

-- how many bytes it may write
abbrev pub MOST : ℕ
MOST = 12480

-- e, in line `line`, of what is held: its records as text; what is held afterwards, as the cluster says it
unfoldable pub said : Sizes → ℕ → ℕ → List ℕ → Event → Cluster → List ℕ → List ℕ → List ℕ → List ℕ
said z depth line o e c h k q = pick (good_site z depth (site_of c h k q o)) (text (records line (event z depth (cluster_of z depth (site_of c h k q o)) e))) (text (X line STATE ∷ []))

pub record Tells (c : Cluster) (line : ℕ) (e : Event) (h k q o b : List ℕ) (r : Said) (h' k' q' o' b' : List ℕ) : Type 0 where
  pub wrote : Wrote b 0 (said c.sizes c.depth line o e c h k q) r.end b'
  pub sizes : r.cluster.sizes ≡ c.sizes
  pub depth : r.cluster.depth ≡ c.depth
  pub site : site_of r.cluster h' k' q' o' ≡ (whole_event c.sizes c.depth (site_of c h k q o) e).site
  pub rules : good_site c.sizes c.depth (site_of c h k q o) ≡ true
      → cluster_of c.sizes c.depth (site_of r.cluster h' k' q' o') ≡ after (event c.sizes c.depth (cluster_of c.sizes c.depth (site_of c h k q o)) e)
  pub good : good_site c.sizes c.depth (site_of c h k q o) ≡ true → good_site c.sizes c.depth (site_of r.cluster h' k' q' o') ≡ true
