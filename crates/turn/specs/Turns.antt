-- What each function of an event's way asks and leaves.
use Rattle.std.specs.Prelude.{ℕ, ◌*◌, ◌≤◌, ◌<◌, ◌≡◌, Bool, true, List, [], eqb, length, drop, set}
use Rattle.base.specs.Choice.{pick, upd₂}
use Rattle.base.specs.Refusals.{code_of}
use Rattle.base.specs.declared.Sizes.{Sizes}
use Rattle.rules.specs.declared.State.{State}
use Rattle.rules.specs.Tree.{Res}
use Rattle.rules.specs.Cluster.{Channels, Event, told, done, emptied, post, roomy, answer, event}
use Rattle.rules.specs.Words.{msg_size, slot_size, zeros}
use Rattle.ring.specs.declared.Rings.{Rings}
use Rattle.ring.specs.Queue.{cell, slot_words, shorter, filled, chans, Ringed, Chan, Left}
use Rattle.post.specs.Posts.{to_at, sends_at}
use Rattle.server.specs.declared.Event.{Event as Input}
use Rattle.server.specs.declared.Event.TheVariants.{Deliver}
use Rattle.turn.specs.Act.{Seat}
use Rattle.site.specs.Site.{Site, site_of, server_at, cluster_of, Good}
use Rattle.turn.specs.Events.{After, sent_rings, sent_queue, answered, asked, first_slot, event_of, outcome_of, Leaves}
use Rattle.site.specs.declared.Cluster.{Cluster}
use Rattle.site.specs.declared.Told.{Told}

-- ---- what a server sent

-- the channels after it, where c waited before
abbrev pub shipped : ℕ → ℕ → Bool → List ℕ → ℕ → Channels → Channels
shipped H i b o n c = post i (sends_at H o n) (pick b (emptied i c) c)

pub record Ships (z : Sizes) (depth : ℕ) (r : Rings) (q : List ℕ) (i : ℕ) (b : Bool) (o : List ℕ) (n : ℕ) : Type 0 where
  pub good : Ringed z depth r q
  pub sender : i < z.n
  pub box : 6 * slot_size z.room.0 ≤ length o
  pub few : n ≤ 6
  pub to : (k : ℕ) → k < n → to_at z.room.0 o k < z.n
  pub room : roomy z.n depth i (shipped z.room.0 i b o n (chans z depth r q)) ≡ true

abbrev pub Shipped : Sizes → ℕ → Rings → List ℕ → ℕ → Bool → List ℕ → ℕ → Rings → List ℕ → Type 0
Shipped z depth r q i b o n r' q' = Left z depth r' q' (sent_rings z r i b o n) (sent_queue z depth r q i b o n) (shipped z.room.0 i b o n (chans z depth r q))

abbrev pub seat_of : Cluster → ℕ → State → Rings → Cluster
seat_of c i s r = record { sizes = c.sizes; depth = c.depth; servers = set c.servers i s; rings = r }

-- ---- an event at one server

abbrev pub after_of : Told → List ℕ → List ℕ → List ℕ → List ℕ → After
after_of t h k q o = record { code = code_of t.answer; site = site_of t.cluster h k q o }

-- server i answered x, where r, q and `rest` are rings, queue and channels without the message handed over:
-- the whole answer; what the rules do; and it is well formed
pub record Fared (c : Cluster) (w : Site) (i : ℕ) (r : Rings) (q : List ℕ) (rest : Channels) (x : Res) (t : Told) (h' k' q' o' : List ℕ) : Type 0 where
  pub leaves : Leaves c (answered c.sizes c.depth w i r q x) t h' k' q' o'
  pub rules : (b : Bool) → answer c.sizes c.depth (cluster_of c.sizes c.depth w) i b rest x ≡ pick (eqb (code_of t.answer) 0)
      (done i (server_at c.sizes w i) (server_at c.sizes (site_of t.cluster h' k' q' o') i) b (cluster_of c.sizes c.depth (site_of t.cluster h' k' q' o')))
      (told (code_of t.answer) (cluster_of c.sizes c.depth (site_of t.cluster h' k' q' o')))
  pub good : Good c.sizes c.depth (site_of t.cluster h' k' q' o')

abbrev pub Local : Cluster → ℕ → Input → List ℕ → List ℕ → List ℕ → List ℕ → Told → List ℕ → List ℕ → List ℕ → List ℕ → Type 0
Local c i ev h k q o t h' k' q' o' =
    let w = site_of c h k q o in
    Fared c w i c.rings q (chans c.sizes c.depth c.rings q) (asked c.sizes w i ev []) t h' k' q' o'

-- the words of the first message from f to i
abbrev pub first_words : Sizes → ℕ → Rings → ℕ → ℕ → List ℕ → List ℕ
first_words z depth r f i q = slot_words z.room.0 (first_slot z depth r f i) q

pub record Hears (z : Sizes) (depth : ℕ) (r : Rings) (s : State) (f : ℕ) (h k q o : List ℕ) : Type 0 where
  pub between : Chan z f s.me
  pub seat : Seat z depth r s (Deliver f) h k (first_words z depth r f s.me q) o

abbrev pub popped_rings : Cluster → ℕ → ℕ → Rings
popped_rings c f t = shorter c.depth (cell c.sizes.n f t) c.rings

abbrev pub popped_queue : Cluster → ℕ → ℕ → List ℕ → List ℕ
popped_queue c f t q = filled c.sizes.room.0 q (first_slot c.sizes c.depth c.rings f t) (zeros (msg_size c.sizes.room.0))

abbrev pub popped_chans : Cluster → ℕ → ℕ → List ℕ → Channels
popped_chans c f t q = upd₂ (chans c.sizes c.depth c.rings q) f t (drop 1 (chans c.sizes c.depth c.rings q f t))

abbrev pub Delivered : Cluster → ℕ → ℕ → List ℕ → List ℕ → List ℕ → List ℕ → Told → List ℕ → List ℕ → List ℕ → List ℕ → Type 0
Delivered c f t h k q o a h' k' q' o' =
    let w = site_of c h k q o in
    Fared c w t (popped_rings c f t) (popped_queue c f t q) (popped_chans c f t q)
    (asked c.sizes w t (Deliver f) (first_words c.sizes c.depth c.rings f t q)) a h' k' q' o'

-- ---- an event: the whole answer, what the rules do, and it is well formed

pub record Turned (c : Cluster) (e : Event) (h k q o : List ℕ) (t : Told) (h' k' q' o' : List ℕ) : Type 0 where
  pub leaves : Leaves c (event_of c.sizes c.depth (site_of c h k q o) e) t h' k' q' o'
  pub rules : event c.sizes c.depth (cluster_of c.sizes c.depth (site_of c h k q o)) e ≡ outcome_of c.sizes c.depth e (site_of c h k q o) (after_of t h' k' q' o')
  pub good : Good c.sizes c.depth (site_of t.cluster h' k' q' o')
