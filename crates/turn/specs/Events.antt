-- An event of the cluster on records, rings and lent words: its whole answer.
use Rattle.std.specs.Prelude.{ℕ, ◌*◌, ◌≡◌, Bool, true, false, List, [], eqb, leb, ltb, length, set}
use Rattle.base.specs.Choice.{pick, both}
use Rattle.base.specs.Refusals.{code_of, STATE, EVENT, ROOM}
use Rattle.base.specs.declared.Sizes.{Sizes}
use Rattle.rules.specs.Tree.{Res, refused, taken}
use Rattle.rules.specs.Cluster.{Event, O, R, D, S, Outcome, told, done, drops}
use Rattle.rules.specs.Words.{msg_size, state_of, hist_words, zeros, put, boxed}
use Rattle.ring.specs.declared.Rings.{Rings}
use Rattle.ring.specs.Queue.{cell, count, slot_no, slot_words, shorter, filled, vacated, bared}
use Rattle.post.specs.Posts.{rungs, strewn}
use Rattle.server.specs.declared.Event.{Event as Input}
use Rattle.server.specs.declared.Event.TheVariants.{Oracle, Restart, Deliver, Submit, Unknown}
use Rattle.server.specs.Whole.{answer_of}
use Rattle.turn.specs.Act.{room_for}
use Rattle.site.specs.Parts.{share, part}
use Rattle.site.specs.Site.{Site, site_of, record_at, server_at, cluster_of, good_site}
use Rattle.site.specs.declared.Cluster.{Cluster}
use Rattle.site.specs.declared.Told.{Told}
use Rattle.turn.specs.declared.Happening.{Happening}
use Rattle.turn.specs.declared.Happening.TheVariants as happens

-- an event of the script as the rules name it; one of no known kind is one at no server
unfoldable pub meant : Sizes → Happening → Event
meant z (happens.Oracle s x) = O s x
meant z (happens.Restart s) = R s
meant z (happens.Deliver f t) = D f t
meant z (happens.Submit s v) = S s v
meant z happens.Unknown = R z.n

-- the refusal or 0, and what is held afterwards
pub record After : Type 0 where
  pub code : ℕ
  pub site : Site

abbrev pub stays : ℕ → Site → After
stays k w = record { code = k; site = w }

-- rings and queue, where server i's channels are emptied first if it says so, and the first n messages of the outbox then sent
abbrev pub bare_rings : Sizes → Rings → ℕ → Bool → Rings
bare_rings z r i b = pick b (vacated z.n i z.n r) r

abbrev pub bare_queue : Sizes → ℕ → List ℕ → ℕ → Bool → List ℕ
bare_queue z depth q i b = pick b (bared z.room.0 depth z.n i z.n q) q

unfoldable pub sent_rings : Sizes → Rings → ℕ → Bool → List ℕ → ℕ → Rings
sent_rings z r i b o n = rungs z (bare_rings z r i b) i o n

unfoldable pub sent_queue : Sizes → ℕ → Rings → List ℕ → ℕ → Bool → List ℕ → ℕ → List ℕ
sent_queue z depth r q i b o n = strewn z depth (bare_rings z r i b) (bare_queue z depth q i b) i o n

-- server i's answer, where r and q are rings and queue without the message handed over
unfoldable pub answered : Sizes → ℕ → Site → ℕ → Rings → List ℕ → Res → After
answered z depth w i r q (refused k) =
    stays k (pick (drops k) (record { servers = w.servers; rings = r; hists = w.hists; cands = w.cands; queue = q; box = w.box }) w)
answered z depth w i r q (taken b t out) =
    let o = boxed z.room.0 w.box 0 out in
    pick (room_for z depth w.rings i (taken b t out))
    (stays 0 (record {
      servers = set w.servers i (state_of i t);
      rings = sent_rings z r i b o (length out);
      hists = put w.hists (share z * i) (hist_words z.room.0 t.dur.hist);
      cands = put w.cands (share z * i) (hist_words z.room.0 t.vol.cand_hist);
      queue = sent_queue z depth r q i b o (length out);
      box = o;
    }))
    (stays ROOM w)

-- what server i's rules say to an event, where m are the words of a message
unfoldable pub asked : Sizes → Site → ℕ → Input → List ℕ → Res
asked z w i ev m = answer_of z (record_at w.servers i) ev (part z i w.hists) (part z i w.cands) m

unfoldable pub local : Sizes → ℕ → Site → ℕ → Input → After
local z depth w i ev = pick (ltb i z.n) (answered z depth w i w.rings w.queue (asked z w i ev [])) (stays EVENT w)

-- what a server does for itself, and how the rules name it at server s
unfoldable pub alone : Input → Bool
alone (Oracle x) = true
alone Restart = true
alone (Deliver f) = false
alone (Submit v) = true
alone Unknown = false

unfoldable pub ruled : ℕ → Input → Event
ruled s (Oracle x) = O s x
ruled s Restart = R s
ruled s (Deliver f) = D f s
ruled s (Submit v) = S s v
ruled s Unknown = R s

-- does a message wait from f to t?
unfoldable pub waits : Sizes → Rings → ℕ → ℕ → Bool
waits z r f t = both (ltb f z.n) (both (ltb t z.n) (leb 1 (count r (cell z.n f t))))

-- where the first message from f to t lies
abbrev pub first_slot : Sizes → ℕ → Rings → ℕ → ℕ → ℕ
first_slot z depth r f t = slot_no depth r (cell z.n f t) 0

unfoldable pub delivery : Sizes → ℕ → Site → ℕ → ℕ → After
delivery z depth w f t = pick (waits z w.rings f t)
    (answered z depth w t
    (shorter depth (cell z.n f t) w.rings)
    (filled z.room.0 w.queue (first_slot z depth w.rings f t) (zeros (msg_size z.room.0)))
    (asked z w t (Deliver f) (slot_words z.room.0 (first_slot z depth w.rings f t) w.queue)))
    (stays EVENT w)

-- AN EVENT of what is well formed
unfoldable pub event_of : Sizes → ℕ → Site → Event → After
event_of z depth w (O s x) = local z depth w s (Oracle x)
event_of z depth w (R s) = local z depth w s Restart
event_of z depth w (D f t) = delivery z depth w f t
event_of z depth w (S s v) = local z depth w s (Submit v)

-- and of anything: STATE leaves every word as it was
unfoldable pub whole_event : Sizes → ℕ → Site → Event → After
whole_event z depth w e = pick (good_site z depth w) (event_of z depth w e) (stays STATE w)

-- ---- the same event of the rules

-- whose event it is, and whether it is a submission
unfoldable pub actor : Event → ℕ
actor (O s x) = s
actor (R s) = s
actor (D f t) = t
actor (S s v) = s

unfoldable pub asks : Event → Bool
asks (O s x) = false
asks (R s) = false
asks (D f t) = false
asks (S s v) = true

unfoldable pub outcome_of : Sizes → ℕ → Event → Site → After → Outcome
outcome_of z depth e w x = pick (eqb x.code 0)
    (done (actor e) (server_at z w (actor e)) (server_at z x.site (actor e)) (asks e) (cluster_of z depth x.site))
    (told x.code (cluster_of z depth x.site))

-- the answer r, with the lent words after it, is x; sizes and depth are kept
pub record Leaves (c : Cluster) (x : After) (r : Told) (h k q o : List ℕ) : Type 0 where
  pub code : code_of r.answer ≡ x.code
  pub sizes : r.cluster.sizes ≡ c.sizes
  pub depth : r.cluster.depth ≡ c.depth
  pub site : site_of r.cluster h k q o ≡ x.site
