-- The whole way of an event: what is asked of one server, and what is left of it in the rings and the words.
use Rattle.std.specs.Prelude.{Result, Ok, Err}
use Rattle.base.specs.declared.Refusal.{Refusal}
use Rattle.base.specs.declared.Refusal.TheVariants.{Event as EventR}
use Rattle.base.specs.Refusals.{code_of, EVENT}
use Prim.Native.Nat.{ℕ, ◌+◌, ◌-◌, ◌*◌, ◌≤◌, ◌<◌}
use mathlib.Core.Path.{◌≡◌, refl, sym, ap, ◌∙◌, subst}
use mathlib.Core.Logic.{◌≢◌, inl, inr, ⊎_elim}
use mathlib.Core.Bool.{Bool, true, false}
use mathlib.Core.List.{List, []}
use native.Mathlib.Omega.{arith}
use lib.Dec.{ltb}
use lib.ListN.{length, take, drop, length-drop}
use lib.Seq.{length-take-le}
use borrow.Author.Tests.{le-leb, leb-true, eq-eqb, lt-ltb, le-ltb, ltb-true}
use Rattle.base.specs.Choice.{pick, both}
use Rattle.base.specs.declared.Sizes.{Sizes}
use Rattle.base.proofs.Choice.{case, both_true, upd₂-row, clash, le-or-lt}
use Rattle.rules.specs.declared.State.{State}
use Rattle.rules.specs.Message.{Send}
use Rattle.rules.specs.Server.{Server}
use Rattle.rules.specs.Tree.{refused, taken, run}
use Rattle.rules.specs.Step.{step, Input, oracle, restart, message, submit, on_oracle}
use Rattle.rules.specs.Cluster.{Cluster as Servers, Channels, Event, O, R, D, S, told, drops, answer, at, hand, event}
use Rattle.rules.specs.Words.{msg_size, read_msg}
use Rattle.ring.specs.declared.Rings.{Rings}
use Rattle.ring.specs.Queue.{cell, head, count, wrap, chans, Ringed, Chan, Popped}
use Rattle.ring.proofs.Laws.{wrap-low, ring-at, cell-low, slot-in, chan-count, chan-out, front-is, front-none}
use Rattle.server.specs.declared.Event.{Event as Asked}
use Rattle.server.specs.declared.Event.TheVariants.{Oracle, Restart, Deliver, Submit, Unknown}
use Rattle.server.specs.Whole.{Reply, answer_of, lent_len}
use Rattle.site.specs.Parts.{part}
use Rattle.turn.specs.Act.{Seat, Enacts}
use Rattle.site.specs.Site.{Site, site_of, record_at, seated, server_at, cluster_of, Good}
use Rattle.turn.specs.Events.{stays, answered, asked, local, delivery, waits, first_slot, event_of, actor, asks, outcome_of, alone, ruled}
use Rattle.turn.specs.Turns.{Ships, Shipped, seat_of, Local, first_words, Hears, Delivered, Turned, popped_rings, popped_queue, popped_chans}
use Rattle.site.specs.declared.Cluster.{Cluster}
use Rattle.site.specs.declared.Told.{Told}
use Rattle.turn.proofs.Fate.{seat-at}
use Rattle.turn.proofs.Fares.{fare-stood, fare-dropped, fare-ships, fare-taken}

pick_same : {A : Type 0} (b : Bool) (x : A) → pick b x x ≡ x
unfolding pick
pick_same true x = refl
pick_same false x = refl

-- ---- an oracle event, a restart, a submission at server i

module _ (c : Cluster) (h k q o : List ℕ) (g : Good c.sizes c.depth (site_of c h k q o)) (i : ℕ) (hi : i < c.sizes.n) (ev : Asked) where
  abbrev all : Channels
  all = chans c.sizes c.depth c.rings q

  row : (b : Bool) (t : Server) (out : List Send) → asked c.sizes (site_of c h k q o) i ev [] ≡ taken b t out → (j : ℕ) → j < c.sizes.n → length (all i j) ≡ count c.rings (cell c.sizes.n i j)
  row b t out e j l = chan-count c.sizes c.depth c.rings q i j (record { sender = hi; receiver = l })

  pub local-seat : lent_len c.sizes ev 0 ≡ true → Seat c.sizes c.depth c.rings (record_at c.servers i) ev h k [] o
  local-seat l = seat-at c.sizes c.depth (site_of c h k q o) g i hi ev [] l

  module _ (a : Reply) (h' k' o' : List ℕ) (E : Enacts c.sizes c.depth c.rings (record_at c.servers i) ev h k [] o a h' k' o') where
    pub local-stood : (v : Result (Unit {0}) Refusal) → code_of v ≡ a.code → a.code ≢ 0 → Local c i ev h k q o (record { answer = v; cluster = c }) h' k' q o'
    unfolding cluster_of
    local-stood v V n = fare-stood c h k q o g i hi ev [] c.rings q all row a h' k' o' E n (pick_same (drops a.code) _) (pick_same (drops a.code) _) v V

    pub local-ships : a.code ≡ 0 → Ships c.sizes c.depth c.rings q i a.empties o' a.sent
    local-ships n = fare-ships c h k q o g i hi ev [] c.rings q all row a h' k' o' E n g.ringed refl

    pub local-taken : (r' : Rings) (q' : List ℕ) (d : Cluster) → a.code ≡ 0 → Shipped c.sizes c.depth c.rings q i a.empties o' a.sent r' q' → d ≡ seat_of c i a.state r'
        → Local c i ev h k q o (record { answer = Ok tt; cluster = d }) h' k' q' o'
    local-taken r' q' d n L e = rw e (fare-taken c h k q o g i hi ev [] c.rings q all row a h' k' o' E n g.ringed refl r' q' L)

-- ---- the delivery of the first message from f to i

self-refused : (z : Sizes) (s : State) (f : ℕ) (h k m : List ℕ) → f ≡ s.me → answer_of z s (Deliver f) h k m ≡ refused EVENT
unfolding answer_of step run
self-refused z s f h k m e = case (ltb f z.n)
    (λ (y : ltb f z.n ≡ true). rw (y, eq-eqb f s.me e))
    (λ (y : ltb f z.n ≡ false). rw y)

not_taken : (κ : ℕ) (b : Bool) (t : Server) (out : List Send) → refused κ ≡ taken b t out → ◌≡◌ {A = ℕ} 0 1
not_taken κ b t out e = cc

pub there : (z : Sizes) (r : Rings) (f t : ℕ) → waits z r f t ≡ true → (f < z.n) × (t < z.n) × (1 ≤ count r (cell z.n f t))
unfolding waits
there z r f t e =
    let a = both_true (ltb f z.n) _ e in
    let b = both_true (ltb t z.n) _ a.1 in
    (ltb-true _ _ a.0, ltb-true _ _ b.0, leb-true _ _ b.1)

-- where it lies, in the queue
first-in : (z : Sizes) (depth : ℕ) (r : Rings) (q : List ℕ) (f i : ℕ) → Ringed z depth r q → Chan z f i → msg_size z.room.0 * first_slot z depth r f i + msg_size z.room.0 ≤ length q
first-in z depth r q f i G K =
    let l = cell-low z f i G.few K in
    let d = ring-at depth r (cell z.n f i) G.rings l.1 in
    rw G.size (slot-in z depth (cell z.n f i) (wrap depth (head r (cell z.n f i) + 0)) l.0 (wrap-low depth (head r (cell z.n f i)) 0 d.0 (omega arith)))

length-first : (z : Sizes) (depth : ℕ) (r : Rings) (q : List ℕ) (f i : ℕ) → Ringed z depth r q → Chan z f i → length (first_words z depth r f i q) ≡ msg_size z.room.0
length-first z depth r q f i G K =
    let a = first-in z depth r q f i G K in
    length-take-le (msg_size z.room.0) (drop (msg_size z.room.0 * first_slot z depth r f i) q) (omega (arith, length-drop (msg_size z.room.0 * first_slot z depth r f i) q))

-- lent by the code as a part of the queue
module _ (z : Sizes) (depth : ℕ) (r : Rings) (q : List ℕ) (f i at m : ℕ) (ea : at ≡ msg_size z.room.0 * first_slot z depth r f i) (em : m ≡ msg_size z.room.0) where
  pub hear-in : Ringed z depth r q → Chan z f i → at + m ≤ length q
  hear-in G K = rw (ea, em) (first-in z depth r q f i G K)

  pub hear-first : take (at + m - at) (drop at q) ≡ first_words z depth r f i q
  hear-first = let e : at + m - at ≡ msg_size z.room.0 = omega arith in λ j. take (e j) (drop (ea j) q)

module _ (c : Cluster) (h k q o : List ℕ) (g : Good c.sizes c.depth (site_of c h k q o)) (f i : ℕ) (wt : waits c.sizes c.rings f i ≡ true) where
  abbrev first : List ℕ
  first = first_words c.sizes c.depth c.rings f i q

  hi : i < c.sizes.n
  hi = (there c.sizes c.rings f i wt).1

  pub busy : 1 ≤ count c.rings (cell c.sizes.n f i)
  busy = (there c.sizes c.rings f i wt).2

  pub between : Chan c.sizes f i
  between = record { sender = (there c.sizes c.rings f i wt).0; receiver = hi }

  -- a message to oneself is refused, so what is taken leaves the row of i as it is
  apart : (b : Bool) (t : Server) (out : List Send) → asked c.sizes (site_of c h k q o) i (Deliver f) first ≡ taken b t out → i ≢ f
  unfolding asked
  apart b t out e s =
      let y = self-refused c.sizes (record_at c.servers i) f (part c.sizes i h) (part c.sizes i k) first (sym s ∙ sym (g.me i hi)) in
      let u : ◌≡◌ {A = ℕ} 0 1 = not_taken EVENT b t out (sym y ∙ e) in
      absurd (omega arith)

  row-d : (b : Bool) (t : Server) (out : List Send) → asked c.sizes (site_of c h k q o) i (Deliver f) first ≡ taken b t out → (j : ℕ) → j < c.sizes.n → length (popped_chans c f i q i j) ≡ count c.rings (cell c.sizes.n i j)
  row-d b t out e j l =
      ap length (upd₂-row (chans c.sizes c.depth c.rings q) f i (drop 1 (chans c.sizes c.depth c.rings q f i)) i j (apart b t out e))
      ∙ chan-count c.sizes c.depth c.rings q i j (record { sender = hi; receiver = l })

  pub delivered-hears : Hears c.sizes c.depth c.rings (record_at c.servers i) f h k q o
  unfolding lent_len
  delivered-hears =
      let me = g.me i hi in
      let l : length first ≡ msg_size c.sizes.room.0 = length-first c.sizes c.depth c.rings q f i g.ringed between in
      record {
        between = subst (Chan c.sizes f) (sym me) between;
        seat = subst (λ (j : ℕ). Seat c.sizes c.depth c.rings (record_at c.servers i) (Deliver f) h k (first_words c.sizes c.depth c.rings f j q) o) (sym me)
            (seat-at c.sizes c.depth (site_of c h k q o) g i hi (Deliver f) first (eq-eqb _ _ l));
      }

  module _ (a : Reply) (h' k' o' : List ℕ) (E : Enacts c.sizes c.depth c.rings (record_at c.servers i) (Deliver f) h k (first_words c.sizes c.depth c.rings f (record_at c.servers i).me q) o a h' k' o') where
    E' : Enacts c.sizes c.depth c.rings (record_at c.servers i) (Deliver f) h k first o a h' k' o'
    E' = subst (λ (j : ℕ). Enacts c.sizes c.depth c.rings (record_at c.servers i) (Deliver f) h k (first_words c.sizes c.depth c.rings f j q) o a h' k' o') (g.me i hi) E

    pub delivered-stood : (v : Result (Unit {0}) Refusal) → code_of v ≡ a.code → a.code ≢ 0 → drops a.code ≡ false → Delivered c f i h k q o (record { answer = v; cluster = c }) h' k' q o'
    unfolding pick
    delivered-stood v V n d = fare-stood c h k q o g i hi (Deliver f) first (popped_rings c f i) (popped_queue c f i q) (popped_chans c f i q) row-d a h' k' o' E' n (rw d) (rw d) v V

    module _ (r₁ : Rings) (q₁ : List ℕ) (P : Popped c.sizes c.depth c.rings q f i r₁ q₁) where
      pub delivered-dropped : (v : Result (Unit {0}) Refusal) → code_of v ≡ a.code → (d : Cluster) → a.code ≢ 0 → drops a.code ≡ true → d ≡ record { sizes = c.sizes; depth = c.depth; servers = c.servers; rings = r₁ }
          → Delivered c f i h k q o (record { answer = v; cluster = d }) h' k' q₁ o'
      delivered-dropped v V d n y e = rw e (fare-dropped c h k q o g i hi (Deliver f) first (popped_rings c f i) (popped_queue c f i q) (popped_chans c f i q) row-d a h' k' o' E' n y r₁ q₁ P v V)

      ringed : Ringed c.sizes c.depth (popped_rings c f i) (popped_queue c f i q)
      ringed = subst (λ (u : List ℕ). Ringed c.sizes c.depth (popped_rings c f i) u) P.words (subst (λ (u : Rings). Ringed c.sizes c.depth u q₁) P.rings P.good)

      rest : chans c.sizes c.depth (popped_rings c f i) (popped_queue c f i q) ≡ popped_chans c f i q
      rest = (λ j. chans c.sizes c.depth (sym P.rings j) (sym P.words j)) ∙ P.chans

      pub delivered-ships : a.code ≡ 0 → Ships c.sizes c.depth r₁ q₁ i a.empties o' a.sent
      delivered-ships n =
          let F = fare-ships c h k q o g i hi (Deliver f) first (popped_rings c f i) (popped_queue c f i q) (popped_chans c f i q) row-d a h' k' o' E' n ringed rest in
          subst (λ (u : List ℕ). Ships c.sizes c.depth r₁ u i a.empties o' a.sent) (sym P.words)
          (subst (λ (u : Rings). Ships c.sizes c.depth u (popped_queue c f i q) i a.empties o' a.sent) (sym P.rings) F)

      pub delivered-taken : (r' : Rings) (q' : List ℕ) (d : Cluster) → a.code ≡ 0 → Shipped c.sizes c.depth r₁ q₁ i a.empties o' a.sent r' q' → d ≡ seat_of c i a.state r'
          → Delivered c f i h k q o (record { answer = Ok tt; cluster = d }) h' k' q' o'
      delivered-taken r' q' d n L e =
          let L' : Shipped c.sizes c.depth (popped_rings c f i) (popped_queue c f i q) i a.empties o' a.sent r' q'
          = subst (λ (u : List ℕ). Shipped c.sizes c.depth (popped_rings c f i) u i a.empties o' a.sent r' q') P.words
          (subst (λ (u : Rings). Shipped c.sizes c.depth u q₁ i a.empties o' a.sent r' q') P.rings L) in
          rw e (fare-taken c h k q o g i hi (Deliver f) first (popped_rings c f i) (popped_queue c f i q) (popped_chans c f i q) row-d a h' k' o' E' n ringed rest r' q' L')

-- ---- the event, as the rules have it

module _ (c : Cluster) (h k q o : List ℕ) (g : Good c.sizes c.depth (site_of c h k q o)) where
  abbrev w : Site
  w = site_of c h k q o

  abbrev was : Servers
  was = cluster_of c.sizes c.depth (site_of c h k q o)

  sits : (i : ℕ) → i < c.sizes.n → server_at c.sizes w i ≡ seated c.sizes w i
  unfolding server_at pick
  sits i l = rw (lt-ltb i c.sizes.n l)

  -- what server i is asked, in the words of the rules
  pub asked_is : (i : ℕ) (ev : Asked) (m : List ℕ) (e : Input) → i < c.sizes.n
      → answer_of c.sizes (record_at c.servers i) ev (part c.sizes i h) (part c.sizes i k) m ≡ run (step c.sizes (record_at c.servers i).me e (seated c.sizes w i))
      → run (step c.sizes i e (was.srv i)) ≡ asked c.sizes w i ev m
  unfolding asked cluster_of
  asked_is i ev m e l y = ap (λ (s : Server). run (step c.sizes i e s)) (sits i l) ∙ ap (λ (j : ℕ). run (step c.sizes j e (seated c.sizes w i))) (sym (g.me i l)) ∙ sym y

  -- ---- no such server, or nothing waits

  pub turned_none : (e : Event) → event_of c.sizes c.depth w e ≡ stays EVENT w → event c.sizes c.depth was e ≡ told EVENT was → Turned c e h k q o (record { answer = Err EventR; cluster = c }) h k q o
  unfolding outcome_of pick
  turned_none e a b = record { leaves = rw a (record { code = refl; sizes = refl; depth = refl; site = refl }); rules = b; good = g }

  -- ---- at one server

  pub turned-local : (e : Event) (i : ℕ) (ev : Asked) (t : Told) (h' k' q' o' : List ℕ) → actor e ≡ i
      → event_of c.sizes c.depth w e ≡ answered c.sizes c.depth w i c.rings q (asked c.sizes w i ev [])
      → event c.sizes c.depth was e ≡ answer c.sizes c.depth was i (asks e) (chans c.sizes c.depth c.rings q) (asked c.sizes w i ev [])
      → Local c i ev h k q o t h' k' q' o' → Turned c e h k q o t h' k' q' o'
  unfolding outcome_of
  turned-local e i ev t h' k' q' o' a b d f = record { leaves = rw b f.leaves; rules = rw a (d ∙ f.rules (asks e)); good = f.good }

  unknown : (i : ℕ) → c.sizes.n ≤ i → ltb i c.sizes.n ≡ false
  unknown i l = le-ltb i c.sizes.n l

  known : (i : ℕ) → i < c.sizes.n → ltb i c.sizes.n ≡ true
  known i l = lt-ltb i c.sizes.n l

  -- what a server does for itself needs no words of a message
  pub alone-lent : (ev : Asked) → alone ev ≡ true → lent_len c.sizes ev 0 ≡ true
  unfolding alone lent_len
  alone-lent (Oracle x) y = refl
  alone-lent Restart y = refl
  alone-lent (Deliver f) y = clash y refl
  alone-lent (Submit v) y = refl
  alone-lent Unknown y = clash y refl

  module _ (s : ℕ) where
    pub alone-unknown : (ev : Asked) → alone ev ≡ true → c.sizes.n ≤ s → Turned c (ruled s ev) h k q o (record { answer = Err EventR; cluster = c }) h k q o
    unfolding alone ruled event_of local event at pick
    alone-unknown (Oracle x) y l = turned_none (O s x) (rw (unknown s l)) (rw (unknown s l))
    alone-unknown Restart y l = turned_none (R s) (rw (unknown s l)) (rw (unknown s l))
    alone-unknown (Deliver f) y l = clash y refl
    alone-unknown (Submit v) y l = turned_none (S s v) (rw (unknown s l)) (rw (unknown s l))
    alone-unknown Unknown y l = clash y refl

    pub alone-turned : (ev : Asked) (t : Told) (h' k' q' o' : List ℕ) → alone ev ≡ true → s < c.sizes.n → Local c s ev h k q o t h' k' q' o' → Turned c (ruled s ev) h k q o t h' k' q' o'
    unfolding alone ruled event_of local event at pick actor asks answer_of cluster_of
    alone-turned (Oracle x) t h' k' q' o' y m f = turned-local (O s x) s (Oracle x) t h' k' q' o' refl (rw (known s m)) (rw (known s m, asked_is s (Oracle x) [] (oracle x) m refl)) f
    alone-turned Restart t h' k' q' o' y m f = turned-local (R s) s Restart t h' k' q' o' refl (rw (known s m)) (rw (known s m, asked_is s Restart [] restart m refl)) f
    alone-turned (Deliver g) t h' k' q' o' y m f = clash y refl
    alone-turned (Submit v) t h' k' q' o' y m f = turned-local (S s v) s (Submit v) t h' k' q' o' refl (rw (known s m)) (rw (known s m, asked_is s (Submit v) [] (submit v) m refl)) f
    alone-turned Unknown t h' k' q' o' y m f = clash y refl

    module _ (x : ℕ) (l : c.sizes.n ≤ x) where
      out_of_range : asked c.sizes w s (Oracle x) [] ≡ refused EVENT
      unfolding asked answer_of step on_oracle run
      out_of_range = rw (unknown x l)

      oracle-known : s < c.sizes.n → Turned c (O s x) h k q o (record { answer = Err EventR; cluster = c }) h k q o
      unfolding event_of local event at answered answer drops both pick answer_of
      oracle-known m = turned_none (O s x) (rw (known s m, out_of_range)) (rw (known s m, asked_is s (Oracle x) [] (oracle x) m refl, out_of_range))

      pub oracle-range : Turned c (O s x) h k q o (record { answer = Err EventR; cluster = c }) h k q o
      unfolding alone ruled
      oracle-range = ⊎_elim (alone-unknown (Oracle x) refl) oracle-known (le-or-lt c.sizes.n s)

  -- ---- a delivery

  module _ (f t : ℕ) where
    delivery-none : waits c.sizes c.rings f t ≡ false → chans c.sizes c.depth c.rings q f t ≡ [] → Turned c (D f t) h k q o (record { answer = Err EventR; cluster = c }) h k q o
    unfolding event_of delivery event hand cluster_of pick
    delivery-none a b = turned_none (D f t) (rw a) (rw b)

    pub delivery-sender : c.sizes.n ≤ f → Turned c (D f t) h k q o (record { answer = Err EventR; cluster = c }) h k q o
    unfolding waits both
    delivery-sender l = delivery-none (rw (unknown f l)) (chan-out c.sizes c.depth c.rings q f t (inl l))

    pub delivery-receiver : f < c.sizes.n → c.sizes.n ≤ t → Turned c (D f t) h k q o (record { answer = Err EventR; cluster = c }) h k q o
    unfolding waits both
    delivery-receiver m l = delivery-none (rw (known f m, unknown t l)) (chan-out c.sizes c.depth c.rings q f t (inr l))

    pub delivery-empty : f < c.sizes.n → t < c.sizes.n → count c.rings (cell c.sizes.n f t) ≡ 0 → Turned c (D f t) h k q o (record { answer = Err EventR; cluster = c }) h k q o
    unfolding waits both
    delivery-empty m l e = delivery-none (rw (known f m, known t l, e)) (front-none c.sizes c.depth c.rings q f t (record { sender = m; receiver = l }) e)

    pub delivery-waits : f < c.sizes.n → t < c.sizes.n → (count c.rings (cell c.sizes.n f t) ≡ 0 → ⊥) → waits c.sizes c.rings f t ≡ true
    unfolding waits both
    delivery-waits m l n = rw (known f m, known t l) (le-leb 1 (count c.rings (cell c.sizes.n f t)) (omega arith))

    pub delivery-turned : (a : Told) (h' k' q' o' : List ℕ) → waits c.sizes c.rings f t ≡ true → Delivered c f t h k q o a h' k' q' o' → Turned c (D f t) h k q o a h' k' q' o'
    unfolding event_of delivery event hand at pick actor asks answer_of cluster_of outcome_of
    delivery-turned a h' k' q' o' y d =
        let l = there c.sizes c.rings f t y in
        let front = front-is c.sizes c.depth c.rings q f t (record { sender = l.0; receiver = l.1 }) l.2 in
        let m = first_words c.sizes c.depth c.rings f t q in
        let r : event c.sizes c.depth was (D f t) ≡ answer c.sizes c.depth was t false (popped_chans c f t q) (asked c.sizes w t (Deliver f) m)
        = ap (hand c.sizes c.depth was f t) front ∙ rw (known t l.1, asked_is t (Deliver f) m (message f (read_msg c.sizes.room.0 m)) l.1 refl) in
        record { leaves = rw y d.leaves; rules = r ∙ d.rules false; good = d.good }
