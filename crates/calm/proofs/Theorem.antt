-- The calm run, whole.
use Prim.Native.Nat.{ℕ, ◌+◌, ◌-◌, ◌*◌, ◌≤◌, ◌<◌}
use native.Mathlib.Omega.{arith}
use mathlib.Core.Path.{◌≡◌, refl, sym, ap}
use mathlib.Core.Logic.{◌≢◌}
use mathlib.Core.Bool.{true}
use mathlib.Core.List.{List, [], ◌∷◌, ◌++◌}
use lib.ListN.{length}
use borrow.Author.Tests.{lt-ltb, ltb-true}
use Rattle.base.specs.Quorum.{Set, size}
use Rattle.base.specs.Transaction.{Hist, LAST, ident, last_id}
use Rattle.base.specs.Refusals.{UNDO}
use Rattle.base.specs.declared.Sizes.{Sizes}
use Rattle.base.proofs.Quorum.{quorum-all, size-all, weigh-more, everyone}
use Rattle.rules.specs.Message.{Msg, formed}
use Rattle.rules.specs.Server.{Server}
use Rattle.rules.specs.Cluster.{Cluster, Event, D, S, told, event, after, play, start, is_done}
use Rattle.calm.specs.Calm.{Reached, below, Crew, Others, naming, all_done, Lively, Ready, Established, Recovered, Round, submitted-entry}
use Rattle.calm.proofs.Play.{Sure}
use Rattle.calm.proofs.Naming.{naming-taken}
use Rattle.calm.proofs.Recover.{recovers, recovers-exists}
use Rattle.calm.proofs.Submit.{submit-taken, submits, submits-exists}

-- ---- reached clusters

play-append : (z : Sizes) (depth : ℕ) (c : Cluster) (es : List Event) (e : Event) → play z depth c (es ++ (e ∷ [])) ≡ after (event z depth (play z depth c es) e)
unfolding play
play-append z depth c [] e = refl
play-append z depth c (d ∷ es) e = play-append z depth (after (event z depth c d)) es e

pub reached-next : (z : Sizes) (depth : ℕ) (c : Cluster) (e : Event) → Reached z depth c → Reached z depth (after (event z depth c e))
reached-next z depth c e r = record { events = r.events ++ (e ∷ []); played = rw r.played (sym (play-append z depth start r.events e)) }

pub reached-play : (z : Sizes) (depth : ℕ) (c : Cluster) (es : List Event) → Reached z depth c → Reached z depth (play z depth c es)
unfolding play
reached-play z depth c [] r = r
reached-play z depth c (e ∷ es) r = reached-play z depth (after (event z depth c e)) es (reached-next z depth c e r)

-- ---- all servers

size_below : (n : ℕ) → size (below n) n ≡ n
size_below n =
    let a = weigh-more (λ _. 1) (below n) everyone n (λ s h e. refl) in
    let b = weigh-more (λ _. 1) everyone (below n) n (λ s h e. lt-ltb s n h) in
    omega (arith, size-all n)

all-crew : (n x : ℕ) → x < n → Crew n x (below n)
all-crew n x hx = record { inside = λ s e. ltb-true s n e; mine = lt-ltb x n hx; enough = quorum-all n (below n) (omega arith) (λ s h. lt-ltb s n h) }

-- ---- the theorems

module _ (z : Sizes) (depth : ℕ) (two : 2 ≤ z.n) (deep : 2 ≤ depth)
    (never : (c : Cluster) → Reached z depth c → (e : Event) (c' : Cluster) → event z depth c e ≢ told UNDO c')
    (proper : (c : Cluster) → Reached z depth c → (f t : ℕ) → f < z.n → t < z.n → (m : Msg) (r : List Msg) → c.chan f t ≡ m ∷ r → formed z m ≡ true) where
  sure : Sure z depth (Reached z depth)
  sure = record { kept = reached-next z depth; never = λ c r f t. never c r (D f t); proper = λ c r f t m ms hf ht. proper c r f t hf ht m ms }

  -- ---- the recovery among a quorum q with x in it: only its members are named, and what waits for others is left waiting
  module _ (q : Set) (x : ℕ) (crew : Crew z.n x q) (c : Cluster) (reached : Reached z depth c)
      (top : (i : ℕ) → q i ≡ true → (c.srv i).dur.p ≤ (c.srv x).dur.p) (low : (c.srv x).dur.p < LAST) (fs : List ℕ) (others : Others q x fs) where
    -- no naming event is refused
    pub quorum-named : all_done z depth c (naming x fs) ≡ true
    quorum-named = naming-taken z depth x c q crew two deep fs others

    -- the next 6 (|q| - 1) deliveries of messages that wait between them, in any order and with no other event
    pub quorum-run : (es : List Event) → Lively z depth q (play z depth c (naming x fs)) es
        → Round z depth q c (play z depth c (naming x fs)) es (6 * (size q z.n - 1)) (Recovered q x ((c.srv x).dur.p + 1))
    quorum-run = recovers z depth x q crew two deep c top low fs others (Reached z depth) sure reached

    -- there is such a sequence
    pub quorum-run-exists : (es : List Event) × Lively z depth q (play z depth c (naming x fs)) es × (length es ≡ 6 * (size q z.n - 1))
    quorum-run-exists = recovers-exists z depth x q crew two deep c top low fs others (Reached z depth) sure reached

  -- ---- a submission where q is ready, and there is room
  module _ (q : Set) (x : ℕ) (crew : Crew z.n x q) (c : Cluster) (reached : Reached z depth c) (e : ℕ) (h : Hist) (ready : Ready q x e h c)
      (v : ℕ) (room : length h < z.room.0) (more : last_id h ≢ ident e LAST) where
    -- it is taken
    pub quorum-submit-taken : is_done (event z depth c (S x v)) ≡ true
    quorum-submit-taken = submit-taken z depth x q crew two deep c e h ready v room more

    -- the next 3 (|q| - 1) deliveries, likewise: delivered at all of q, and ready for the next
    pub quorum-submit : (es : List Event) → Lively z depth q (after (event z depth c (S x v))) es
        → Round z depth q c (after (event z depth c (S x v))) es (3 * (size q z.n - 1)) (Established q x e (h ++ (submitted-entry v e h ∷ [])))
    quorum-submit = submits z depth x q crew two deep c e h ready v room more (Reached z depth) sure reached

    -- there is such a sequence
    pub quorum-submit-exists : (es : List Event) × Lively z depth q (after (event z depth c (S x v))) es × (length es ≡ 3 * (size q z.n - 1))
    quorum-submit-exists = submits-exists z depth x q crew two deep c e h ready v room more (Reached z depth) sure reached

  -- ---- the recovery of all servers
  module _ (x : ℕ) (hx : x < z.n) (c : Cluster) (reached : Reached z depth c)
      (top : (i : ℕ) → i < z.n → (c.srv i).dur.p ≤ (c.srv x).dur.p) (low : (c.srv x).dur.p < LAST) (fs : List ℕ) (others : Others (below z.n) x fs) where
    -- no naming event is refused
    pub calm-named : all_done z depth c (naming x fs) ≡ true
    calm-named = quorum-named (below z.n) x (all-crew z.n x hx) c reached (λ i h. top i (ltb-true i z.n h)) low fs others

    -- the next 6 (n - 1) deliveries of waiting messages, in any order and with no other event
    pub calm_run : (es : List Event) → Lively z depth (below z.n) (play z depth c (naming x fs)) es
        → Round z depth (below z.n) c (play z depth c (naming x fs)) es (6 * (z.n - 1)) (Recovered (below z.n) x ((c.srv x).dur.p + 1))
    calm_run es lively = rw size_below at (quorum-run (below z.n) x (all-crew z.n x hx) c reached (λ i h. top i (ltb-true i z.n h)) low fs others es lively)

    -- there is such a sequence
    pub calm-run-exists : (es : List Event) × Lively z depth (below z.n) (play z depth c (naming x fs)) es × (length es ≡ 6 * (z.n - 1))
    calm-run-exists = rw size_below at (quorum-run-exists (below z.n) x (all-crew z.n x hx) c reached (λ i h. top i (ltb-true i z.n h)) low fs others)

  -- ---- and a submission, with all servers
  module _ (x : ℕ) (hx : x < z.n) (c : Cluster) (reached : Reached z depth c) (e : ℕ) (h : Hist) (ready : Ready (below z.n) x e h c)
      (v : ℕ) (room : length h < z.room.0) (more : last_id h ≢ ident e LAST) where
    -- it is taken
    pub calm-submit-taken : is_done (event z depth c (S x v)) ≡ true
    calm-submit-taken = quorum-submit-taken (below z.n) x (all-crew z.n x hx) c reached e h ready v room more

    -- the next 3 (n - 1) deliveries of waiting messages, in any order and with no other event: delivered everywhere, and ready for the next
    pub calm-submit : (es : List Event) → Lively z depth (below z.n) (after (event z depth c (S x v))) es
        → Round z depth (below z.n) c (after (event z depth c (S x v))) es (3 * (z.n - 1)) (Established (below z.n) x e (h ++ (submitted-entry v e h ∷ [])))
    calm-submit es lively = rw size_below at (quorum-submit (below z.n) x (all-crew z.n x hx) c reached e h ready v room more es lively)

    pub calm-submit-exists : (es : List Event) × Lively z depth (below z.n) (after (event z depth c (S x v))) es × (length es ≡ 3 * (z.n - 1))
    calm-submit-exists = rw size_below at (quorum-submit-exists (below z.n) x (all-crew z.n x hx) c reached e h ready v room more)

  -- ---- both, one after the other

  -- what the leader's own record says of the epoch and the history
  own-words : (q : Set) (x e : ℕ) (h : Hist) (c : Cluster) → Ready q x e h c → Ready q x (c.srv x).dur.p (c.srv x).dur.hist c
  own-words q x e h c r =
      let p : (c.srv x).dur.p ≡ e = ap (λ (s : Server). s.dur.p) r.leads in
      let k : (c.srv x).dur.hist ≡ h = ap (λ (s : Server). s.dur.hist) r.leads in
      rw (p, k) r

  module _ (x : ℕ) (hx : x < z.n) (c : Cluster) (reached : Reached z depth c)
      (top : (i : ℕ) → i < z.n → (c.srv i).dur.p ≤ (c.srv x).dur.p) (low : (c.srv x).dur.p < LAST) (fs : List ℕ) (others : Others (below z.n) x fs)
      (es : List Event) (lively : Lively z depth (below z.n) (play z depth c (naming x fs)) es) (whole : length es ≡ 6 * (z.n - 1)) where
    -- the cluster after the recovery, its epoch and its history
    abbrev c₁ : Cluster
    c₁ = play z depth (play z depth c (naming x fs)) es

    abbrev e₁ : ℕ
    e₁ = (c₁.srv x).dur.p

    abbrev h₁ : Hist
    h₁ = (c₁.srv x).dur.hist

    -- after it one submission with room is taken, and 3 (n - 1) deliveries more deliver it everywhere
    pub calm-then-submit : (v : ℕ) → length h₁ < z.room.0 → last_id h₁ ≢ ident e₁ LAST
        → (is_done (event z depth c₁ (S x v)) ≡ true)
        × ((es' : List Event) → Lively z depth (below z.n) (after (event z depth c₁ (S x v))) es'
        → Round z depth (below z.n) c₁ (after (event z depth c₁ (S x v))) es' (3 * (z.n - 1)) (Established (below z.n) x e₁ (h₁ ++ (submitted-entry v e₁ h₁ ∷ []))))
    calm-then-submit v room more =
        let d = (calm_run x hx c reached top low fs others es lively).ends whole in
        let r = own-words (below z.n) x ((c.srv x).dur.p + 1) d.0 c₁ d.1.ready in
        let g = reached-play z depth (play z depth c (naming x fs)) es (reached-play z depth c (naming x fs) reached) in
        (calm-submit-taken x hx c₁ g e₁ h₁ r v room more, calm-submit x hx c₁ g e₁ h₁ r v room more)
