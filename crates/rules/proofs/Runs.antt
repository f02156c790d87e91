-- In a run from fresh servers every record stays well formed and every message that waits is well formed: STATE and MESSAGE never arise.
use Prim.Native.Nat.{ℕ, ◌<◌}
use mathlib.Core.Path.{◌≡◌, refl, ap}
use mathlib.Core.Logic.{◌≢◌, ◌⊎◌, inl, inr, ⊎_elim}
use mathlib.Core.Bool.{Bool, true, false, not}
use mathlib.Core.List.{List, [], ◌∷◌, ◌++◌}
use native.Mathlib.Omega.{arith}
use lib.Dec.{eqb, ltb}
use borrow.Author.Tests.{ltb-true}
use Rattle.base.specs.Choice.{pick, either, upd, upd₂}
use Rattle.base.specs.Refusals.{STATE, EVENT, MESSAGE, ROOM}
use Rattle.base.specs.declared.Sizes.{Sizes}
use Rattle.base.proofs.Choice.{clash, pick_at, upd-at, upd₂-at}
use Rattle.base.proofs.Good.{good-nil}
use Rattle.rules.specs.Message.{Msg, cepoch, newepoch, acke, newleader, ackld, commitld, propose, ack, commit, junk, Send, formed}
use Rattle.rules.specs.Server.{Server, fresh, good_sizes, well_formed}
use Rattle.rules.specs.Tree.{need, Res, refused, taken, run, gate}
use Rattle.rules.specs.Step.{keeps, on_oracle, on_restart, l1_join, l2_join, l34_join, on_cepoch, l2_count, on_acke, l3_sync, l4_advance, on_ackld, on_ack, on_newepoch, on_newleader, on_propose, on_commit, receive, on_submit, Input, oracle, restart, message, submit, step}
use Rattle.rules.specs.Cluster.{Channels, Cluster, start, Event, O, R, D, S, emptied, post, roomy, Outcome, told, done, drops, answer, at, hand, event, after, play}
use Rattle.rules.proofs.Trees.{All, all_append, all_map, Avoids, run-avoids}
use Rattle.rules.proofs.WellFormed.{Whole, whole-shown}
use Rattle.rules.proofs.Kept.{Sendable, step_kept}

-- ---- channels all of whose messages keep a claim

abbrev pub Waits : (Msg → Type 0) → Channels → Type 0
Waits P c = (f t : ℕ) → All P (c f t)

waits-put : (P : Msg → Type 0) (c : Channels) (f t : ℕ) (q : List Msg) → Waits P c → All P q → Waits P (upd₂ c f t q)
waits-put P c f t q C A a b = upd₂-at (All P) c f t q a b (λ _ _. A) (λ _. C a b)

waits-post : (P : Msg → Type 0) (i : ℕ) (out : List Send) (c : Channels) → Waits P c → All (λ (x : Send). P x.msg) out → Waits P (post i out c)
unfolding post
waits-post P i [] c C A = C
waits-post P i (x ∷ xs) c C A =
    waits-post P i xs (upd₂ c i x.to (c i x.to ++ (x.msg ∷ []))) (waits-put P c i x.to _ C (all_append P (c i x.to) (x.msg ∷ []) (C i x.to) (A.0, tt))) A.1

waits-emptied : (P : Msg → Type 0) (i : ℕ) (c : Channels) → Waits P c → Waits P (emptied i c)
unfolding emptied
waits-emptied P i c C f t = pick_at (All P) (either (eqb f i) (eqb t i)) [] (c f t) (λ _. tt) (λ _. C f t)

-- ---- a healthy cluster

abbrev pub Fine : Sizes → Msg → Type 0
Fine z m = formed z m ≡ true

pub record Healthy (z : Sizes) (c : Cluster) : Type 0 where
  pub srv : (i : ℕ) → i < z.n → well_formed z i (c.srv i) ≡ true
  pub chan : Waits (Fine z) c.chan

module _ (z : Sizes) (good : good_sizes z ≡ true) (depth : ℕ) (c : Cluster) (C : Healthy z c) where
  told-healthy : (k : ℕ) (rest : Channels) → Waits (Fine z) rest → Healthy z (pick (drops k) (record { srv = c.srv; chan = rest }) c)
  told-healthy k rest W = pick_at (Healthy z) (drops k) _ c (λ _. record { srv = C.srv; chan = W }) (λ _. C)

  answer-healthy : (i : ℕ) (asked : Bool) (rest : Channels) (e : Input) → i < z.n → Waits (Fine z) rest → (r : Res) → run (step z i e (c.srv i)) ≡ r → Healthy z (after (answer z depth c i asked rest r))
  unfolding answer after
  answer-healthy i asked rest e low W (refused k) q = told-healthy k rest W
  answer-healthy i asked rest e low W (taken b s out) q =
      let k = step_kept z i e (c.srv i) good (C.srv i low) b s out q in
      let Q : Waits (Fine z) (post i out (pick b (emptied i rest) rest)) = waits-post (Fine z) i out _ (pick_at (Waits (Fine z)) b (emptied i rest) rest (λ _. waits-emptied (Fine z) i rest W) (λ _. W))
      (all_map (Sendable z i) (λ (x : Send). Fine z x.msg) (λ x y. y.fine) out k.1) in
      pick_at (λ (o : Outcome). Healthy z (after o)) (roomy z.n depth i (post i out (pick b (emptied i rest) rest))) _ _
      (λ _. record { srv = λ j l. upd-at (λ (t : Server). well_formed z j t ≡ true) c.srv i s j (λ y. rw y k.0) (λ _. C.srv j l); chan = Q })
      (λ _. C)

  at-healthy : (i : ℕ) (asked : Bool) (rest : Channels) (e : Input) → Waits (Fine z) rest → Healthy z (after (at z depth c i asked rest e))
  unfolding at after
  at-healthy i asked rest e W = pick_at (λ (o : Outcome). Healthy z (after o)) (ltb i z.n) _ _ (λ l. answer-healthy i asked rest e (ltb-true i z.n l) W _ refl) (λ _. C)

  hand-healthy : (f t : ℕ) (q : List Msg) → All (Fine z) q → Healthy z (after (hand z depth c f t q))
  unfolding hand after
  hand-healthy f t [] A = C
  hand-healthy f t (m ∷ q) A = at-healthy t false (upd₂ c.chan f t q) (message f m) (waits-put (Fine z) c.chan f t q C.chan A.1)

  pub event-healthy : (e : Event) → Healthy z (after (event z depth c e))
  unfolding event
  event-healthy (O s x) = at-healthy s false c.chan (oracle x) C.chan
  event-healthy (R s) = at-healthy s false c.chan restart C.chan
  event-healthy (D f t) = hand-healthy f t (c.chan f t) (C.chan f t)
  event-healthy (S s v) = at-healthy s true c.chan (submit v) C.chan

pub play-healthy : (z : Sizes) → good_sizes z ≡ true → (depth : ℕ) (c : Cluster) → Healthy z c → (es : List Event) → Healthy z (play z depth c es)
unfolding play
play-healthy z good depth c C [] = C
play-healthy z good depth c C (e ∷ es) = play-healthy z good depth (after (event z depth c e)) (event-healthy z good depth c C e) es

-- ---- fresh servers

fresh-whole : (z : Sizes) (i : ℕ) → i < z.n → Whole z i fresh
fresh-whole z i l = record {
  low = l;
  dur = record { small = omega arith; order = omega arith; fits = omega arith; rules = good-nil z.room.0 0 };
  epochs = record { f34 = λ p. absurd (omega arith); l34 = λ p. absurd (omega arith); f24 = λ p. absurd (omega arith); l24 = λ p. absurd (omega arith) };
  orc = record { known = omega arith; look = λ _. refl; follow = λ p. absurd (omega arith); lead = λ p. absurd (omega arith) };
  sets = record { low = λ t h j. clash j refl; self = λ p. absurd (omega arith); acked = λ t h j. clash j refl; synced = λ t h j. clash j refl; alone = λ _ t h. refl; unacked = λ _ t h. refl; unsynced = λ _ t h. refl };
  counts = record { held = λ t h. omega arith; out = λ t h _. refl; early = λ _ t h. refl };
  largest = record { small = omega arith; seen = λ p. absurd (omega arith); off = λ _. refl };
  cand = record { young = λ p. absurd (omega arith); rules = good-nil z.room.0 0; off = λ _. (refl, refl) };
}

pub start-healthy : (z : Sizes) → Healthy z start
unfolding start
start-healthy z = record { srv = λ i l. whole-shown z i fresh (fresh-whole z i l); chan = λ f t. tt }

-- ---- what never arises

-- in a run every record below n is well formed, and so is every message that waits
pub run-healthy : (z : Sizes) → good_sizes z ≡ true → (depth : ℕ) (es : List Event) → Healthy z (play z depth start es)
run-healthy z good depth es = play-healthy z good depth start (start-healthy z) es

-- what a refusal of an event comes from
refused-by : (z : Sizes) (depth : ℕ) (c c' : Cluster) (i : ℕ) (asked : Bool) (rest : Channels) (k : ℕ) (r : Res) → answer z depth c i asked rest r ≡ told k c' → (k ≡ ROOM) ⊎ (r ≡ refused k)
unfolding answer pick
refused-by z depth c c' i asked rest k (refused j) e = inr (ap refused (code e))
  where
    code : ◌≡◌ {A = Outcome} (told j (pick (drops j) (record { srv = c.srv; chan = rest }) c)) (told k c') → j ≡ k
    code e = cc
refused-by z depth c c' i asked rest k (taken b s out) e = go (roomy z.n depth i (post i out (pick b (emptied i rest) rest))) e
  where
    go : (t : Bool) → pick t (done i (c.srv i) s asked (record { srv = upd c.srv i s; chan = post i out (pick b (emptied i rest) rest) })) (told ROOM c) ≡ told k c' → (k ≡ ROOM) ⊎ (taken b s out ≡ refused k)
    go true q = let y : ◌≡◌ {A = ℕ} 0 1 = cc in absurd (omega arith)
    go false q = let y : ◌≡◌ {A = ℕ} k 12 = cc in inl y

-- neither STATE nor MESSAGE (k) is an answer of the rules to a well-formed message, or to any other event
module _ (z : Sizes) (i f k : ℕ) (s : Server) (lo : k < 4) (two : 2 ≢ k) where
  receive-avoids : (m : Msg) → formed z m ≡ true → Avoids k (receive z i f m s)
  unfolding receive gate on_cepoch l1_join l2_join l34_join on_newepoch on_acke l2_count keeps on_newleader on_ackld l3_sync l4_advance on_commit on_propose on_ack formed
  receive-avoids (cepoch e) g = omega arith
  receive-avoids (newepoch e) g = omega arith
  receive-avoids (acke e a h) g = omega arith
  receive-avoids (newleader e h) g = omega arith
  receive-avoids (ackld e c) g = omega arith
  receive-avoids (commitld e c) g = omega arith
  receive-avoids (propose e n t) g = omega arith
  receive-avoids (ack e n) g = omega arith
  receive-avoids (commit e c) g = omega arith
  receive-avoids junk g = clash g refl

abbrev Heard : Sizes → Input → Type 0
Heard z (oracle x) = Unit {0}
Heard z restart = Unit {0}
Heard z (message f m) = Fine z m
Heard z (submit v) = Unit {0}

step-avoids : (z : Sizes) (i k : ℕ) (s : Server) → k < 4 → 2 ≢ k → (e : Input) → Heard z e → run (step z i e s) ≢ refused k
unfolding step on_oracle on_restart on_submit run
step-avoids z i k s lo two (oracle x) h = run-avoids k (on_oracle z i x s) (omega arith)
step-avoids z i k s lo two restart h = run-avoids k (on_restart s) tt
step-avoids z i k s lo two (message f m) h =
    rw h (run-avoids k (need (ltb f z.n) EVENT (need (not (eqb f i)) EVENT (receive z i f m s))) (two, (two, receive-avoids z i f k s lo two m h)))
step-avoids z i k s lo two (submit v) h = run-avoids k (on_submit z i v s) (omega arith)

module _ (z : Sizes) (depth : ℕ) (c c' : Cluster) (C : Healthy z c) (k : ℕ) (lo : k < 4) (two : 2 ≢ k) where
  at-avoids : (i : ℕ) (asked : Bool) (rest : Channels) (e : Input) → Heard z e → at z depth c i asked rest e ≢ told k c'
  unfolding at pick
  at-avoids i asked rest e h = go (ltb i z.n)
    where
      go : (b : Bool) → pick b (answer z depth c i asked rest (run (step z i e (c.srv i)))) (told EVENT c) ≢ told k c'
      go true q = ⊎_elim (λ (y : k ≡ ROOM). omega arith) (λ y. step-avoids z i k (c.srv i) lo two e h y) (refused-by z depth c c' i asked rest k _ q)
      go false q = let y : ◌≡◌ {A = ℕ} 2 k = cc in two y

  hand-avoids : (f t : ℕ) (q : List Msg) → All (Fine z) q → hand z depth c f t q ≢ told k c'
  unfolding hand
  hand-avoids f t [] A = λ q. let y : ◌≡◌ {A = ℕ} 2 k = cc in two y
  hand-avoids f t (m ∷ q) A = at-avoids t false (upd₂ c.chan f t q) (message f m) A.0

  pub event-avoids : (e : Event) → event z depth c e ≢ told k c'
  unfolding event
  event-avoids (O s x) = at-avoids s false c.chan (oracle x) tt
  event-avoids (R s) = at-avoids s false c.chan restart tt
  event-avoids (D f t) = hand-avoids f t (c.chan f t) (C.chan f t)
  event-avoids (S s v) = at-avoids s true c.chan (submit v) tt

-- no event of a run is told MESSAGE, and none STATE
pub never-message : (z : Sizes) → good_sizes z ≡ true → (depth : ℕ) (es : List Event) (e : Event) (c : Cluster) → event z depth (play z depth start es) e ≢ told MESSAGE c
never-message z good depth es e c = event-avoids z depth (play z depth start es) c (run-healthy z good depth es) 3 (omega arith) (omega arith) e

pub never-state : (z : Sizes) → good_sizes z ≡ true → (depth : ℕ) (es : List Event) (e : Event) (c : Cluster) → event z depth (play z depth start es) e ≢ told STATE c
never-state z good depth es e c = event-avoids z depth (play z depth start es) c (run-healthy z good depth es) 1 (omega arith) (omega arith) e
