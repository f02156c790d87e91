-- The cluster's invariant, kept by every event.
use Prim.Native.Nat.{ℕ, ◌≤◌, ◌<◌}
use mathlib.Core.Path.{◌≡◌, refl}
use mathlib.Core.Bool.{Bool, true, false}
use mathlib.Core.List.{List, [], ◌∷◌, ◌++◌}
use native.Mathlib.Omega.{arith}
use lib.Dec.{eqb, ltb}
use Rattle.base.specs.Choice.{pick, either, upd, upd₂}
use Rattle.base.specs.Transaction.{id_at}
use Rattle.base.specs.declared.Sizes.{Sizes}
use Rattle.base.specs.Refusals.{EVENT, ROOM}
use Rattle.base.proofs.Choice.{clash, eq-cases, pick_at, upd-at, upd_same, upd_other, upd₂-at}
use Rattle.rules.specs.Message.{Msg, cepoch, newepoch, acke, newleader, ackld, commitld, propose, ack, commit, junk, Send}
use Rattle.rules.specs.Server.{Server, fresh, F2}
use Rattle.rules.specs.Tree.{Res, refused, taken, run}
use Rattle.rules.specs.Step.{on_oracle, on_restart, on_cepoch, on_newepoch, on_acke, on_newleader, on_ackld, on_commit, on_propose, on_ack, mine, receive, Input, oracle, restart, message, submit, step}
use Rattle.rules.specs.Cluster.{Channels, Cluster, start, Event, O, R, D, S, emptied, post, roomy, Outcome, told, done, drops, answer, at, hand, event, after, play}
use Rattle.ledger.proofs.Ghost.{Ghost, Good, Grow}
use Rattle.ledger.proofs.Grow.{grow-refl, grow-trans, only-refl}
use Rattle.rules.proofs.Table.{cepoch-in, newepoch-in, acke-in, newleader-in, ackld-in, commitld-in, propose-in, ack-in, commit-in}
use Rattle.rules.proofs.Trees.{Answers, run-leaves, gate-leaves, All, all_append, all_map}
use Rattle.ledger.proofs.Claims.{MsgOk, msg-up, Lands, lands-map, lands-up, SrvOk, srv-up}
use Rattle.ledger.proofs.Done.{SendOk, Deed, rests, Done, Ok, low_ok, l1-ok, keep}
use Rattle.ledger.proofs.Follower.{newepoch-ok, newleader-ok, propose-ok, commit-ok}
use Rattle.ledger.proofs.Leader.{cepoch-ok, acke-ok, ackld-ok, ack-ok, submit-ok}

-- ---- one server: any input

-- a submission, which a trace tells of
abbrev pub asks : Input → Bool
asks (oracle x) = false
asks restart = false
asks (message f m) = false
asks (submit v) = true

-- a message handed over comes with its claim
abbrev pub InputOk : ℕ → Ghost → ℕ → Server → Input → Type 0
InputOk n g i s (oracle x) = Unit {0}
InputOk n g i s restart = Unit {0}
InputOk n g i s (message f m) = MsgOk n g f i m × (s.stage ≤ F2 → Lands g i m)
InputOk n g i s (submit v) = Unit {0}

module _ (z : Sizes) (g : Ghost) (G : Good z.n g) (i : ℕ) (s : Server) (C : SrvOk z.n g i s) where
  oracle-ok : (x : ℕ) → Ok z.n false g i s (on_oracle z i x s)
  unfolding on_oracle
  oracle-ok x _ = (
    λ _. keep z.n g G i s C _ _ _ (l1-ok z.n g i _ refl C.dur (record { seen = omega arith; blank = λ _. refl })) (λ e _. clash refl e) (λ w. absurd (omega arith)) (omega arith) tt,
    λ _. keep z.n g G i s C _ _ _ (low_ok z.n g i _ (omega arith) C.dur) (λ e _. clash refl e) (λ w. absurd (omega arith)) (omega arith) ((tt, tt), tt),
  )

  -- its channels were emptied: whatever its stage was, no NEWLEADER waits for it
  restart-ok : Ok z.n false g i s (on_restart s)
  unfolding on_restart
  restart-ok = record {
    g' = g;
    good = G;
    grow = grow-refl g;
    only = only-refl i g;
    srv = low_ok z.n g i _ (omega arith) C.dur;
    quiet = λ e _. clash refl e;
    more = omega arith;
    deed = rests (record { unasked = refl; stays = λ w. absurd (omega arith); est = λ _. refl; own = λ _. refl });
    sent = tt;
  }

  -- the table's tests, then the step of the kind
  receive_ok : (f : ℕ) (m : Msg) → MsgOk z.n g f i m → (s.stage ≤ F2 → Lands g i m) → Ok z.n false g i s (receive z i f m s)
  unfolding receive
  receive_ok f (cepoch e) c l = gate-leaves (Done z.n false g i s) 1 s.stage true (on_cepoch z i f e s) (λ _ k. cepoch-ok z g G i s C f e (cepoch-in s.stage k))
  receive_ok f (newepoch e) c l = gate-leaves (Done z.n false g i s) 2 s.stage (mine f s) (on_newepoch f e s) (λ _ k. newepoch-ok z.n g G i s C f e (newepoch-in s.stage k))
  receive_ok f (acke e a h) c l = gate-leaves (Done z.n false g i s) 3 s.stage (s.vol.joined f) (on_acke z i f e a h s) (λ _ k. acke-ok z g G i s C f e a h (acke-in s.stage k) c)
  receive_ok f (newleader e h) c l = gate-leaves (Done z.n false g i s) 4 s.stage (mine f s) (on_newleader f e h s) (λ _ k. newleader-ok z.n g G i s C f e h (newleader-in s.stage k) c l)
  receive_ok f (ackld e b) c l = gate-leaves (Done z.n false g i s) 5 s.stage (s.vol.joined f) (on_ackld z i f e b s) (λ _ k. ackld-ok z g G i s C f e b (ackld-in s.stage k) c)
  receive_ok f (commitld e b) c l = gate-leaves (Done z.n false g i s) 6 s.stage (mine f s) (on_commit e b s)
      (λ _ k. let w = commitld-in s.stage k in commit-ok z.n g G i s C e b (w.0, omega arith) c)
  receive_ok f (propose e b t) c l = gate-leaves (Done z.n false g i s) 7 s.stage (mine f s) (on_propose z f e b t s) (λ _ k. propose-ok z.n g G i s C z f e b t (propose-in s.stage k) c)
  receive_ok f (ack e b) c l = gate-leaves (Done z.n false g i s) 8 s.stage (s.vol.joined f) (on_ack z i f e b s) (λ _ k. ack-ok z g G i s C f e b (ack-in s.stage k) c)
  receive_ok f (commit e b) c l = gate-leaves (Done z.n false g i s) 9 s.stage (mine f s) (on_commit e b s)
      (λ _ k. let w = commit-in s.stage k in commit-ok z.n g G i s C e b (omega arith, w.1) c)
  receive_ok f junk c l = tt

  -- any input
  pub step_ok : (e : Input) → InputOk z.n g i s e → Ok z.n (asks e) g i s (step z i e s)
  unfolding step
  step_ok (oracle x) c = oracle-ok x
  step_ok restart c = restart-ok
  step_ok (message f m) c = λ _ _ _. receive_ok f m c.0 c.1
  step_ok (submit v) c = submit-ok z g G i s C v

-- ---- all servers and channels

-- a message on its way, with its receiver's stage
abbrev pub Way : ℕ → Ghost → (ℕ → Server) → ℕ → ℕ → Msg → Type 0
Way n g srv f t m = MsgOk n g f t m × ((srv t).stage ≤ F2 → Lands g t m)

-- all that waits
abbrev pub Ways : ℕ → Ghost → (ℕ → Server) → Channels → Type 0
Ways n g srv c = (f t : ℕ) → All (Way n g srv f t) (c f t)

-- THE INVARIANT: a consistent ghost, of which every server's and every message's claim is true
pub record Inv (n : ℕ) (c : Cluster) : Type 0 where
  pub g : Ghost
  pub good : Good n g
  pub srv : (i : ℕ) → SrvOk n g i (c.srv i)
  pub chan : Ways n g c.srv c.chan

-- one channel changed
pop_ok : (P : ℕ → ℕ → Msg → Type 0) (c : Channels) (f t : ℕ) (r : List Msg) → ((a b : ℕ) → All (P a b) (c a b)) → All (P f t) r → (a b : ℕ) → All (P a b) (upd₂ c f t r a b)
pop_ok P c f t r C A a b = upd₂-at (λ (l : List Msg). All (P a b) l) c f t r a b (λ p q. rw (p, q) A) (λ _. C a b)

post-ok : (P : ℕ → ℕ → Msg → Type 0) (c : Channels) (i : ℕ) (out : List Send) → ((a b : ℕ) → All (P a b) (c a b)) → All (λ (x : Send). P i x.to x.msg) out → (a b : ℕ) → All (P a b) (post i out c a b)
unfolding post
post-ok P c i [] C A = C
post-ok P c i (x ∷ xs) C A =
    post-ok P (upd₂ c i x.to (c i x.to ++ (x.msg ∷ []))) i xs
    (pop_ok P c i x.to (c i x.to ++ (x.msg ∷ [])) C (all_append (P i x.to) (c i x.to) (x.msg ∷ []) (C i x.to) (A.0, tt))) A.1

-- after emptying, if that was done: nothing waits for i
emptied-ok : (P : ℕ → ℕ → Msg → Type 0) (c : Channels) (i : ℕ) (b : Bool) → ((f t : ℕ) → (t ≡ i → b ≡ false) → All (P f t) (c f t)) → (f t : ℕ) → All (P f t) (pick b (emptied i c) c f t)
unfolding pick emptied either
emptied-ok P c i true C f t = eq-cases (λ (x : Bool). All (P f t) (pick (either x (eqb t i)) [] (c f t))) f i (λ _. tt)
    (λ _. eq-cases (λ (x : Bool). All (P f t) (pick x [] (c f t))) t i (λ _. tt) (λ ne. C f t (λ q. absurd (ne q))))
emptied-ok P c i false C f t = C f t (λ _. refl)

-- ---- an event

-- what an event did that a trace tells of: nothing if it was refused
abbrev pub Told : Ghost → Ghost → Outcome → Type 0
Told g g' (told k c) = g' ≡ g
Told g g' (done i s s' asked c) = Deed asked g g' i s s'

-- which server it moved, and from where
abbrev pub Moves : Cluster → Outcome → Type 0
Moves c (told k c') = (j : ℕ) → c'.srv j ≡ c.srv j
Moves c (done i s s' asked c') = (c.srv i ≡ s) × ((j : ℕ) → c'.srv j ≡ upd c.srv i s' j)

-- what an event owes: the invariant of the cluster after it, by a ghost that only grew, and no delivered count less
pub record Follows (n : ℕ) (c : Cluster) (I : Inv n c) (o : Outcome) : Type 0 where
  pub inv : Inv n (after o)
  pub grow : Grow I.g inv.g
  pub more : (j : ℕ) → (c.srv j).dur.d ≤ ((after o).srv j).dur.d
  pub deed : Told I.g inv.g o
  pub moves : Moves c o

module _ (z : Sizes) (depth : ℕ) (c : Cluster) (I : Inv z.n c) where
  -- server i moved from where it was to s', and sent out
  settle : (i : ℕ) (asked empties : Bool) (rest : Channels) → Ways z.n I.g c.srv rest → (s' : Server) (out : List Send) → Done z.n asked I.g i (c.srv i) empties s' out
      → Follows z.n c I (done i (c.srv i) s' asked (record { srv = upd c.srv i s'; chan = post i out (pick empties (emptied i rest) rest) }))
  unfolding after
  settle i asked empties rest C s' out d = record {
    inv = record {
      g = d.g';
      good = d.good;
      srv = λ j. upd-at (λ (s : Server). SrvOk z.n d.g' j s) c.srv i s' j (λ q. rw q d.srv) (λ ne. srv-up z.n I.g d.g' I.good d.grow j i d.only ne (c.srv j) (I.srv j));
      chan = post-ok (Way z.n d.g' (upd c.srv i s')) (pick empties (emptied i rest) rest) i out
          (emptied-ok (Way z.n d.g' (upd c.srv i s')) rest i empties
          (λ f t em. all_map (Way z.n I.g c.srv f t) (Way z.n d.g' (upd c.srv i s') f t) (λ m y. (msg-up z.n I.g d.g' I.good d.grow f t m y.0, land t m em y.1)) (rest f t) (C f t)))
          (all_map (SendOk z.n d.g' i) (λ (x : Send). Way z.n d.g' (upd c.srv i s') i x.to x.msg) (λ x y. (y.0, λ _. y.1)) out d.sent);
    };
    grow = d.grow;
    more = λ j. upd-at (λ (s : Server). (c.srv j).dur.d ≤ s.dur.d) c.srv i s' j (λ q. rw q d.more) (λ _. omega arith);
    deed = d.deed;
    moves = (refl, λ _. refl);
  }
    where
      land : (t : ℕ) (m : Msg) → (t ≡ i → empties ≡ false) → ((c.srv t).stage ≤ F2 → Lands I.g t m) → (upd c.srv i s' t).stage ≤ F2 → Lands d.g' t m
      land t m em y = upd-at (λ (s : Server). s.stage ≤ F2 → Lands d.g' t m) c.srv i s' t
          (λ q k. let w = d.quiet (em q) k in rw q (lands-map I.g d.g' i w.1 m (rw q at y w.0)))
          (λ ne k. lands-up z.n I.g d.g' I.good d.grow t i d.only ne m (y k))

  -- nothing moved, and of what waits some was dropped
  dropped : (k : ℕ) (rest : Channels) → Ways z.n I.g c.srv rest → Follows z.n c I (told k (record { srv = c.srv; chan = rest }))
  unfolding after
  dropped k rest C = record { inv = record { g = I.g; good = I.good; srv = I.srv; chan = C }; grow = grow-refl I.g; more = λ _. omega arith; deed = refl; moves = λ _. refl }

  answer_ok : (i : ℕ) (asked : Bool) (rest : Channels) → Ways z.n I.g c.srv rest → (r : Res) → Answers (Done z.n asked I.g i (c.srv i)) r → Follows z.n c I (answer z depth c i asked rest r)
  unfolding answer
  answer_ok i asked rest C (refused k) w = pick_at (λ (x : Cluster). Follows z.n c I (told k x)) (drops k) (record { srv = c.srv; chan = rest }) c (λ _. dropped k rest C) (λ _. dropped k c.chan I.chan)
  answer_ok i asked rest C (taken empties s' out) w = pick_at (Follows z.n c I) (roomy z.n depth i (post i out (pick empties (emptied i rest) rest)))
      (done i (c.srv i) s' asked (record { srv = upd c.srv i s'; chan = post i out (pick empties (emptied i rest) rest) })) (told ROOM c)
      (λ _. settle i asked empties rest C s' out w) (λ _. dropped ROOM c.chan I.chan)

  at_ok : (i : ℕ) (rest : Channels) → Ways z.n I.g c.srv rest → (e : Input) → InputOk z.n I.g i (c.srv i) e → Follows z.n c I (at z depth c i (asks e) rest e)
  unfolding at
  at_ok i rest C e w = pick_at (Follows z.n c I) (ltb i z.n) (answer z depth c i (asks e) rest (run (step z i e (c.srv i)))) (told EVENT c)
      (λ _. answer_ok i (asks e) rest C (run (step z i e (c.srv i))) (run-leaves (Done z.n (asks e) I.g i (c.srv i)) (step z i e (c.srv i)) (step_ok z I.g I.good i (c.srv i) (I.srv i) e w)))
      (λ _. dropped EVENT c.chan I.chan)

  hand-ok : (f t : ℕ) (l : List Msg) → All (Way z.n I.g c.srv f t) l → Follows z.n c I (hand z depth c f t l)
  unfolding hand
  hand-ok f t [] a = dropped EVENT c.chan I.chan
  hand-ok f t (m ∷ q) a = at_ok t (upd₂ c.chan f t q) (pop_ok (Way z.n I.g c.srv) c.chan f t q I.chan a.1) (message f m) a.0

  -- EVERY EVENT KEEPS IT
  pub event-ok : (e : Event) → Follows z.n c I (event z depth c e)
  unfolding event
  event-ok (O s x) = at_ok s c.chan I.chan (oracle x) tt
  event-ok (R s) = at_ok s c.chan I.chan restart tt
  event-ok (D f t) = hand-ok f t (c.chan f t) (I.chan f t)
  event-ok (S s v) = at_ok s c.chan I.chan (submit v) tt

-- ---- many events

-- from c to c' the ghost only grew, and no delivered count is less
pub record Later (n : ℕ) (c : Cluster) (I : Inv n c) (c' : Cluster) : Type 0 where
  pub inv : Inv n c'
  pub grow : Grow I.g inv.g
  pub more : (j : ℕ) → (c.srv j).dur.d ≤ (c'.srv j).dur.d

-- so do many
pub play-ok : (z : Sizes) (depth : ℕ) (c : Cluster) (I : Inv z.n c) (es : List Event) → Later z.n c I (play z depth c es)
unfolding play
play-ok z depth c I [] = record { inv = I; grow = grow-refl I.g; more = λ _. omega arith }
play-ok z depth c I (e ∷ es) =
    let a = event-ok z depth c I e in
    let b = play-ok z depth (after (event z depth c e)) a.inv es in
    record { inv = b.inv; grow = grow-trans I.g a.inv.g b.inv.g a.grow b.grow; more = λ j. omega (arith, a.more j, b.more j) }

-- ---- the beginning

-- nothing of anything
abbrev pub zeros : ℕ → ℕ
zeros e = 0

-- nothing has happened: epoch 0 is owned, and everybody holds all of it
unfoldable pub g₀ : Ghost
g₀ = record { prom = zeros; vote = λ _. zeros; owner = upd zeros 0 1; base = zeros; log = λ _. []; ackd = λ e _. upd zeros 0 1 e; est = zeros }

only_zero : (e : ℕ) → 0 < upd zeros 0 1 e → e ≡ 0
only_zero e = upd-at (λ (v : ℕ). 0 < v → e ≡ 0) zeros 0 1 e (λ q _. q) (λ _ k. absurd (omega arith))

good₀ : (n : ℕ) → Good n g₀
unfolding g₀ id_at
good₀ n = record {
  voted = λ e s k. absurd (omega arith);
  acked = λ e s k. omega (arith, only_zero e k);
  elected = λ e k o. absurd (omega (arith, only_zero e o));
  rules = λ e x k o. absurd (omega (arith, only_zero e (omega arith)));
  owned = λ e s k. k;
  above = λ e s k. k;
  within = λ e s. upd-at (λ (v : ℕ). v ≤ 1) zeros 0 1 e (λ _. omega arith) (λ _. omega arith);
  unowned = λ _ _. refl;
  based = λ e. omega arith;
  rising = λ e i j k l. absurd (omega arith);
  ids = λ e k l. let q : k ≡ 0 = omega arith in rw q (omega arith);
  low-ids = λ e k p l. let q : k ≡ 0 = omega arith in rw q (omega arith);
  own-id = λ e k p b l. absurd (omega arith);
  origin = λ e k l. absurd (omega arith);
  once = λ e. omega arith;
  settled = λ e k. absurd (omega arith);
  choose = λ e e' c k o m. absurd (omega (arith, only_zero e' o));
  later = λ e e' k p lt o m b l. absurd (omega arith);
}

-- fresh servers keep the invariant
pub start-ok : (n : ℕ) → Inv n start
unfolding start g₀
start-ok n = record {
  g = g₀;
  good = good₀ n;
  srv = λ i. low_ok n g₀ i fresh (omega arith) (record {
    prom = refl;
    part = refl;
    held = upd_same zeros 0 1;
    none = λ e k. upd_other zeros 0 1 e (omega arith);
    del = record { fits = omega arith; safe = λ k. absurd (omega arith) };
  });
  chan = λ f t. tt;
}

-- by that ghost
pub start-ghost : (n : ℕ) → (start-ok n).g ≡ g₀
unfolding start-ok
start-ghost n = refl

-- every run keeps the invariant
pub runs-ok : (z : Sizes) (depth : ℕ) (es : List Event) → Inv z.n (play z depth start es)
runs-ok z depth es = (play-ok z depth start (start-ok z.n) es).inv
