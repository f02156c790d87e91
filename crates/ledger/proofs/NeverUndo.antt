-- UNDO is never told: a new history always begins with what was delivered.
use Prim.Native.Nat.{ℕ, suc, ◌≤◌, ◌<◌}
use mathlib.Core.Path.{◌≡◌, refl, sym, ap, ◌∙◌}
use mathlib.Core.Logic.{◌≢◌, ⊎_elim}
use mathlib.Core.Bool.{Bool, true, false, not}
use mathlib.Core.List.{List, [], ◌∷◌}
use native.Mathlib.Omega.{arith}
use lib.Dec.{eqb, leb, ltb}
use lib.ListN.{length, take}
use borrow.Author.Tests.{eqb-true}
use Rattle.base.specs.Choice.{pick, both, upd, upd₂}
use Rattle.base.specs.Quorum.{Set}
use Rattle.base.specs.Transaction.{Hist}
use Rattle.base.specs.Refusals.{EVENT, UNDO, ROOM}
use Rattle.base.specs.declared.Sizes.{Sizes}
use Rattle.base.proofs.Choice.{tests, le-or-lt, clash, both_true, passes, not_is, pick_at}
use Rattle.base.proofs.Quorum.{Most}
use Rattle.base.proofs.History.{pre-take, hist-same}
use Rattle.rules.specs.Message.{Msg, cepoch, newepoch, acke, newleader, ackld, commitld, propose, ack, commit, junk}
use Rattle.rules.specs.Server.{Dur, Server, F2, L2, L4}
use Rattle.rules.specs.Table.{TAKEN, cell}
use Rattle.rules.specs.Tree.{Tree, need, fork, deny, took, Res, refused, taken, run, gate}
use Rattle.rules.specs.Step.{keeps, l1_join, l2_join, l34_join, l2_count, l3_sync, l4_advance, on_oracle, on_restart, on_cepoch, on_newepoch, on_acke, on_newleader, on_ackld, on_commit, on_propose, on_ack, on_submit}
use Rattle.rules.specs.Step.{mine, receive, Input, oracle, restart, message, submit, step}
use Rattle.rules.specs.Cluster.{Channels, Cluster, start, Event, O, R, D, S, emptied, post, roomy, Outcome, told, done, answer, at, hand, event, play}
use Rattle.ledger.proofs.Ghost.{Ghost, Good, Report}
use Rattle.ledger.proofs.Candidate.{Below, chosen, committed-may}
use Rattle.rules.proofs.Table.{acke-in, newleader-in}
use Rattle.rules.proofs.Trees.{All}
use Rattle.ledger.proofs.Claims.{MsgOk, Lands, SrvOk}
use Rattle.ledger.proofs.Done.{a-le-p}
use Rattle.ledger.proofs.Leader.{counted-won, counted-lost}
use Rattle.ledger.proofs.Cluster.{InputOk, Way, Inv, runs-ok, asks}

-- ---- the two places: h begins with the delivered part of u

-- the test that UNDO is told for
abbrev pub Keeps : Dur → Hist → Type 0
Keeps u h = (u.d ≤ length h) × (take u.d h ≡ take u.d u.hist)

module _ (n : ℕ) (g : Ghost) (G : Good n g) (i : ℕ) (s : Server) (C : SrvOk n g i s) where
  -- NEWLEADER: what was committed below begins its history; what was committed in its own epoch it carries, for the receiver held it
  pub newleader-keeps : (f : ℕ) (h : Hist) → MsgOk n g f i (newleader s.dur.p h) → Lands g i (newleader s.dur.p h) → Keeps s.dur h
  newleader-keeps f h m l = ⊎_elim
      (λ (k : s.dur.d ≤ 0). let q : s.dur.d ≡ 0 = omega arith in rw q (omega arith, refl))
      (λ (k : 0 < s.dur.d). some (C.dur.del.safe k))
      (le-or-lt s.dur.d 0)
    where
      some : (e : ℕ) × (e ≤ s.dur.a) × Most n (λ x. s.dur.d < g.ackd e x) × (take s.dur.d s.dur.hist ≡ take s.dur.d (g.log e)) → Keeps s.dur h
      some t = ⊎_elim
          (λ (k : s.dur.p ≤ t.0).
          let q : s.dur.a ≡ s.dur.p = omega (arith, t.1, a-le-p n g G i s C) in
          let r : t.0 ≡ s.dur.p = omega (arith, t.1, a-le-p n g G i s C) in
          let b : s.dur.d ≤ length h = omega (arith, l, rw q at C.dur.held, C.dur.del.fits) in
          (b, pre-take h (g.log s.dur.p) s.dur.d m.2 b ∙ sym (rw r at t.3)))
          (λ (k : t.0 < s.dur.p).
          let y = G.choose t.0 s.dur.p s.dur.d k m.0 (committed-may n g G t.0 s.dur.d t.2) in
          let b : s.dur.d ≤ length h = omega (arith, y.0, m.1) in
          (b, pre-take h (g.log s.dur.p) s.dur.d m.2 b ∙ sym y.1 ∙ sym t.3))
          (le-or-lt s.dur.p t.0)

  -- the election: what was committed below begins the candidate
  pub candidate-keeps : (st : s.stage ≡ L2) (a : ℕ) (h : Hist) (r : ℕ) → Report g s.dur.p r a h → Most n (Below g s.dur.p a h) → Keeps s.dur h
  candidate-keeps st a h r rep b = ⊎_elim
      (λ (k : s.dur.d ≤ 0). let q : s.dur.d ≡ 0 = omega arith in rw q (omega arith, refl))
      (λ (k : 0 < s.dur.d).
      let t = C.dur.del.safe k in
      let y = chosen n g G s.dur.p a h r rep b t.0 s.dur.d (omega (arith, t.1, (C.l2 st).young)) (committed-may n g G t.0 s.dur.d t.2) in
      (y.0, sym y.1 ∙ sym t.3))
      (le-or-lt s.dur.d 0)

-- ---- trees that never tell UNDO

-- UNDO is told nowhere, by the tests on the way
abbrev pub Spares : Tree → Type 0
Spares (need b r t) = (b ≡ false → r ≢ UNDO) × (b ≡ true → Spares t)
Spares (fork b x y) = (b ≡ true → Spares x) × (b ≡ false → Spares y)
Spares (deny r) = r ≢ UNDO
Spares (took b s out) = Unit {0}

-- so it is not the answer
pub run-spares : (t : Tree) → Spares t → run t ≢ refused UNDO
unfolding run
run-spares (need true r t) c q = run-spares t (c.1 refl) q
run-spares (need false r t) c q = c.0 refl cc
run-spares (fork true x y) c q = run-spares x (c.0 refl) q
run-spares (fork false x y) c q = run-spares y (c.1 refl) q
run-spares (deny r) c q = c cc
run-spares (took b s out) c q = let w : ◌≡◌ {A = ℕ} 0 1 = cc in absurd (omega arith)

-- a tree in which UNDO does not stand, by computation
unfoldable pub plain : Tree → Bool
plain (need b r t) = both (not (eqb r UNDO)) (plain t)
plain (fork b x y) = both (plain x) (plain y)
plain (deny r) = not (eqb r UNDO)
plain (took b s out) = true

differs : (r : ℕ) → not (eqb r UNDO) ≡ true → r ≢ UNDO
differs r e = let f = not_is (eqb r UNDO) e in omega tests

-- it is told nowhere
pub plain-spares : (t : Tree) → plain t ≡ true → Spares t
unfolding plain
plain-spares (need b r t) e = let w = both_true (not (eqb r UNDO)) (plain t) e in (λ _. differs r w.0, λ _. plain-spares t w.1)
plain-spares (fork b x y) e = let w = both_true (plain x) (plain y) e in (λ _. plain-spares x w.0, λ _. plain-spares y w.1)
plain-spares (deny r) e = differs r e
plain-spares (took b s out) e = tt

-- where the test cannot fail
keeps-spares : (u : Dur) (h : Hist) (t : Tree) → Keeps u h → Spares t → Spares (keeps u h t)
unfolding keeps
keeps-spares u h t k w =
    let y : leb u.d (length h) ≡ true = omega (passes, k.0) in (
      λ f. clash y f,
      λ _. (λ f. clash (rw k.1 (hist-same (take u.d u.hist))) f, λ _. w),
    )

-- past the table's tests
gate-spares : (k stage : ℕ) (who : Bool) (t : Tree) → (cell k stage ≡ TAKEN → Spares t) → Spares (gate k stage who t)
unfolding gate
gate-spares k stage who t f = (λ _. omega arith, λ _. (λ _. omega arith, λ _. (λ _. omega arith, λ e. f (eqb-true (cell k stage) TAKEN e))))

-- ---- the steps

module _ (z : Sizes) (g : Ghost) (G : Good z.n g) (i : ℕ) (s : Server) (C : SrvOk z.n g i s) where
  newleader-spares : (f e : ℕ) (h : Hist) → (F2 ≤ s.stage) × (s.stage ≤ F2) → MsgOk z.n g f i (newleader e h) → (s.stage ≤ F2 → Lands g i (newleader e h)) → Spares (on_newleader f e h s)
  unfolding on_newleader
  newleader-spares f e h st m l = (
    λ _. omega arith,
    λ ep.
        let q : e ≡ s.dur.p = omega tests in
        keeps-spares s.dur h _ (newleader-keeps z.n g G i s C f h (rw q at m) (rw q at (l (omega arith)))) tt,
  )

  l2-count-spares : (q : Set) (a : ℕ) (h : Hist) (st : s.stage ≡ L2) (r : ℕ) → Report g s.dur.p r a h
      → ((t : ℕ) → q t ≡ true → (g.vote s.dur.p t ≡ suc i) × Below g s.dur.p a h t) → Spares (l2_count z i q a h s)
  unfolding l2_count
  l2-count-spares q a h st r rep each = (
    λ qu. keeps-spares s.dur h _ (candidate-keeps z.n g G i s C st a h r rep (record { who = q; quo = qu; each = λ t k. (each t k).1 })) tt,
    λ _. tt,
  )

  acke-spares : (f e a : ℕ) (h : Hist) → (L2 ≤ s.stage) × (s.stage ≤ L4) → MsgOk z.n g f i (acke e a h) → Spares (on_acke z i f e a h s)
  unfolding on_acke
  acke-spares f e a h w m = (
    λ _. omega arith,
    λ _. (
      λ _. omega arith,
      λ ep.
          let q : e ≡ s.dur.p = omega tests in
          let m' : MsgOk z.n g f i (acke s.dur.p a h) = rw q at m in (
            λ st₀.
                let st : s.stage ≡ L2 = omega tests in (
                  λ be. l2-count-spares (upd s.vol.acked f true) a h st f m'.1 (counted-won z g G i s C st f a h m' be),
                  λ nb. l2-count-spares (upd s.vol.acked f true) s.vol.cand_epoch s.vol.cand_hist st (C.l2 st).from (C.l2 st).cand (counted-lost z g G i s C st f a h m' nb),
                ),
            λ _. tt,
          ),
    ),
  )

  receive-spares : (f : ℕ) (m : Msg) → MsgOk z.n g f i m → (s.stage ≤ F2 → Lands g i m) → Spares (receive z i f m s)
  unfolding receive plain gate on_cepoch l1_join l2_join l34_join on_newepoch on_ackld l3_sync l4_advance on_commit on_propose on_ack both
  receive-spares f (cepoch e) c l = plain-spares (gate 1 s.stage true (on_cepoch z i f e s)) refl
  receive-spares f (newepoch e) c l = plain-spares (gate 2 s.stage (mine f s) (on_newepoch f e s)) refl
  receive-spares f (acke e a h) c l = gate-spares 3 s.stage (s.vol.joined f) (on_acke z i f e a h s) (λ k. acke-spares f e a h (acke-in s.stage k) c)
  receive-spares f (newleader e h) c l = gate-spares 4 s.stage (mine f s) (on_newleader f e h s) (λ k. newleader-spares f e h (newleader-in s.stage k) c l)
  receive-spares f (ackld e b) c l = plain-spares (gate 5 s.stage (s.vol.joined f) (on_ackld z i f e b s)) refl
  receive-spares f (commitld e b) c l = plain-spares (gate 6 s.stage (mine f s) (on_commit e b s)) refl
  receive-spares f (propose e b t) c l = plain-spares (gate 7 s.stage (mine f s) (on_propose z f e b t s)) refl
  receive-spares f (ack e b) c l = plain-spares (gate 8 s.stage (s.vol.joined f) (on_ack z i f e b s)) refl
  receive-spares f (commit e b) c l = plain-spares (gate 9 s.stage (mine f s) (on_commit e b s)) refl
  receive-spares f junk c l = omega arith

  -- no step tells it
  pub step-spares : (e : Input) → InputOk z.n g i s e → Spares (step z i e s)
  unfolding step plain on_oracle on_restart on_submit both
  step-spares (oracle x) c = plain-spares (on_oracle z i x s) refl
  step-spares restart c = tt
  step-spares (message f m) c = (λ _. omega arith, λ _. (λ _. omega arith, λ _. (λ _. omega arith, λ _. receive-spares f m c.0 c.1)))
  step-spares (submit v) c = plain-spares (on_submit z i v s) refl

-- ---- events

-- an outcome is not UNDO
abbrev pub NotUndo : Outcome → Type 0
NotUndo (told k c) = k ≢ UNDO
NotUndo (done i s s' asked c) = Unit {0}

module _ (z : Sizes) (depth : ℕ) (c : Cluster) (I : Inv z.n c) where
  answer-spares : (i : ℕ) (asked : Bool) (rest : Channels) (r : Res) → r ≢ refused UNDO → NotUndo (answer z depth c i asked rest r)
  unfolding answer
  answer-spares i asked rest (refused k) w = λ q. w (ap refused q)
  answer-spares i asked rest (taken empties s' out) w = pick_at NotUndo (roomy z.n depth i (post i out (pick empties (emptied i rest) rest)))
      (done i (c.srv i) s' asked (record { srv = upd c.srv i s'; chan = post i out (pick empties (emptied i rest) rest) })) (told ROOM c) (λ _. tt) (λ _. omega arith)

  at_spares : (i : ℕ) (rest : Channels) (e : Input) → InputOk z.n I.g i (c.srv i) e → NotUndo (at z depth c i (asks e) rest e)
  unfolding at
  at_spares i rest e w = pick_at NotUndo (ltb i z.n) (answer z depth c i (asks e) rest (run (step z i e (c.srv i)))) (told EVENT c)
      (λ _. answer-spares i (asks e) rest (run (step z i e (c.srv i))) (run-spares (step z i e (c.srv i)) (step-spares z I.g I.good i (c.srv i) (I.srv i) e w)))
      (λ _. omega arith)

  hand-spares : (f t : ℕ) (l : List Msg) → All (Way z.n I.g c.srv f t) l → NotUndo (hand z depth c f t l)
  unfolding hand
  hand-spares f t [] a = omega arith
  hand-spares f t (m ∷ q) a = at_spares t (upd₂ c.chan f t q) (message f m) a.0

  -- no event tells it
  pub event-spares : (e : Event) → NotUndo (event z depth c e)
  unfolding event
  event-spares (O s x) = at_spares s c.chan (oracle x) tt
  event-spares (R s) = at_spares s c.chan restart tt
  event-spares (D f t) = hand-spares f t (c.chan f t) (I.chan f t)
  event-spares (S s v) = at_spares s c.chan (submit v) tt

  -- from any cluster that keeps the invariant
  pub inv-never-undo : (e : Event) (c' : Cluster) → event z depth c e ≢ told UNDO c'
  inv-never-undo e c' q = (rw q at (event-spares e)) refl

-- NEVER UNDO. After any events, from fresh servers, no event is told UNDO.
pub never-undo : (z : Sizes) (depth : ℕ) (es : List Event) (e : Event) (c : Cluster) → event z depth (play z depth start es) e ≢ told UNDO c
never-undo z depth es e c = inv-never-undo z depth (play z depth start es) (runs-ok z depth es) e c
