-- A submission as a whole: each delivery, how it begins, how it ends.
use Prim.Native.Nat.{ℕ, suc, ◌+◌, ◌-◌, ◌*◌, ◌≤◌, ◌<◌, max}
use native.Mathlib.Omega.{arith}
use mathlib.Core.Path.{◌≡◌, refl, sym, ap, ◌∙◌, fun_ext}
use mathlib.Core.Logic.{◌≢◌, ◌⊎◌, inl, inr}
use mathlib.Core.Bool.{Bool, true, false, not, true≢false}
use mathlib.Core.List.{List, [], ◌∷◌, ◌++◌, append-nil}
use lib.Dec.{eqb, leb, ltb}
use lib.ListN.{length, length-append}
use borrow.Author.Tests.{eq-eqb, ne_eqb}
use Rattle.base.specs.Choice.{pick, both, either, upd}
use Rattle.base.specs.Quorum.{Set, nobody, quorum, size}
use Rattle.base.specs.Transaction.{Hist, LAST, ident, last_id, next_counter}
use Rattle.base.specs.declared.Txn.{Txn}
use Rattle.base.specs.declared.Sizes.{Sizes}
use Rattle.base.proofs.Choice.{passes, clash, eq-or, upd-at, upd_same, upd_other, both-no, either_left, either-right, both_right}
use Rattle.base.proofs.Quorum.{quorum-alone}
use Rattle.rules.specs.Message.{Msg, propose, ack, commit, formed}
use Rattle.rules.specs.Server.{Server, F4, L4}
use Rattle.rules.specs.Table.{cell, table}
use Rattle.rules.specs.Tree.{taken, to_all}
use Rattle.rules.specs.Step.{step, submit, receive, on_propose, on_commit, on_ack, on_submit, l4_advance, advanced, advance, holders}
use Rattle.rules.specs.Cluster.{Cluster, Event, D, S, post, event, done, after, is_done}
use Rattle.calm.specs.Calm.{Crew, Lively, full, Ready, Established, Round, submitted-entry}
use Rattle.calm.proofs.Laws.{over, sole, pick-nil, over-upd, over-same, over-over, Runs, pass, leaf, gated, each, to_set, post-at}
use Rattle.calm.proofs.Effect.{next, submitted}
use Rattle.calm.proofs.Engine.{Scene, Sys, total, Calm, Step, Kept, cell-to, cell-from, to-follower, reply, announce, want-short}
use Rattle.calm.proofs.Play.{Sure, Plays, none, all-counted, nothing, exists}
use Rattle.calm.proofs.Spread.{spread, spread_at, total-spread}
use Rattle.calm.proofs.Rounds.{scene, kept, round, established}
use Rattle.calm.proofs.Entry.{Pt, out, me, u0, u1, u2, v0, v1, v2, v3, v4, left, is_me, is_in, holds, rests, num, back, fwd, old, mid, new, now, lead, awake, me-idle, last, last-now, last-num, last-rests, rest1, rest2, holders-at, r12, num12}
use Rattle.calm.proofs.Entry

pub longer : (h : Hist) (t : Txn) → length (h ++ (t ∷ [])) ≡ length h + 1
longer h t = length-append h (t ∷ [])

module _ (w : Scene) (e : ℕ) (h : Hist) (t : Txn) (init : ℕ → Server) (Safe : Cluster → Type 0) (sure : Sure w.z w.depth Safe)
    (room : length h < w.z.room.0) (next-id : t.id.0 ≡ ident e (next_counter e (last_id h))) where
  open w use {z, depth, x, q, crew}

  abbrev Y : Sys
  Y = Entry.submission z.n x q e h t init

  abbrev Goal : (k : Bool) → Cluster → (ℕ → Pt k) → ℕ → ℕ → Type 0
  Goal k c l f i = Step w Y (event z depth c (D f i)) (total Y {k = k} z.n l)

  abbrev place : ℕ
  place = length h + 1

  mine : eqb (x + 1) (x + 1) ≡ true
  mine = eq-eqb (x + 1) (x + 1) refl

  same : eqb e e ≡ true
  same = eq-eqb e e refl

  there : leb place (length (h ++ (t ∷ []))) ≡ true
  there = rw (longer h t) (omega passes)

  mx : max (length h) place ≡ place
  mx = omega arith

  -- ---- a follower

  takes-propose : (f : ℕ) → Runs (receive z f x (propose e place t) (old x e h t)) (taken false (mid x e h t) (each x (ack e place ∷ [])))
  unfolding receive cell table on_propose each
  takes-propose f =
      let at : eqb place (length h + 1) ≡ true = omega passes in
      let id : eqb t.id.0 (ident e (next_counter e (last_id h))) ≡ true = omega (passes, next-id) in
      let fits : ltb (length h) z.room.0 ≡ true = omega passes in
      gated 7 F4 refl mine (pass same (pass at (pass id (pass fits (leaf refl)))))

  takes-commit : (f : ℕ) → Runs (receive z f x (commit e place) (mid x e h t)) (taken false (new x e h t) (each x []))
  unfolding receive cell table on_commit each
  takes-commit f = gated 9 F4 refl mine (pass same (pass there (leaf (rw mx))))

  module _ {k : Bool} (c : Cluster) (l : ℕ → Pt k) (calm : Calm w Y {k = k} c tt l) (safe : Safe c) (f : ℕ) (hf : q f ≡ true) (ne : f ≢ x) where
    takes : (p p' : Pt k) → l f ≡ p → is_me p' ≡ false → is_in p' ≡ true → left p ≡ suc (left p') → holds p' ≡ holds p → num (length h) p' ≡ num (length h) p
        → (m : Msg) (r : List Msg) → fwd x e h t p ≡ m ∷ fwd x e h t p' → back x e h t p' ≡ back x e h t p ++ r
        → Runs (receive z f x m (now x e h t (init f) p)) (taken false (now x e h t (init f) p') (each x r)) → Goal k c l x f
    takes p p' here mi inn less ho nu m r hd bk e' =
        to-follower w Y {k = k} c tt l calm f hf ne p' m r (rw here bk)
        (sure.proper c safe x f m (fwd x e h t p') (crew.inside x crew.mine) (crew.inside f hf) (cell-to w Y {k = k} c tt l calm f hf ne ∙ rw here hd))
        (rw here e') (rw here hd) mi inn (like k l p' (rw here nu)) (rw (over-same holds l f p' (rw here ho)) calm.short) (rw here less) tt
      where
        like : (k : Bool) (l : ℕ → Pt k) (p' : Pt k) → num (length h) p' ≡ num (length h) (l f) → lead x e h t q k (upd l f p') ≡ lead x e h t q k l
        like false l p' y = rw (over-same (num (length h)) l f p' y)
        like true l p' y = rw (over-same (num (length h)) l f p' y)

    -- ---- the leader
    good : (m : Msg) (r : List Msg) → back x e h t (l f) ≡ m ∷ r → formed z m ≡ true
    good m r hd = sure.proper c safe f x m r (crew.inside f hf) (crew.inside x crew.mine) (cell-from w Y {k = k} c tt l calm f hf ne ∙ hd)

    -- the leader's count of f
    raised : (p' : Pt k) → num (length h) p' ≡ place → num (length h) (l f) ≡ length h
        → over (num (length h)) (upd l f p') ≡ upd (over (num (length h)) l) f (max (over (num (length h)) l f) place)
    unfolding over
    raised p' n' n₀ = over-upd (num (length h)) l f p' ∙ rw (n₀, n', mx)

    -- who holds the transaction
    held_by : (p' : Pt k) → is_me p' ≡ false → holders x (over (num (length h)) (upd l f p')) place ≡ over holds (upd l f p')
    unfolding over
    held_by p' mi = fun_ext (λ i. ap (λ (b : Bool). either b (leb place (num (length h) (upd l f p' i))))
        (sym (upd-at (λ (p : Pt k). is_me p ≡ eqb i x) l f p' i (λ y. rw (y, ne_eqb f x ne) mi) (λ _. calm.own i))) ∙ holders-at (length h) (upd l f p' i))

  give1 : (c : Cluster) (l : ℕ → Pt false) → Calm w Y {k = false} c tt l → Safe c → (f : ℕ) → q f ≡ true → f ≢ x → l f ≡ u1 → Goal false c l f x
  unfolding receive cell table on_ack l4_advance advanced advance each pick both
  give1 c l calm safe f hf ne here = go (quorum z.n (over holds (upd l f u2))) refl
    where
      ra : over (num (length h)) (upd l f u2) ≡ upd (over (num (length h)) l) f (max (over (num (length h)) l f) place)
      ra = raised {k = false} c l calm safe f hf ne u2 refl (rw here refl)

      hb : holders x (over (num (length h)) (upd l f u2)) place ≡ over holds (upd l f u2)
      hb = held_by {k = false} c l calm safe f hf ne u2 refl

      by : length (h ++ (t ∷ [])) - length h ≡ 1
      by = omega (arith, longer h t)

      nl : ltb (length h) (length h) ≡ false
      nl = omega passes

      lt : ltb (length h) place ≡ true
      lt = omega passes

      raise : over (num (length h)) (over r12 (upd l f u2)) ≡ over (num (length h)) (upd l f u2)
      raise = over-over (num (length h)) r12 (num (length h)) (num12 (length h)) (upd l f u2)

      ins : over is_in (upd l f u2) ≡ q
      ins = (unfold over in fun_ext (λ i. upd-at (λ (p : Pt false). is_in p ≡ q i) l f u2 i (λ v. rw (v, hf)) (λ _. calm.ins i)))

      go : (u : Bool) → quorum z.n (over holds (upd l f u2)) ≡ u → Goal false c l f x
      go false y = reply w Y {k = false} c tt l calm f hf ne u1 u2 here refl refl refl refl tt (ack e place) (good {k = false} c l calm safe f hf ne (ack e place) [] (rw here refl)) refl tt
          (λ p. record { is_me' = refl; is_in' = refl; left' = refl; back' = λ i. refl; now' = λ i. refl; fact' = λ i g. g }) (λ p. refl) [] refl
          (gated 8 L4 refl hf (pass same (pass there (leaf (rw (← ra, by, hb, y, nl)))))) y
      go true y = announce w Y {k = false} c tt l calm f hf ne u1 u2 here refl refl refl refl tt (ack e place) (good {k = false} c l calm safe f hf ne (ack e place) [] (rw here refl)) refl
          {j = true} tt r12 kept12 is_in (commit e place) sends12 (λ p y. y) refl
          (gated 8 L4 refl hf (pass same (pass there (leaf (rw (← ra, by, hb, y, lt, raise, ins, append-nil (to_all z.n x q (commit e place)))))))) refl
        where
          kept12 : (p : Pt false) → Kept w Y {k = false} {j = true} tt tt p (r12 p)
          kept12 out = record { is_me' = refl; is_in' = refl; left' = refl; back' = λ i. refl; now' = λ i. refl; fact' = λ i g. g }
          kept12 me = record { is_me' = refl; is_in' = refl; left' = refl; back' = λ i. refl; now' = λ i. refl; fact' = λ i g. g }
          kept12 u0 = record { is_me' = refl; is_in' = refl; left' = refl; back' = λ i. refl; now' = λ i. refl; fact' = λ i g. g }
          kept12 u1 = record { is_me' = refl; is_in' = refl; left' = refl; back' = λ i. refl; now' = λ i. refl; fact' = λ i g. g }
          kept12 u2 = record { is_me' = refl; is_in' = refl; left' = refl; back' = λ i. refl; now' = λ i. refl; fact' = λ i g. g }

          sends12 : (p : Pt false) → is_me p ≡ false → fwd x e h t (r12 p) ≡ fwd x e h t p ++ pick (is_in p) (commit e place ∷ []) []
          sends12 out m = refl
          sends12 me m = absurd (true≢false m)
          sends12 u0 m = refl
          sends12 u1 m = refl
          sends12 u2 m = refl

  give2 : (c : Cluster) (l : ℕ → Pt true) → Calm w Y {k = true} c tt l → Safe c → (f : ℕ) → q f ≡ true → f ≢ x → (p p' : Pt true) → l f ≡ p
      → is_me p' ≡ false → is_in p' ≡ true → left p ≡ suc (left p') → ((s : Server) → now x e h t s p' ≡ now x e h t s p)
      → back x e h t p ≡ ack e place ∷ back x e h t p' → fwd x e h t p' ≡ fwd x e h t p → num (length h) p' ≡ place → num (length h) p ≡ length h → Goal true c l f x
  unfolding receive cell table on_ack l4_advance advanced advance each pick both
  give2 c l calm safe f hf ne p p' here mi inn less nw bk fw n' n₀ =
      reply w Y {k = true} c tt l calm f hf ne p p' here mi inn less (nw (init f)) tt (ack e place) (good {k = true} c l calm safe f hf ne (ack e place) (back x e h t p') (rw here bk)) bk tt
      (λ p. record { is_me' = refl; is_in' = refl; left' = refl; back' = λ i. refl; now' = λ i. refl; fact' = λ i g. g }) (λ p. refl) [] (fw ∙ sym (append-nil _)) rc refl
    where
      by : length (h ++ (t ∷ [])) - place ≡ 0
      by = omega (arith, longer h t)

      nl : ltb place place ≡ false
      nl = omega passes

      rc : Runs (receive z x f (ack e place) (lead x e h t q true l)) (taken false (lead x e h t q true (upd l f p')) (each f []))
      rc = rw (raised {k = true} c l calm safe f hf ne p' n' (rw here n₀)) (gated 8 L4 refl hf (pass same (pass there (leaf (rw (by, nl))))))

  take : {k : Bool} (c : Cluster) (l : ℕ → Pt k) → Calm w Y {k = k} c tt l → Safe c → (f : ℕ) → q f ≡ true → f ≢ x → (p : Pt k) → l f ≡ p → fwd x e h t p ≢ [] → Goal k c l x f
  take c l calm safe f hf ne out here non = absurd (non refl)
  take c l calm safe f hf ne me here non = absurd (non refl)
  take c l calm safe f hf ne u0 here non = takes {k = false} c l calm safe f hf ne u0 u1 here refl refl refl refl refl (propose e place t) (ack e place ∷ []) refl refl (takes-propose f)
  take c l calm safe f hf ne u1 here non = absurd (non refl)
  take c l calm safe f hf ne u2 here non = absurd (non refl)
  take c l calm safe f hf ne v0 here non = takes {k = true} c l calm safe f hf ne v0 v1 here refl refl refl refl refl (propose e place t) (ack e place ∷ []) refl refl (takes-propose f)
  take c l calm safe f hf ne v1 here non = takes {k = true} c l calm safe f hf ne v1 v3 here refl refl refl refl refl (commit e place) [] refl refl (takes-commit f)
  take c l calm safe f hf ne v2 here non = takes {k = true} c l calm safe f hf ne v2 v4 here refl refl refl refl refl (commit e place) [] refl refl (takes-commit f)
  take c l calm safe f hf ne v3 here non = absurd (non refl)
  take c l calm safe f hf ne v4 here non = absurd (non refl)

  give : {k : Bool} (c : Cluster) (l : ℕ → Pt k) → Calm w Y {k = k} c tt l → Safe c → (f : ℕ) → q f ≡ true → f ≢ x → (p : Pt k) → l f ≡ p → back x e h t p ≢ [] → Goal k c l f x
  unfolding pick both
  give c l calm safe f hf ne out here non = absurd (non refl)
  give c l calm safe f hf ne me here non = absurd (non refl)
  give c l calm safe f hf ne u0 here non = absurd (non refl)
  give c l calm safe f hf ne u1 here non = give1 c l calm safe f hf ne here
  give c l calm safe f hf ne u2 here non = absurd (non refl)
  give c l calm safe f hf ne v0 here non = absurd (non refl)
  give c l calm safe f hf ne v1 here non = give2 c l calm safe f hf ne v1 v2 here refl refl refl (λ s. refl) refl refl refl refl
  give c l calm safe f hf ne v2 here non = absurd (non refl)
  give c l calm safe f hf ne v3 here non = give2 c l calm safe f hf ne v3 v4 here refl refl refl (λ s. refl) refl refl refl refl
  give c l calm safe f hf ne v4 here non = absurd (non refl)

  stalls : (k : Bool) (l : ℕ → Pt k) → both (not k) (quorum z.n (over holds l)) ≡ false → ((i : ℕ) → is_in (l i) ≡ q i) → ((i : ℕ) → i < z.n → rests (l i) ≡ true) → total Y {k = k} z.n l ≡ 0
  unfolding both
  stalls false l sh ins rest = clash (all-counted z.n x q crew is_in rests holds rest1 l ins rest) sh
  stalls true l sh ins rest = nothing Y {k = true} rests rest2 z.n l rest

  pub plays : Plays w Y Safe
  plays = record {
    rests = rests;
    awake = λ st i p. awake x e h t p;
    idle = λ st i p. me-idle x e h t p;
    last = λ st i p. last x e h t p;
    stall = λ {k} st l. stalls k l;
    take = λ {k} c st l calm safe f hf ne non. take {k = k} c l calm safe f hf ne (l f) refl non;
    give = λ {k} c st l calm safe f hf ne non. give {k = k} c l calm safe f hf ne (l f) refl non;
  }

  -- ---- how it ends

  led : (k : Bool) (l : ℕ → Pt k) → both (not k) (quorum z.n (over holds l)) ≡ false → ((i : ℕ) → is_me (l i) ≡ eqb i x) → ((i : ℕ) → is_in (l i) ≡ q i) → ((i : ℕ) → is_in (l i) ≡ true → left (l i) ≡ 0)
      → lead x e h t q k l ≡ record { dur = record { p = e; a = e; d = place; hist = h ++ (t ∷ []) }; stage = L4; orc = x + 1; vol = record { joined = q; acked = nobody; synced = q; largest = 0; cand_epoch = 0; cand_hist = []; counts = full q x place } }
  unfolding over both
  led false l sh own ins fin = clash (all-counted z.n x q crew is_in rests holds rest1 l ins (λ i _. last-rests (l i) (fin i))) sh
  led true l sh own ins fin =
      let ns : over (num (length h)) l ≡ full q x place = fun_ext (λ i. last-num (length h) (l i) (fin i) ∙ rw (ins i, own i)) in
      rw ns

  pub ended : (k : Bool) (c : Cluster) (l : ℕ → Pt k) → Calm w Y {k = k} c tt l → total Y {k = k} z.n l ≡ 0 → ((a b : ℕ) → either (q a) (q b) ≡ true → c.chan a b ≡ [])
      → Ready q x e (h ++ (t ∷ [])) c
  ended k c l calm y nil =
      let fin = none w Y {k = k} c tt l calm y in
      record {
        leads = calm.leads ∙ led k l calm.short calm.own calm.ins fin ∙ rw (longer h t);
        rest = λ i hi ix. let inn : is_in (l i) ≡ true = calm.ins i ∙ hi in calm.rest i ix ∙ last-now x e h t (init i) (l i) inn (calm.own i ∙ ne_eqb i x ix) (fin i inn) ∙ rw (longer h t);
        empty = nil;
      }

-- ---- how it begins

module _ (z : Sizes) (depth x : ℕ) (q : Set) (crew : Crew z.n x q) (two : 2 ≤ z.n) (deep : 2 ≤ depth) (c : Cluster) (e : ℕ) (h : Hist) (ready : Ready q x e h c)
    (v : ℕ) (room : length h < z.room.0) (more : last_id h ≢ ident e LAST) where
  abbrev entry : Txn
  entry = submitted-entry v e h

  abbrev X : Sys
  X = Entry.submission z.n x q e h entry c.srv

  abbrev m : Msg
  m = propose e (length h + 1) entry

  abbrev points : ℕ → Pt false
  points = spread me u0 out x q

  counts : over (num (length h)) points ≡ full q x (length h)
  unfolding over pick both
  counts = fun_ext (λ i. spread_at (λ p. num (length h) p ≡ full q x (length h) i) me u0 out x q i
      (λ y. rw (y, eq-eqb x x refl, both-no (q x) false refl)) (λ y b. rw (b, ne_eqb i x y)) (λ y b. rw b))

  -- the leader after it
  abbrev s : Server
  s = lead x e h entry q false points

  wants : (a b : ℕ) → post x (to_all z.n x q m) c.chan a b ≡ pick (eqb b x) (back x e h entry (points a)) (pick (eqb a x) (fwd x e h entry (points b)) (kept z depth x q crew two deep c a b))
  unfolding pick both either
  wants a b = post-at x (to_all z.n x q m) c.chan a b ∙ rw (to_set z.n x q m b (crew.inside b)) (go (eq-or b x) (eq-or a x))
    where
      go : (b ≡ x) ⊎ (b ≢ x) → (a ≡ x) ⊎ (a ≢ x)
          → c.chan a b ++ pick (eqb a x) (pick (both (q b) (not (eqb b x))) (m ∷ []) []) [] ≡ pick (eqb b x) (back x e h entry (points a)) (pick (eqb a x) (fwd x e h entry (points b)) (kept z depth x q crew two deep c a b))
      go (inl bx) u = rw (bx, ready.empty a x (either-right (q a) (q x) crew.mine), eq-eqb x x refl, both-no (q x) false refl, pick-nil {A = Msg} (eqb a x))
          (spread_at (λ p. [] ≡ back x e h entry p) me u0 out x q a (λ _. refl) (λ _ _. refl) (λ _ _. refl))
      go (inr bx) (inl ax) = rw (ax, ready.empty x b (either_left (q x) (q b) crew.mine), ne_eqb b x bx, eq-eqb x x refl, both_right (q b))
          (spread_at (λ p. pick (q b) (m ∷ []) [] ≡ fwd x e h entry p) me u0 out x q b (λ y. absurd (bx y)) (λ _ y. rw y) (λ _ y. rw y))
      go (inr bx) (inr ax) = rw (ne_eqb b x bx, ne_eqb a x ax) (append-nil (c.chan a b) ∙ stays (either (q a) (q b)) refl)
        where
          stays : (u : Bool) → either (q a) (q b) ≡ u → c.chan a b ≡ pick u [] (c.chan a b)
          stays true y = ready.empty a b y
          stays false y = refl

  begins : event z depth c (S x v) ≡ done x (c.srv x) s true (next z depth c x s (post x (to_all z.n x q m) c.chan))
  unfolding step on_submit
  begins =
      let there : ltb (length h) z.room.0 ≡ true = omega passes in
      let free : not (eqb (last_id h) (ident e LAST)) ≡ true = rw (ne_eqb (last_id h) (ident e LAST) more) in
      let r : Runs (step z x (submit v) (c.srv x)) (taken false s (to_all z.n x q m)) = rw (ready.leads, counts) (pass refl (pass there (pass free (leaf refl)))) in
      submitted z depth c x v s (to_all z.n x q m) (crew.inside x crew.mine) r (λ b. rw (wants x b) (want-short (scene z depth x q crew two deep c) X {k = false} tt points x b crew.mine))

  -- the submission is taken
  pub submit-taken : is_done (event z depth c (S x v)) ≡ true
  unfolding is_done
  submit-taken = rw begins

  begun : Calm (scene z depth x q crew two deep c) X {k = false} (after (event z depth c (S x v))) tt points
  unfolding after both
  begun = rw begins (record {
    own = own;
    ins = λ i. spread_at (λ p. is_in p ≡ q i) me u0 out x q i (λ y. rw y (sym crew.mine)) (λ _ b. sym b) (λ _ b. sym b);
    leads = upd_same c.srv x s;
    rest = λ i ix. upd_other c.srv x s i ix ∙ spread_at (λ p. c.srv i ≡ now x e h entry (c.srv i) p) me u0 out x q i (λ y. absurd (ix y)) (λ _ b. ready.rest i b ix) (λ _ _. refl);
    cells = wants;
    upto = λ i. tt;
    short = rw (sole holds x points (λ i. spread_at (λ p. holds p ≡ eqb i x) me u0 out x q i (λ y. sym (eq-eqb i x y)) (λ y _. sym (ne_eqb i x y)) (λ y _. sym (ne_eqb i x y)))) (quorum-alone z.n x two);
  })
    where
      own : (i : ℕ) → is_me (points i) ≡ eqb i x
      own i = spread_at (λ p. is_me p ≡ eqb i x) me u0 out x q i (λ y. sym (eq-eqb i x y)) (λ y _. sym (ne_eqb i x y)) (λ y _. sym (ne_eqb i x y))

  module _ (Safe : Cluster → Type 0) (sure : Sure z depth Safe) (safe : Safe c) where
    abbrev ws : Scene
    ws = scene z depth x q crew two deep c

    abbrev asked : Cluster
    asked = after (event z depth c (S x v))

    played : Plays ws X Safe
    played = plays ws e h entry c.srv Safe sure room refl

    three : total X {k = false} z.n points ≡ 3 * (size q z.n - 1)
    three = let t = total-spread X {j = false} me u0 out x q 3 refl refl refl crew.mine z.n (crew.inside x crew.mine) in omega (arith, t)

    pub submits : (es : List Event) → Lively z depth q asked es → Round z depth q c asked es (3 * (size q z.n - 1)) (Established q x e (h ++ (entry ∷ [])))
    submits = round z depth x q crew two deep c X (λ k st i p. Entry.out-now x e h entry (c.srv i) p) Safe sure played
        {j = false} asked tt points begun (sure.kept c (S x v) safe) (3 * (size q z.n - 1)) three (Established q x e (h ++ (entry ∷ [])))
        (λ k c' st l cm none nil. established q x e (h ++ (entry ∷ [])) c' (ended ws e h entry c.srv Safe sure room refl k c' l cm none nil))

    pub submits-exists : (es : List Event) × Lively z depth q asked es × (length es ≡ 3 * (size q z.n - 1))
    submits-exists = exists ws X Safe sure played {k = false} (3 * (size q z.n - 1)) asked tt points begun (sure.kept c (S x v) safe) three
