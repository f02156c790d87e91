-- Each delivery of the recovery.
use Prim.Native.Nat.{ℕ, suc, ◌+◌, ◌≤◌, ◌<◌, max}
use native.Mathlib.Nat.{sub_self}
use native.Mathlib.Omega.{arith}
use mathlib.Core.Path.{◌≡◌, refl, sym, ◌∙◌}
use mathlib.Core.Logic.{◌≢◌}
use mathlib.Core.Bool.{Bool, true, false, not, false≢true}
use mathlib.Core.List.{List, [], ◌∷◌, ◌++◌, append-nil}
use lib.Dec.{eqb, leb, ltb}
use lib.ListN.{length}
use borrow.Author.Tests.{eq-eqb}
use Rattle.base.specs.Choice.{pick, both, upd}
use Rattle.base.specs.Quorum.{nobody, just, quorum}
use Rattle.base.specs.Transaction.{Hist, LAST, last_id}
use Rattle.base.specs.Refusals.{UNDO}
use Rattle.base.proofs.Choice.{passes}
use Rattle.base.proofs.Quorum.{quorum-alone}
use Rattle.rules.specs.Message.{Msg, cepoch, newepoch, acke, newleader, ackld, commitld, formed}
use Rattle.rules.specs.Server.{Server, F2, F3, L1, L2, L3, L4, nil}
use Rattle.rules.specs.Table.{cell, table}
use Rattle.rules.specs.Tree.{Tree, took, Res, refused, taken, to_all}
use Rattle.rules.specs.Step.{receive, on_cepoch, l1_join, l2_join, l34_join, on_acke, beats, l2_count, on_ackld, l3_sync, l4_advance, advanced, advance}
use Rattle.rules.specs.Cluster.{Cluster, D, event}
use Rattle.calm.proofs.Laws.{over, over-upd, over-same, over-over, sole, Runs, pass, one, two, leaf, gated, each}
use Rattle.calm.proofs.Effect.{undone}
use Rattle.calm.proofs.Engine.{Scene, Sys, total, Calm, Step, Kept, cell-to, cell-from, to-follower, reply, announce}
use Rattle.calm.proofs.Play.{Sure}
use Rattle.calm.proofs.Points.{K, k1, k2, k3, Pt, out, me, a0, a1, b1, b2, b3, c1, c2, c3, c4, c5, c6, d1, d2, left, is_me, is_in, joins, counts, syncs, late, held, back, fwd, now, in_f, dur_f2, dur_f3, Stage, G1, G2, G3, hist, lead, ripe, Alike, lead-alike, ripe-alike, r12, r23, r34, fresh, recovery}
use Rattle.calm.proofs.Raises.{kept12, sends12, kept23, sends23, kept34, sends34, j12, c12, j23, s23, h23, j34, s34, h34, joins-in, syncs-in}
use Rattle.calm.proofs.Answers.{kept-or, takes-newepoch, accepts, takes-newleader, takes-commitld}

module _ (w : Scene) (init : ℕ → Server) (Safe : Cluster → Type 0) (sure : Sure w.z w.depth Safe) where
  open w use {z, depth, x, q, crew, deep}

  abbrev Y : Sys
  Y = recovery z.n x init

  abbrev e : ℕ
  e = fresh x init

  abbrev Goal : {k : K} → Cluster → (ℕ → Pt k) → ℕ → ℕ → Type 0
  Goal c l f t = Step w Y (event z depth c (D f t)) (total Y z.n l)

  module _ {k : K} (c : Cluster) (st : Stage k) (l : ℕ → Pt k) (calm : Calm w Y c st l) (safe : Safe c) (f : ℕ) (hf : q f ≡ true) (ne : f ≢ x) where
    good-to : (m : Msg) (r : List Msg) → fwd e (hist st) (l f) ≡ m ∷ r → formed z m ≡ true
    good-to m r hd = sure.proper c safe x f m r (crew.inside x crew.mine) (crew.inside f hf) (cell-to w Y c st l calm f hf ne ∙ hd)

    good-from : (m : Msg) (r : List Msg) → back e (hist st) (init f) (l f) ≡ m ∷ r → formed z m ≡ true
    good-from m r hd = sure.proper c safe f x m r (crew.inside f hf) (crew.inside x crew.mine) (cell-from w Y c st l calm f hf ne ∙ hd)

    -- ---- to a follower, that the leader does not tell from what it was
    module _ (p p' : Pt k) (here : l f ≡ p) (like : Alike p p') (mine : is_me p' ≡ false) (inn : is_in p' ≡ true) (less : left p ≡ suc (left p')) where
      takes : (m : Msg) (r : List Msg) → fwd e (hist st) p ≡ m ∷ fwd e (hist st) p' → back e (hist st) (init f) p' ≡ back e (hist st) (init f) p ++ r
          → Runs (receive z f x m (now x e (hist st) (init f) p)) (taken false (now x e (hist st) (init f) p') (each x r))
          → (late p' ≡ true → (init f).dur.d ≤ length (hist st))
          → Goal c l x f
      takes m r hd bk e' up =
          to-follower w Y c st l calm f hf ne p' m r (rw here bk) (good-to m (fwd e (hist st) p') (rw here hd)) (rw here e')
          (rw here hd) mine inn (lead-alike x e (init x) st l f p' (rw here like)) (ripe-alike k z.n l f p' (rw here like) ∙ calm.short) (rw here less) up

      take-newleader : fwd e (hist st) p ≡ newleader e (hist st) ∷ fwd e (hist st) p'
          → back e (hist st) (init f) p' ≡ back e (hist st) (init f) p ++ (ackld e (length (hist st)) ∷ [])
          → now x e (hist st) (init f) p ≡ in_f x F2 (dur_f2 e (init f)) → now x e (hist st) (init f) p' ≡ in_f x F3 (dur_f3 e (hist st) (init f))
          → Goal c l x f
      take-newleader hd bk n2 n3 =
          let m = newleader e (hist st) in
          kept-or (dur_f2 e (init f)) (hist st) (accepts z x e f (init f) (hist st)) (leaf refl)
          (λ r le. takes m (ackld e (length (hist st)) ∷ []) hd bk (rw (n2, n3) (takes-newleader z x e f (init f) (hist st) r)) (λ _. le))
          (λ r.
          let told : Runs (receive z f x m (c.srv f)) (refused UNDO) = rw (calm.rest f ne, here, n2) (takes-newleader z x e f (init f) (hist st) r) in
          let u = undone z depth c x f (crew.inside x crew.mine) (crew.inside f hf) (λ y. ne (sym y)) m (fwd e (hist st) p')
          (cell-to w Y c st l calm f hf ne ∙ rw here hd) (good-to m (fwd e (hist st) p') (rw here hd)) told in
          absurd (sure.never c safe x f u.0 u.1))

  -- what waits for a follower is taken
  pub follow : {k : K} (c : Cluster) (st : Stage k) (l : ℕ → Pt k) (calm : Calm w Y c st l) (safe : Safe c) (f : ℕ) (hf : q f ≡ true) (ne : f ≢ x)
      → (init f).dur.p < e → (p : Pt k) → l f ≡ p → fwd e (hist st) p ≢ [] → Goal c l x f
  follow c st l calm safe f hf ne lt out here non = absurd (non refl)
  follow c st l calm safe f hf ne lt me here non = absurd (non refl)
  follow c st l calm safe f hf ne lt a0 here non = absurd (non refl)
  follow c st l calm safe f hf ne lt a1 here non = absurd (non refl)
  follow c st l calm safe f hf ne lt b1 here non = takes c st l calm safe f hf ne b1 b2 here (refl, refl, refl, λ _. refl) refl refl refl (newepoch e) (acke e (init f).dur.a (init f).dur.hist ∷ []) refl refl (takes-newepoch z x e f (init f) lt) (λ y. absurd (false≢true y))
  follow c st l calm safe f hf ne lt b2 here non = absurd (non refl)
  follow c st l calm safe f hf ne lt b3 here non = absurd (non refl)
  follow c st l calm safe f hf ne lt c1 here non = takes c st l calm safe f hf ne c1 c2 here (refl, refl, refl, λ _. refl) refl refl refl (newepoch e) (acke e (init f).dur.a (init f).dur.hist ∷ []) refl refl (takes-newepoch z x e f (init f) lt) (λ y. absurd (false≢true y))
  follow c st l calm safe f hf ne lt c2 here non = take-newleader c st l calm safe f hf ne c2 c4 here (refl, refl, refl, λ _. refl) refl refl refl refl refl refl refl
  follow c st l calm safe f hf ne lt c3 here non = take-newleader c st l calm safe f hf ne c3 c5 here (refl, refl, refl, λ _. refl) refl refl refl refl refl refl refl
  follow c st l calm safe f hf ne lt c4 here non = absurd (non refl)
  follow c st l calm safe f hf ne lt c5 here non = absurd (non refl)
  follow c st l calm safe f hf ne lt c6 here non = absurd (non refl)
  follow c st l calm safe f hf ne lt d1 here non =
      let up : (init f).dur.d ≤ length (hist st) = calm.upto f (rw here refl) in
      takes c st l calm safe f hf ne d1 d2 here (refl, refl, refl, λ _. refl) refl refl refl (commitld e (length (hist st))) [] refl refl (takes-commitld z x e f (init f) (hist st) up) (λ _. up)
  follow c st l calm safe f hf ne lt d2 here non = absurd (non refl)

  -- ---- to the leader: it answers f alone; or goes on, and tells all of a set
  module _ {k : K} (c : Cluster) (st : Stage k) (l : ℕ → Pt k) (calm : Calm w Y c st l) (safe : Safe c) (f : ℕ) (hf : q f ≡ true) (ne : f ≢ x)
      (p p' : Pt k) (here : l f ≡ p) (mine : is_me p' ≡ false) (inn : is_in p' ≡ true) (less : left p ≡ suc (left p'))
      (nw : (s : Server) → now x e (hist st) s p' ≡ now x e (hist st) s p) (lp : late p' ≡ late p)
      (m : Msg) (bk : back e (hist st) (init f) p ≡ m ∷ back e (hist st) (init f) p') where
    good : formed z m ≡ true
    good = good-from c st l calm safe f hf ne m (back e (hist st) (init f) p') (rw here bk)

    up : late p' ≡ true → (init f).dur.d ≤ length (hist st)
    up y = calm.upto f (rw here (sym lp ∙ y))

    answers : (st' : Stage k) → hist st' ≡ hist st → (r : List Msg)
        → fwd e (hist st) p' ≡ fwd e (hist st) p ++ r
        → Runs (receive z x f m (lead x e (init x) st l)) (taken false (lead x e (init x) st' (upd l f p')) (each f r))
        → ripe k z.n (upd l f p') ≡ false
        → Goal c l f x
    answers st' same = reply w Y c st l calm f hf ne p p' here mine inn less (nw (init f)) up m good bk st'
        (λ p. record { is_me' = refl; is_in' = refl; left' = refl; back' = λ s. rw same refl; now' = λ s. rw same refl; fact' = λ d g y. rw same (g y) }) (λ p. rw same refl)

    announces : {j : K} (st' : Stage j) (r : Pt k → Pt j) → ((p : Pt k) → Kept w Y st st' p (r p)) → (g : Pt k → Bool) (m₂ : Msg)
        → ((p : Pt k) → is_me p ≡ false → fwd e (hist st') (r p) ≡ fwd e (hist st) p ++ pick (g p) (m₂ ∷ []) [])
        → ((p : Pt k) → g p ≡ true → is_in p ≡ true)
        → fwd e (hist st) p' ≡ fwd e (hist st) p
        → Runs (receive z x f m (lead x e (init x) st l)) (taken false (lead x e (init x) st' (over r (upd l f p'))) (to_all z.n x (over g (upd l f p')) m₂))
        → ripe j z.n (over r (upd l f p')) ≡ false
        → Goal c l f x
    announces st' r kept = announce w Y c st l calm f hf ne p p' here mine inn less (nw (init f)) up m good bk st' r kept

  alone : (i : ℕ) → quorum z.n (just i) ≡ false
  alone i = quorum-alone z.n i w.two

  -- ---- CEPOCH

  module _ (low : (init x).dur.p < LAST) (f : ℕ) (hf : q f ≡ true) (ne : f ≢ x) (top : (init f).dur.p ≤ (init x).dur.p) where
    m1 : Msg
    m1 = cepoch (init f).dur.p

    -- in L1
    join1 : (c : Cluster) (l : ℕ → Pt k1) → Calm w Y c G1 l → Safe c → l f ≡ a0 → Goal c l f x
    unfolding m1 receive cell table on_cepoch l1_join each
    join1 c l calm safe here = go (quorum z.n (upd (over joins l) f true)) refl
      where
        mx : max (init x).dur.p (init f).dur.p ≡ (init x).dur.p
        mx = omega arith

        js : over joins (upd l f a1) ≡ upd (over joins l) f true
        js = over-upd joins l f a1

        j2 : over joins (over r12 (upd l f a1)) ≡ upd (over joins l) f true
        j2 = over-over joins r12 joins j12 (upd l f a1) ∙ js

        n2 : over counts (over r12 (upd l f a1)) ≡ just x
        n2 = over-over counts r12 is_me c12 (upd l f a1) ∙ over-same is_me l f a1 (rw here refl) ∙ sole is_me x l calm.own

        go : (t : Bool) → quorum z.n (upd (over joins l) f true) ≡ t → Goal c l f x
        go false y = answers c G1 l calm safe f hf ne a0 a1 here refl refl refl (λ _. refl) refl m1 refl G1 refl [] refl
            (gated 1 L1 refl refl (one refl (two y (leaf (rw (mx, js)))))) (rw js y)
        go true y =
            let lt : ltb (max (init x).dur.p (init f).dur.p) LAST ≡ true = rw mx (omega passes) in
            announces c G1 l calm safe f hf ne a0 a1 here refl refl refl (λ _. refl) refl m1 refl (G2 (init x).dur.a (init x).dur.hist) r12
            (kept12 w init (init x).dur.a (init x).dur.hist) joins (newepoch e) (sends12 e) joins-in refl
            (gated 1 L1 refl refl (one refl (one y (pass lt (leaf (rw (mx, js, j2, n2))))))) (rw n2 (alone x))

    le : leb (init f).dur.p e ≡ true
    le = omega passes

    -- in L2
    join2 : (a : ℕ) (h : Hist) (c : Cluster) (l : ℕ → Pt k2) → Calm w Y c (G2 a h) l → Safe c → l f ≡ a0 → Goal c l f x
    unfolding m1 receive cell table on_cepoch l2_join each
    join2 a h c l calm safe here = answers c (G2 a h) l calm safe f hf ne a0 b1 here refl refl refl (λ _. refl) refl m1 refl (G2 a h) refl (newepoch e ∷ []) refl rc (rw ns calm.short)
      where
        ns : over counts (upd l f b1) ≡ over counts l
        ns = over-same counts l f b1 (rw here refl)

        rc : Runs (receive z x f m1 (lead x e (init x) (G2 a h) l)) (taken false (lead x e (init x) (G2 a h) (upd l f b1)) (each f (newepoch e ∷ [])))
        rc = rw (over-upd joins l f b1, ns) (gated 1 L2 refl refl (two refl (one refl (pass le (leaf refl)))))

    -- in L3 and L4
    joined3 : (t : Bool) (h : Hist) (l : ℕ → Pt (k3 t)) → l f ≡ a0
        → Runs (receive z x f m1 (lead x e (init x) (G3 t h) l)) (taken false (lead x e (init x) (G3 t h) (upd l f c1)) (each f (newepoch e ∷ newleader e h ∷ [])))
    unfolding m1 receive cell table on_cepoch l34_join each
    joined3 false h l here = rw (over-upd joins l f c1, over-upd syncs l f c1, over-same (held (length h)) l f c1 (rw here refl)) (gated 1 L3 refl refl (two refl (two refl (pass le (leaf refl)))))
    joined3 true h l here = rw (over-upd joins l f c1, over-upd syncs l f c1, over-same (held (length h)) l f c1 (rw here refl)) (gated 1 L4 refl refl (two refl (two refl (pass le (leaf refl)))))

    join3 : (t : Bool) (h : Hist) (c : Cluster) (l : ℕ → Pt (k3 t)) → Calm w Y c (G3 t h) l → Safe c → l f ≡ a0 → Goal c l f x
    unfolding m1
    join3 t h c l calm safe here = answers c (G3 t h) l calm safe f hf ne a0 c1 here refl refl refl (λ _. refl) refl m1 refl (G3 t h) refl (newepoch e ∷ newleader e h ∷ []) refl
        (joined3 t h l here) (still-shut t l here calm.short)
      where
        still-shut : (t : Bool) (l : ℕ → Pt (k3 t)) → l f ≡ a0 → ripe (k3 t) z.n l ≡ false → ripe (k3 t) z.n (upd l f c1) ≡ false
        still-shut false l here sh = rw (over-same syncs l f c1 (rw here refl)) sh
        still-shut true l here sh = refl

  same-e : eqb e e ≡ true
  same-e = eq-eqb e e refl

  -- ---- ACK-E in L2: the count, with whichever candidate

  module _ (b : ℕ) (g : Hist) (c : Cluster) (l : ℕ → Pt k2) (calm : Calm w Y c (G2 b g) l) (safe : Safe c) (f : ℕ) (hf : q f ≡ true) (ne : f ≢ x) (here : l f ≡ b2) where
    abbrev ld : Server
    ld = lead x e (init x) (G2 b g) l

    abbrev m2 : Msg
    m2 = acke e (init f).dur.a (init f).dur.hist

    -- the leader takes h for its own
    abbrev elects : Hist → Tree
    elects h = took false (record { dur = dur_f3 e h (init x); stage = L3; orc = x + 1; vol = record { joined = over joins l; acked = nobody; synced = just x; largest = 0; cand_epoch = 0; cand_hist = []; counts = nil } }) (to_all z.n x (over joins l) (newleader e h))

    count2 : (a : ℕ) (h : Hist) → ((o : Res) → Runs (l2_count z x (upd (over counts l) f true) a h ld) o → Runs (receive z x f m2 ld) o) → Goal c l f x
    unfolding l2_count each over
    count2 a h rc = go (quorum z.n (upd (over counts l) f true)) refl
      where
        ns : over counts (upd l f b3) ≡ upd (over counts l) f true
        ns = over-upd counts l f b3

        js : over joins (upd l f b3) ≡ over joins l
        js = over-same joins l f b3 (rw here refl)

        j3 : over joins (over r23 (upd l f b3)) ≡ over joins l
        j3 = over-over joins r23 joins j23 (upd l f b3) ∙ js

        s3 : over syncs (over r23 (upd l f b3)) ≡ just x
        s3 = over-over syncs r23 is_me s23 (upd l f b3) ∙ over-same is_me l f b3 (rw here refl) ∙ sole is_me x l calm.own

        h3 : over (held (length h)) (over r23 (upd l f b3)) ≡ nil
        h3 = over-over (held (length h)) r23 (λ _. 0) (h23 (length h)) (upd l f b3)

        elected : Runs (elects h) (taken false (lead x e (init x) (G3 false h) (over r23 (upd l f b3))) (to_all z.n x (over joins (upd l f b3)) (newleader e h)))
        elected = rw (js, j3, s3, h3) (leaf refl)

        go : (t : Bool) → quorum z.n (upd (over counts l) f true) ≡ t → Goal c l f x
        go false y = answers c (G2 b g) l calm safe f hf ne b2 b3 here refl refl refl (λ _. refl) refl m2 refl (G2 a h) refl [] refl
            (rc _ (two y (leaf (rw (ns, js))))) (rw ns y)
        go true y = kept-or (dur_f2 e (init x)) h (elects h) elected
            (λ r _. announces c (G2 b g) l calm safe f hf ne b2 b3 here refl refl refl (λ _. refl) refl m2 refl (G3 false h) r23
            (kept23 w init b g h) joins (newleader e h) (sends23 e h) joins-in refl (rc _ (one y r)) (rw s3 (alone x)))
            (λ r.
            let told : Runs (receive z x f m2 (c.srv x)) (refused UNDO) = rw calm.leads (rc _ (one y r)) in
            let u = undone z depth c f x (crew.inside f hf) (crew.inside x crew.mine) ne m2 []
            (cell-from w Y c (G2 b g) l calm f hf ne ∙ rw here refl) (good-from c (G2 b g) l calm safe f hf ne m2 [] (rw here refl)) told in
            absurd (sure.never c safe f x u.0 u.1))

    acke2 : Goal c l f x
    unfolding receive cell table on_acke over both
    acke2 = go (beats (init f).dur.a (last_id (init f).dur.hist) b (last_id g)) refl
      where
        hj : joins (l f) ≡ true
        hj = rw here refl

        hk : not (counts (l f)) ≡ true
        hk = rw here refl

        go : (t : Bool) → beats (init f).dur.a (last_id (init f).dur.hist) b (last_id g) ≡ t → Goal c l f x
        go true y = count2 (init f).dur.a (init f).dur.hist (λ o r. gated 3 L2 refl hj (pass hk (pass same-e (one refl (one y r)))))
        go false y = count2 b g (λ o r. gated 3 L2 refl hj (pass hk (pass same-e (one refl (two y r)))))

  -- ---- ACK-E in L3 and L4

  heard : (t : Bool) (h : Hist) (l : ℕ → Pt (k3 t)) (f a : ℕ) (g : Hist) (p' : Pt (k3 t)) → joins (l f) ≡ true → Alike (l f) p'
      → Runs (receive z x f (acke e a g) (lead x e (init x) (G3 t h) l)) (taken false (lead x e (init x) (G3 t h) (upd l f p')) (each f []))
  unfolding receive cell table on_acke over both each
  heard false h l f a g p' hj like = gated 3 L3 refl hj (pass refl (pass same-e (two refl (leaf (rw (lead-alike x e (init x) (G3 false h) l f p' like))))))
  heard true h l f a g p' hj like = gated 3 L4 refl hj (pass refl (pass same-e (two refl (leaf (rw (lead-alike x e (init x) (G3 true h) l f p' like))))))

  acke3 : (t : Bool) (h : Hist) (c : Cluster) (l : ℕ → Pt (k3 t)) → Calm w Y c (G3 t h) l → Safe c → (f : ℕ) → q f ≡ true → f ≢ x
      → (p p' : Pt (k3 t)) → l f ≡ p → is_me p' ≡ false → is_in p' ≡ true → left p ≡ suc (left p') → ((s : Server) → now x e h s p' ≡ now x e h s p)
      → late p' ≡ late p → back e h (init f) p ≡ acke e (init f).dur.a (init f).dur.hist ∷ back e h (init f) p'
      → Alike p p' → joins p ≡ true → fwd e h p' ≡ fwd e h p
      → Goal c l f x
  acke3 t h c l calm safe f hf ne p p' here mine inn less nw lp bk like jp fw =
      answers c (G3 t h) l calm safe f hf ne p p' here mine inn less nw lp (acke e (init f).dur.a (init f).dur.hist) bk (G3 t h) refl []
      (fw ∙ sym (append-nil _)) (heard t h l f (init f).dur.a (init f).dur.hist p' (rw here jp) (rw here like)) (ripe-alike (k3 t) z.n l f p' (rw here like) ∙ calm.short)

  -- ---- ACK-LD

  module _ (h : Hist) (c : Cluster) (f : ℕ) (hf : q f ≡ true) (ne : f ≢ x) where
    abbrev m3 : Msg
    m3 = ackld e (length h)

    ml : max 0 (length h) ≡ length h
    ml = omega arith

    -- in L3
    ackld3 : (l : ℕ → Pt (k3 false)) → Calm w Y c (G3 false h) l → Safe c → l f ≡ c5 → Goal c l f x
    unfolding receive cell table on_ackld l3_sync each over pick
    ackld3 l calm safe here = go (quorum z.n (upd (over syncs l) f true)) refl
      where
        hj : joins (l f) ≡ true
        hj = rw here refl

        hh : held (length h) (l f) ≡ 0
        hh = rw here refl

        js : over joins (upd l f c6) ≡ over joins l
        js = over-same joins l f c6 (rw here refl)

        ss : over syncs (upd l f c6) ≡ upd (over syncs l) f true
        ss = over-upd syncs l f c6

        hs : over (held (length h)) (upd l f c6) ≡ upd (over (held (length h)) l) f (length h)
        hs = over-upd (held (length h)) l f c6

        j4 : over joins (over r34 (upd l f c6)) ≡ over joins l
        j4 = over-over joins r34 joins j34 (upd l f c6) ∙ js

        s4 : over syncs (over r34 (upd l f c6)) ≡ upd (over syncs l) f true
        s4 = over-over syncs r34 syncs s34 (upd l f c6) ∙ ss

        h4 : over (held (length h)) (over r34 (upd l f c6)) ≡ upd (over (held (length h)) l) f (length h)
        h4 = over-over (held (length h)) r34 (held (length h)) (h34 (length h)) (upd l f c6) ∙ hs

        eqh : eqb (length h) (length h) ≡ true
        eqh = eq-eqb (length h) (length h) refl

        go : (t : Bool) → quorum z.n (upd (over syncs l) f true) ≡ t → Goal c l f x
        go false y = answers c (G3 false h) l calm safe f hf ne c5 c6 here refl refl refl (λ _. refl) refl m3 refl (G3 false h) refl [] refl
            (gated 5 L3 refl hj (pass same-e (one refl (pass eqh (two y (leaf (rw (hh, ml, js, ss, hs)))))))) (rw ss y)
        go true y = announces c (G3 false h) l calm safe f hf ne c5 c6 here refl refl refl (λ _. refl) refl m3 refl (G3 true h) r34
            (kept34 w init h) syncs (commitld e (length h)) (sends34 e h) syncs-in refl
            (gated 5 L3 refl hj (pass same-e (one refl (pass eqh (one y (leaf (rw (hh, ml, ss, j4, s4, h4)))))))) refl

    -- in L4
    ackld4 : (l : ℕ → Pt (k3 true)) → Calm w Y c (G3 true h) l → Safe c → l f ≡ c5 → Goal c l f x
    unfolding receive cell table on_ackld l4_advance advanced advance each over pick
    ackld4 l calm safe here = answers c (G3 true h) l calm safe f hf ne c5 d1 here refl refl refl (λ _. refl) refl m3 refl (G3 true h) refl (commitld e (length h) ∷ []) refl rc refl
      where
        hj : joins (l f) ≡ true
        hj = rw here refl

        hh : held (length h) (l f) ≡ 0
        hh = rw here refl

        lh : leb (length h) (length h) ≡ true
        lh = omega passes

        nl : ltb (length h) (length h) ≡ false
        nl = omega passes

        rc : Runs (receive z x f m3 (lead x e (init x) (G3 true h) l)) (taken false (lead x e (init x) (G3 true h) (upd l f d1)) (each f (commitld e (length h) ∷ [])))
        rc = rw (over-same joins l f d1 (rw here refl), over-upd syncs l f d1, over-upd (held (length h)) l f d1) (gated 5 L4 refl hj (pass same-e (two refl (pass lh (leaf (rw (sub_self (length h), nl, hh, ml)))))))

  -- what waits for the leader is taken
  pub answer : (init x).dur.p < LAST → {k : K} (st : Stage k) (c : Cluster) (l : ℕ → Pt k) (calm : Calm w Y c st l) (safe : Safe c) (f : ℕ) (hf : q f ≡ true) (ne : f ≢ x)
      → (init f).dur.p ≤ (init x).dur.p → (p : Pt k) → l f ≡ p → back e (hist st) (init f) p ≢ [] → Goal c l f x
  answer low G1 c l calm safe f hf ne top out here non = absurd (non refl)
  answer low G1 c l calm safe f hf ne top me here non = absurd (non refl)
  answer low G1 c l calm safe f hf ne top a0 here non = join1 low f hf ne top c l calm safe here
  answer low G1 c l calm safe f hf ne top a1 here non = absurd (non refl)
  answer low (G2 a h) c l calm safe f hf ne top out here non = absurd (non refl)
  answer low (G2 a h) c l calm safe f hf ne top me here non = absurd (non refl)
  answer low (G2 a h) c l calm safe f hf ne top a0 here non = join2 low f hf ne top a h c l calm safe here
  answer low (G2 a h) c l calm safe f hf ne top b1 here non = absurd (non refl)
  answer low (G2 a h) c l calm safe f hf ne top b2 here non = acke2 a h c l calm safe f hf ne here
  answer low (G2 a h) c l calm safe f hf ne top b3 here non = absurd (non refl)
  answer low (G3 false h) c l calm safe f hf ne top out here non = absurd (non refl)
  answer low (G3 false h) c l calm safe f hf ne top me here non = absurd (non refl)
  answer low (G3 false h) c l calm safe f hf ne top a0 here non = join3 low f hf ne top false h c l calm safe here
  answer low (G3 false h) c l calm safe f hf ne top c1 here non = absurd (non refl)
  answer low (G3 false h) c l calm safe f hf ne top c2 here non = acke3 false h c l calm safe f hf ne c2 c3 here refl refl refl (λ _. refl) refl refl (refl, refl, refl, λ _. refl) refl refl
  answer low (G3 false h) c l calm safe f hf ne top c3 here non = absurd (non refl)
  answer low (G3 false h) c l calm safe f hf ne top c4 here non = acke3 false h c l calm safe f hf ne c4 c5 here refl refl refl (λ _. refl) refl refl (refl, refl, refl, λ _. refl) refl refl
  answer low (G3 false h) c l calm safe f hf ne top c5 here non = ackld3 h c f hf ne l calm safe here
  answer low (G3 false h) c l calm safe f hf ne top c6 here non = absurd (non refl)
  answer low (G3 true h) c l calm safe f hf ne top out here non = absurd (non refl)
  answer low (G3 true h) c l calm safe f hf ne top me here non = absurd (non refl)
  answer low (G3 true h) c l calm safe f hf ne top a0 here non = join3 low f hf ne top true h c l calm safe here
  answer low (G3 true h) c l calm safe f hf ne top c1 here non = absurd (non refl)
  answer low (G3 true h) c l calm safe f hf ne top c2 here non = acke3 true h c l calm safe f hf ne c2 c3 here refl refl refl (λ _. refl) refl refl (refl, refl, refl, λ _. refl) refl refl
  answer low (G3 true h) c l calm safe f hf ne top c3 here non = absurd (non refl)
  answer low (G3 true h) c l calm safe f hf ne top c4 here non = acke3 true h c l calm safe f hf ne c4 c5 here refl refl refl (λ _. refl) refl refl (refl, refl, refl, λ _. refl) refl refl
  answer low (G3 true h) c l calm safe f hf ne top c5 here non = ackld4 h c f hf ne l calm safe here
  answer low (G3 true h) c l calm safe f hf ne top d1 here non = absurd (non refl)
  answer low (G3 true h) c l calm safe f hf ne top d2 here non = absurd (non refl)
