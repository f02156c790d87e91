-- The trace of a run: the records of each event, and what is true of all of them.
use Prim.Native.Nat.{ℕ, suc, ◌+◌, ◌<◌}
use mathlib.Core.Path.{◌≡◌, refl, sym, ap, ◌∙◌}
use mathlib.Core.Logic.{◌≢◌, ◌⊎◌, inl, inr, ⊎_elim}
use mathlib.Core.Bool.{Bool, true, false, not}
use mathlib.Core.List.{List, [], ◌∷◌, ◌++◌, map, append_assoc, append-nil, map-append}
use native.Mathlib.Omega.{arith}
use lib.Dec.{eqb}
use lib.ListN.{length, take, drop, get_or, take-append-drop, length-drop, length-map, get_or-map, get_or-append}
use lib.Seq.{drop-append_seam, get_or-drop, get_or-take, length-take-le}
use Rattle.base.specs.Choice.{pick, both}
use Rattle.base.specs.Transaction.{Hist, none, Begins}
use Rattle.base.specs.Record.{Rec, E, B, «V», X, Entry, entry}
use Rattle.base.specs.declared.Txn.{Txn}
use Rattle.base.specs.declared.Sizes.{Sizes}
use Rattle.base.proofs.Choice.{tests, passes, case, eq-or, both_yes, both-no, is-not, pick_at, pick_true, pick-false, upd_same, upd_other}
use Rattle.rules.specs.Server.{Server, L4}
use Rattle.rules.specs.Cluster.{Cluster, start, Event, Outcome, told, done, event, after, enters, begun, newly, records, play, trace}
use Rattle.ledger.specs.Delivered.{delivered_of}
use Rattle.ledger.specs.Records.{count, In, Before, Submitted, gather, view_by, views_in}
use Rattle.rules.proofs.Trees.{All}
use Rattle.ledger.proofs.Lists.{in-append, in-at, in_map, before_more, before-both, before-second}
use Rattle.ledger.proofs.Ghost.{Ghost, Grow, own}
use Rattle.ledger.proofs.Grow.{grow-refl}
use Rattle.ledger.proofs.Done.{Appends, Deed, rests, establishes, appends}
use Rattle.ledger.proofs.Cluster.{Inv, Follows, event-ok, g₀, start-ok, start-ghost}
use Rattle.ledger.proofs.Kept.{later-kept}
use Rattle.ledger.proofs.Traced.{gather_append, in-gather, is_view, view_in, Traced, Tells, tells-on, QuietRec, tells-quiet, tells-E, tells-B, established-in}
use Rattle.ledger.proofs.Submitted.{server-once}

-- ---- the records of a step: E, B, V

enters_none : (i : ℕ) (s s' : Server) → (s'.stage ≡ L4 → s.stage ≡ L4) → enters i s s' ≡ []
unfolding enters both
enters_none i s s' st =
    let fails : both (not (eqb s.stage L4)) (eqb s'.stage L4) ≡ false =
    case (eqb s'.stage L4)
    (λ y. let w : eqb s.stage L4 ≡ true = omega (passes, st (omega tests)) in rw w)
    (λ y. both-no (not (eqb s.stage L4)) (eqb s'.stage L4) y) in
    rw fails (pick-false (E i s'.dur.p ∷ []) [])

enters-one : (i : ℕ) (s s' : Server) → s.stage ≢ L4 → s'.stage ≡ L4 → enters i s s' ≡ E i s'.dur.p ∷ []
unfolding enters
enters-one i s s' b n =
    let x : eqb s.stage L4 ≡ false = omega passes in
    let y : eqb s'.stage L4 ≡ true = omega passes in
    rw (both_yes (not (eqb s.stage L4)) (eqb s'.stage L4) (is-not (eqb s.stage L4) x) y) (pick_true (E i s'.dur.p ∷ []) [])

begun-none : (i : ℕ) (asked : Bool) (s s' : Server) → asked ≡ false → begun i asked s s' ≡ []
unfolding begun pick
begun-none i asked s s' e = rw e

begun-one : (i : ℕ) (asked : Bool) (s s' : Server) (t : Txn) → asked ≡ true → s'.dur.hist ≡ s.dur.hist ++ (t ∷ []) → begun i asked s s' ≡ B i (entry t) ∷ []
unfolding begun pick
begun-one i asked s s' t e h = rw (e, h, drop-append_seam s.dur.hist (t ∷ []))

newly-quiet : (i : ℕ) (s s' : Server) → All QuietRec (newly i s s')
unfolding newly
newly-quiet i s s' = go (drop s.dur.d (take s'.dur.d s'.dur.hist))
  where
    go : (h : Hist) → All QuietRec (map (λ (t : Txn). «V» i (entry t)) h)
    go [] = tt
    go (t ∷ h) = (tt, go h)

-- ---- the V records of a server

-- none among E and B
views-lead : (j i : ℕ) (asked : Bool) (s s' : Server) → views_in j (enters i s s' ++ begun i asked s s') ≡ []
unfolding enters begun gather view_by
views-lead j i asked s s' = gather_append (view_by j) (enters i s s') (begun i asked s s')
    ∙ rw (pick_at (λ (l : List Rec). views_in j l ≡ []) (both (not (eqb s.stage L4)) (eqb s'.stage L4)) (E i s'.dur.p ∷ []) [] (λ _. refl) (λ _. refl))
    (pick_at (λ (l : List Rec). views_in j l ≡ []) asked (map (λ (t : Txn). B i (entry t)) (drop (length s.dur.hist) s'.dur.hist)) [] (λ _. go (drop (length s.dur.hist) s'.dur.hist)) (λ _. refl))
  where
    go : (h : Hist) → views_in j (map (λ (t : Txn). B i (entry t)) h) ≡ []
    go [] = refl
    go (t ∷ h) = go h

-- its own, in order, and no other's
views-newly : (i : ℕ) (s s' : Server) → views_in i (newly i s s') ≡ map entry (drop s.dur.d (delivered_of s'))
unfolding newly gather view_by
views-newly i s s' = go (drop s.dur.d (delivered_of s'))
  where
    go : (h : Hist) → views_in i (map (λ (t : Txn). «V» i (entry t)) h) ≡ map entry h
    go [] = refl
    go (t ∷ h) = let y : eqb i i ≡ true = omega passes in rw (y, pick_true (entry t ∷ []) []) (ap (λ (l : List Entry). entry t ∷ l) (go h))

views-others : (j i : ℕ) (s s' : Server) → j ≢ i → views_in j (newly i s s') ≡ []
unfolding newly gather view_by
views-others j i s s' ne = go (drop s.dur.d (delivered_of s'))
  where
    go : (h : Hist) → views_in j (map (λ (t : Txn). «V» i (entry t)) h) ≡ []
    go [] = refl
    go (t ∷ h) = let y : eqb i j ≡ false = omega passes in rw (y, pick-false (entry t ∷ []) []) (go h)

-- a V of a server is a transaction that it has delivered
view-at : (i : ℕ) (tr : List Rec) (h : Hist) → views_in i tr ≡ map entry h → (k : ℕ) → k < length h → In («V» i (entry (get_or h k none))) tr
view-at i tr h q k l =
    let m : In (entry (get_or h k none)) (views_in i tr) = rw q (rw (get_or-map entry h k none) at (in-at (map entry h) k (entry none) (omega (arith, length-map h entry)))) in
    let r = in-gather (view_by i) (entry (get_or h k none)) tr m in
    rw (is_view i (entry (get_or h k none)) r.0 r.2) at r.1

-- what is newly delivered, as places of what is delivered
newly-at : (i : ℕ) (s s' : Server) (j : ℕ) (t : Entry) → In («V» j t) (newly i s s') → (k : ℕ) × (k < length (delivered_of s')) × (t ≡ entry (get_or (delivered_of s') k none))
unfolding newly
newly-at i s s' j t m =
    let w = in_map (λ (x : Txn). «V» i (entry x)) («V» j t) (drop s.dur.d (delivered_of s')) none m in
    let q : t ≡ entry (get_or (drop s.dur.d (delivered_of s')) w.0 none) = cc w.2 in
    (s.dur.d + w.0, omega (arith, w.1, length-drop s.dur.d (delivered_of s')), q ∙ ap entry (get_or-drop s.dur.d (delivered_of s') w.0 none))

-- ---- the invariant of a run

-- the cluster's, the ghost's with the trace, each server's V records are what it has delivered, and each comes after a B of the same entry
pub record Run (n : ℕ) (c : Cluster) (tr : List Rec) : Type 0 where
  pub inv : Inv n c
  pub traced : Traced inv.g tr
  pub views : (i : ℕ) → views_in i tr ≡ map entry (delivered_of (c.srv i))
  pub sourced : (i : ℕ) (t : Entry) → In («V» i t) tr → (s : ℕ) × Before (B s t) («V» i t) tr

-- a step's E or B
module _ (g g' : Ghost) (tr : List Rec) (T : Traced g tr) (i : ℕ) (s s' : Server) (V₀ : views_in i tr ≡ map entry (delivered_of s)) where
  -- a leader that appends has delivered the whole initial history
  full : (asked : Bool) (d : Appends asked g g' i s s') (k : ℕ) → k < g'.base s.dur.p → In («V» i (entry (get_or (g'.log s.dur.p) k none))) tr
  full asked d k l =
      let b : k < s.dur.d = omega (arith, d.base) in
      let a : k < length s.dur.hist = omega (arith, d.fits) in
      let q : get_or (g'.log s.dur.p) k none ≡ get_or (delivered_of s) k none =
      ap (λ (h : Hist). get_or h k none) (d.log ∙ d.hist) ∙ get_or-append s.dur.hist (d.t ∷ []) none k a ∙ sym (get_or-take s.dur.d s.dur.hist k none b) in
      rw q (view-at i tr (delivered_of s) V₀ k (omega (arith, length-take-le s.dur.d s.dur.hist d.fits)))

  deed-tells : (asked : Bool) → Deed asked g g' i s s' → Tells g g' tr (enters i s s' ++ begun i asked s s')
  deed-tells asked (rests d) = rw (enters_none i s s' d.stays, begun-none i asked s s' d.unasked) (tells-quiet g g' tr [] tt d.est d.own)
  deed-tells asked (establishes d) = rw (enters-one i s s' d.before d.now, begun-none i asked s s' d.unasked)
      (tells-E g g' tr i s'.dur.p d.mine d.fresh d.est d.own)
  deed-tells asked (appends d) = rw (enters_none i s s' (λ _. d.before), begun-one i asked s s' d.t d.asks d.hist)
      (tells-B g g' tr i d.t (rw d.epoch (established-in g tr T s.dur.p i d.done d.mine)) (rw d.epoch (full asked d)) d.est (rw d.epoch d.here) (rw d.epoch d.others))

-- a sequence that begins another, and the rest of it
pre-join : (x y : Hist) (d : ℕ) → length x ≡ d → Begins x y → x ++ drop d y ≡ y
pre-join x y d q p = ap (λ (l : Hist). l ++ drop d y) (sym (rw q at p)) ∙ take-append-drop d y

-- ---- an event

module _ (n : ℕ) (c : Cluster) (tr : List Rec) (u : Run n c tr) where
  -- an event that is refused leaves an X
  told-run : (line k : ℕ) (c' : Cluster) → Follows n c u.inv (told k c') → Run n c' (tr ++ (X line k ∷ []))
  unfolding after gather view_by
  told-run line k c' F = record {
    inv = F.inv;
    traced = tells-on n u.inv.g F.inv.g u.inv.good F.grow tr (X line k ∷ []) u.traced
        (tells-quiet u.inv.g F.inv.g tr (X line k ∷ []) (tt, tt) (λ e. ap (λ (x : Ghost). x.est e) F.deed) (λ e. ap (λ (x : Ghost). own x e) F.deed));
    views = λ j. gather_append (view_by j) tr (X line k ∷ []) ∙ append-nil (views_in j tr) ∙ u.views j ∙ ap (λ (s : Server). map entry (delivered_of s)) (sym (F.moves j));
    sourced = λ j t m. ⊎_elim
        (λ (w : In («V» j t) tr). let v = u.sourced j t w in (v.0, before_more (B v.0 t) («V» j t) tr (X line k ∷ []) v.1))
        (λ (w : In («V» j t) (X line k ∷ [])). absurd (not-X j t w)) (in-append («V» j t) tr (X line k ∷ []) m);
  }
    where
      not-X : (j : ℕ) (t : Entry) → («V» j t ≡ X line k) ⊎ ⊥ → ⊥
      not-X j t (inl w) = let a : ◌≡◌ {A = ℕ} 0 1 = cc in omega arith
      not-X j t (inr w) = w

  -- server i went from s to s'
  module _ (i : ℕ) (s s' : Server) (asked : Bool) (c' : Cluster) (F : Follows n c u.inv (done i s s' asked c')) where
    -- the trace with its E or B
    led : List Rec
    led = tr ++ (enters i s s' ++ begun i asked s s')

    was : c.srv i ≡ s
    was = F.moves.0

    now : c'.srv i ≡ s'
    now = F.moves.1 i ∙ upd_same c.srv i s'

    inv' : Inv n c'
    unfolding after
    inv' = F.inv

    grow' : Grow u.inv.g inv'.g
    unfolding after inv'
    grow' = F.grow

    views₀ : views_in i tr ≡ map entry (delivered_of s)
    views₀ = rw (← was) (u.views i)

    traced-led : Traced inv'.g led
    unfolding after inv' led
    traced-led = tells-on n u.inv.g F.inv.g u.inv.good F.grow tr (enters i s s' ++ begun i asked s s') u.traced (deed-tells u.inv.g F.inv.g tr u.traced i s s' views₀ asked F.deed)

    -- what was delivered begins what is
    begins : Begins (delivered_of s) (delivered_of s')
    unfolding after inv'
    begins = rw (← was, ← now) (later-kept n c c' u.inv (record { inv = F.inv; grow = F.grow; more = F.more }) i)

    delivered-length : length (delivered_of s) ≡ s.dur.d
    delivered-length = length-take-le s.dur.d s.dur.hist (rw (← was) (u.inv.srv i).dur.del.fits)

    views-led : (j : ℕ) → views_in j led ≡ views_in j tr
    unfolding led
    views-led j = gather_append (view_by j) tr (enters i s s' ++ begun i asked s s') ∙ ap (λ (l : List Entry). views_in j tr ++ l) (views-lead j i asked s s') ∙ append-nil (views_in j tr)

    views-mine : views_in i (led ++ newly i s s') ≡ map entry (delivered_of s')
    views-mine = gather_append (view_by i) led (newly i s s')
        ∙ rw (views-led i, views₀, views-newly i s s') (sym (map-append entry (delivered_of s) (drop s.dur.d (delivered_of s'))) ∙ ap (map entry) (pre-join (delivered_of s) (delivered_of s') s.dur.d delivered-length begins))

    views-theirs : (j : ℕ) → j ≢ i → views_in j (led ++ newly i s s') ≡ map entry (delivered_of (c'.srv j))
    views-theirs j ne = gather_append (view_by j) led (newly i s s')
        ∙ rw (views-led j, views-others j i s s' ne) (append-nil (views_in j tr) ∙ u.views j ∙ ap (λ (x : Server). map entry (delivered_of x)) (sym (F.moves.1 j ∙ upd_other c.srv i s' j ne)))

    -- what is newly delivered was submitted before
    submitted : (j : ℕ) (t : Entry) → In («V» j t) (newly i s s') → (x : ℕ) × In (B x t) led
    submitted j t m =
        let w = newly-at i s s' j t m in
        let y : Submitted led (entry (get_or (delivered_of s') w.0 none)) = rw now at (server-once n c' inv' led traced-led i w.0 (rw now w.1)) in
        let v : Submitted led t = rw w.2 y in
        (v.by, before-second (E v.by t.ep) (B v.by t) led v.led)

    done-run : Run n c' (led ++ newly i s s')
    unfolding led
    done-run = record {
      inv = inv';
      traced = tells-on n inv'.g inv'.g inv'.good (grow-refl inv'.g) led (newly i s s') traced-led
          (tells-quiet inv'.g inv'.g led (newly i s s') (newly-quiet i s s') (λ _. refl) (λ _. refl));
      views = λ j. ⊎_elim (λ (q : j ≡ i). rw (q, now) views-mine) (λ (q : j ≢ i). views-theirs j q) (eq-or j i);
      sourced = λ j t m. ⊎_elim
          (λ (w : In («V» j t) led). old j t w)
          (λ (w : In («V» j t) (newly i s s')). let v = submitted j t w in (v.0, before-both (B v.0 t) («V» j t) led (newly i s s') v.1 w))
          (in-append («V» j t) led (newly i s s') m);
    }
      where
        old : (j : ℕ) (t : Entry) → In («V» j t) led → (x : ℕ) × Before (B x t) («V» j t) (led ++ newly i s s')
        old j t w = ⊎_elim
            (λ (y : In («V» j t) tr).
            let v = u.sourced j t y in
            (v.0, before_more (B v.0 t) («V» j t) led (newly i s s') (before_more (B v.0 t) («V» j t) tr (enters i s s' ++ begun i asked s s') v.1)))
            (λ (y : In («V» j t) (enters i s s' ++ begun i asked s s')). absurd (rw (views-lead j i asked s s') at (view_in j t (enters i s s' ++ begun i asked s s') y)))
            (in-append («V» j t) tr (enters i s s' ++ begun i asked s s') w)

  -- its records as they stand
  regroup : (a b d : List Rec) (c' : Cluster) → Run n c' ((tr ++ (a ++ b)) ++ d) → Run n c' (tr ++ (a ++ (b ++ d)))
  regroup a b d c' v = rw (append_assoc tr (a ++ b) d, append_assoc a b d) at v

  -- whatever an event leaves
  pub outcome-run : (line : ℕ) (o : Outcome) → Follows n c u.inv o → Run n (after o) (tr ++ records line o)
  unfolding after records led
  outcome-run line (told k c') F = told-run line k c' F
  outcome-run line (done i s s' asked c') F = regroup (enters i s s') (begun i asked s s') (newly i s s') c' (done-run i s s' asked c' F)

-- ---- many events

again : (n : ℕ) (c : Cluster) (a b d : List Rec) → Run n c ((a ++ b) ++ d) → Run n c (a ++ (b ++ d))
again n c a b d u = rw (append_assoc a b d) at u

-- and many
pub trace-ok : (z : Sizes) (depth : ℕ) (c : Cluster) (line : ℕ) (tr : List Rec) → Run z.n c tr → (es : List Event) → Run z.n (play z depth c es) (tr ++ trace z depth c line es)
unfolding play trace
trace-ok z depth c line tr u [] = rw (append-nil tr) u
trace-ok z depth c line tr u (e ∷ es) = again z.n _ tr (records line (event z depth c e)) (trace z depth (after (event z depth c e)) (suc line) es)
    (trace-ok z depth (after (event z depth c e)) (suc line) (tr ++ records line (event z depth c e)) (outcome-run z.n c tr u line (event z depth c e) (event-ok z depth c u.inv e)) es)

-- at the beginning nothing was told
run₀ : (n : ℕ) → Run n start []
unfolding start g₀ count gather
run₀ n = record {
  inv = start-ok n;
  traced = rw (start-ghost n) (record { est = λ _. refl; leads = λ s e m. absurd m; own = λ _. refl; led = λ s t m. absurd m; prior = λ s t m. absurd m });
  views = λ _. refl;
  sourced = λ i t m. absurd m;
}

-- every run's trace, from fresh servers
pub traces-ok : (z : Sizes) (depth line : ℕ) (es : List Event) → Run z.n (play z depth start es) (trace z depth start line es)
traces-ok z depth line es = trace-ok z depth start line [] (run₀ z.n) es
