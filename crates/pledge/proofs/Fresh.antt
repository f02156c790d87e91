-- The calm run of fresh servers: nothing was submitted before, so x has room, and both of its numbers of deliveries are known.
use Prim.Native.Nat.{ℕ, suc, ◌-◌, ◌≤◌, ◌<◌}
use mathlib.Core.Path.{◌≡◌, refl, sym, ap, ◌∙◌, subst}
use mathlib.Core.Logic.{⊎_elim}
use mathlib.Core.Bool.{Bool, true, false, not}
use mathlib.Core.List.{List, [], ◌∷◌, ◌++◌, map}
use native.Mathlib.Omega.{arith}
use lib.Dec.{eqb, ltb}
use lib.ListN.{length, get_or, take, drop}
use lib.Seq.{length-take-le}
use borrow.Author.Tests.{lt-ltb}
use Rattle.base.specs.Choice.{pick, both}
use Rattle.base.specs.Transaction.{Hist, last_id, id_at, none}
use Rattle.base.specs.Record.{E, «V», Entry, entry, same}
use Rattle.base.specs.declared.Txn.{Txn}
use Rattle.base.specs.declared.Sizes.{Sizes}
use Rattle.base.proofs.Choice.{le-or-lt, clash}
use Rattle.rules.proofs.WellFormed.{sized}
use Rattle.rules.specs.Server.{Server, good_sizes, L4}
use Rattle.rules.specs.Tree.{Res, refused, taken, run}
use Rattle.rules.specs.Step.{Input, step}
use Rattle.rules.specs.Cluster.{Cluster, Channels, Event, O, R, D, S, Outcome, told, done, answer, at, hand, start, event, after, play, enters, begun, newly, records, trace}
use Rattle.rules.specs.Message.{Msg}
use Rattle.rules.proofs.Trees.{All, all_append}
use Rattle.ledger.specs.Delivered.{delivered_of}
use Rattle.ledger.specs.Records.{count, is_b}
use Rattle.ledger.proofs.Lists.{count-append}
use Rattle.ledger.proofs.Kept.{play-append}
use Rattle.ledger.proofs.SubmittedOnce.{submitted-once}
use Rattle.calm.specs.Calm.{below, naming, Lively, end, then}
use Rattle.site.proofs.Goods.{fit-facts}
use Rattle.site.specs.Site.{Site, site_of, cluster_of, good_site}
use Rattle.site.specs.declared.Cluster.{Cluster as Held}
use Rattle.site.specs.declared.Told.{Told}
use Rattle.cluster.specs.Any.{good_fresh, Freshly}
use Rattle.pledge.specs.Moves.{others_from, names, settles, turned, rested, regained, Leads, Roomy, Calms, Counted}
use Rattle.pledge.specs.declared.Calmed.{Calmed}
use Rattle.pledge.proofs.Settled.{eased-lively}
use Rattle.pledge.proofs.Motion.{Motion, it-moves}

-- ---- without a submission a trace has no B

-- not a submission
abbrev Plain : Event → Type 0
Plain (O s x) = Unit
Plain (R s) = Unit
Plain (D f t) = Unit
Plain (S s v) = ⊥

-- what is told, or done unasked
unfoldable unasked : Outcome → Bool
unasked (told k c) = true
unasked (done i s s' asked c) = not asked

unasked-room : (b : Bool) (i : ℕ) (s s' : Server) (c : Cluster) (k : ℕ) (d : Cluster) → unasked (pick b (done i s s' false c) (told k d)) ≡ true
unfolding pick unasked
unasked-room true i s s' c k d = refl
unasked-room false i s s' c k d = refl

unasked-answer : (z : Sizes) (depth : ℕ) (c : Cluster) (i : ℕ) (rest : Channels) (r : Res) → unasked (answer z depth c i false rest r) ≡ true
unfolding answer unasked
unasked-answer z depth c i rest (refused k) = refl
unasked-answer z depth c i rest (taken b s out) = unasked-room _ i (c.srv i) s _ _ c

unasked-either : (b : Bool) (x y : Outcome) → unasked x ≡ true → unasked y ≡ true → unasked (pick b x y) ≡ true
unfolding pick
unasked-either true x y p q = p
unasked-either false x y p q = q

unasked-at : (z : Sizes) (depth : ℕ) (c : Cluster) (i : ℕ) (rest : Channels) (e : Input) → unasked (at z depth c i false rest e) ≡ true
unfolding at unasked
unasked-at z depth c i rest e = unasked-either (ltb i z.n) _ _ (unasked-answer z depth c i rest (run (step z i e (c.srv i)))) refl

unasked-hand : (z : Sizes) (depth : ℕ) (c : Cluster) (f t : ℕ) (q : List Msg) → unasked (hand z depth c f t q) ≡ true
unfolding hand unasked
unasked-hand z depth c f t [] = refl
unasked-hand z depth c f t (m ∷ q) = unasked-at z depth c t _ _

unasked-event : (z : Sizes) (depth : ℕ) (c : Cluster) (e : Event) → Plain e → unasked (event z depth c e) ≡ true
unfolding event
unasked-event z depth c (O s x) p = unasked-at z depth c s _ _
unasked-event z depth c (R s) p = unasked-at z depth c s _ _
unasked-event z depth c (D f t) p = unasked-hand z depth c f t (c.chan f t)
unasked-event z depth c (S s v) p = absurd p

module _ (f : Entry → Bool) where
  none-enters : (b : Bool) (i e : ℕ) → count (is_b f) (pick b (E i e ∷ []) []) ≡ 0
  unfolding pick count is_b
  none-enters true i e = refl
  none-enters false i e = refl

  none-newly : (i : ℕ) (ts : List Txn) → count (is_b f) (map (λ t. «V» i (entry t)) ts) ≡ 0
  unfolding count is_b pick
  none-newly i [] = refl
  none-newly i (t ∷ ts) = let r = none-newly i ts in omega arith

  none-records : (line : ℕ) (x : Outcome) → unasked x ≡ true → count (is_b f) (records line x) ≡ 0
  unfolding records unasked enters begun newly count is_b pick
  none-records line (told k c) p = refl
  none-records line (done i s s' true c) p = clash p refl
  none-records line (done i s s' false c) p =
      let a : count (is_b f) (enters i s s') ≡ 0 = none-enters (both (not (eqb s.stage L4)) (eqb s'.stage L4)) i s'.dur.p in
      let b : count (is_b f) (newly i s s') ≡ 0 = none-newly i (drop s.dur.d (take s'.dur.d s'.dur.hist)) in
      count-append (is_b f) (enters i s s') (newly i s s') ∙ omega (arith, a, b)

  none-trace : (z : Sizes) (depth : ℕ) (c : Cluster) (line : ℕ) (es : List Event) → All Plain es → count (is_b f) (trace z depth c line es) ≡ 0
  unfolding trace count
  none-trace z depth c line [] a = refl
  none-trace z depth c line (e ∷ es) a =
      let h = none-records line (event z depth c e) (unasked-event z depth c e a.0) in
      let r = none-trace z depth (after (event z depth c e)) (suc line) es a.1 in
      count-append (is_b f) (records line (event z depth c e)) (trace z depth (after (event z depth c e)) (suc line) es) ∙ omega arith

-- ---- naming and settling submit nothing

plain_map : (x : ℕ) (fs : List ℕ) → All Plain (map (λ f. O f x) fs)
plain_map x [] = tt
plain_map x (f ∷ fs) = (tt, plain_map x fs)

plain-names : (z : Sizes) (x : ℕ) → All Plain (names z x)
unfolding naming
plain-names z x = (tt, plain_map x (others_from x 0 (z.n - 1)))

plain-lively : (z : Sizes) (depth : ℕ) (c : Cluster) (es : List Event) → Lively z depth (below z.n) c es → All Plain es
plain-lively z depth c es end = tt
plain-lively z depth c es (then p q b l) = (tt, plain-lively z depth _ _ l)

-- ---- so x's history is empty after recovery

module _ (z : Sizes) (good : good_sizes z ≡ true) (depth : ℕ) (deep : 2 ≤ depth) (x v : ℕ) (hx : x < z.n) where
  fresh-leads : Leads z x start
  unfolding start
  fresh-leads = record { inside = hx; top = λ i l. omega arith; low = omega arith }

  fresh-moves : Motion z depth x v start
  unfolding play
  fresh-moves = it-moves z good depth deep [] x v start refl fresh-leads

  abbrev events : List Event
  events = names z x ++ settles z depth (turned z depth x start)

  none-submitted : (f : Entry → Bool) → count (is_b f) (trace z depth start 1 events) ≡ 0
  none-submitted f = none-trace f z depth start 1 events (all_append Plain (names z x) (settles z depth (turned z depth x start)) (plain-names z x) (plain-lively z depth _ _ (eased-lively z depth 64 (turned z depth x start))))

  nothing : length (delivered_of ((rested z depth x start).srv x)) ≡ 0
  nothing = ⊎_elim
      (λ (l : length (delivered_of ((rested z depth x start).srv x)) ≤ 0). omega arith)
      (λ (l : 0 < length (delivered_of ((rested z depth x start).srv x))).
      let p = play-append z depth start (names z x) (settles z depth (turned z depth x start)) in
      let m : 0 < length (delivered_of ((play z depth start events).srv x)) = subst (λ (c : Cluster). 0 < length (delivered_of (c.srv x))) (sym p) l in
      let s = submitted-once z depth 1 events x 0 m in
      let a = s.once in
      absurd (omega (arith, none-submitted (same (entry (get_or (delivered_of ((play z depth start events).srv x)) 0 none))))))
      (le-or-lt (length (delivered_of ((rested z depth x start).srv x))) 0)

  no-history : length ((rested z depth x start).srv x).dur.hist ≡ 0
  no-history =
      let w : ((rested z depth x start).srv x).dur.d ≡ length ((rested z depth x start).srv x).dur.hist = fresh-moves.recovered.1.settled.whole x (lt-ltb x z.n hx) in
      let t = length-take-le ((rested z depth x start).srv x).dur.d ((rested z depth x start).srv x).dur.hist (omega arith) in
      omega (arith, nothing, t)

  no-id : (h : Hist) → length h ≡ 0 → last_id h ≡ 0
  unfolding id_at
  no-id h e = rw e refl

  fresh-roomy : Roomy z x (rested z depth x start)
  fresh-roomy = record {
    room = omega (arith, no-history, (sized z good).some);
    next = λ e. omega (arith, e, no-id ((rested z depth x start).srv x).dur.hist no-history);
  }

-- a fresh cluster, and then the calm run
pub calm-fresh : (z : Sizes) (depth x v : ℕ) (h k q o : List ℕ) (f : Told) (h₁ k₁ q₁ : List ℕ) (t : Calmed) (w' : Site) → good_fresh z depth h k q o ≡ true → x < z.n
    → Freshly z depth h k q o f h₁ k₁ q₁ → Calms f.cluster.sizes f.cluster.depth (site_of f.cluster h₁ k₁ q₁ o) x v t w' → Counted z t
unfolding play
calm-fresh z depth x v h k q o f h₁ k₁ q₁ t w' e l y c =
    let w = site_of f.cluster h₁ k₁ q₁ o in
    let d : Calms z depth (site_of f.cluster h₁ k₁ q₁ o) x v t w'
    = subst (λ (m : ℕ). Calms z m w x v t w') (ap (λ (b : Held). b.depth) y.cluster)
    (subst (λ (s : Sizes). Calms s f.cluster.depth w x v t w') (ap (λ (b : Held). b.sizes) y.cluster) c) in
    let ok : good_site z depth (site_of f.cluster h₁ k₁ q₁ o) ≡ true = y.good e in
    let p : cluster_of z depth (site_of f.cluster h₁ k₁ q₁ o) ≡ start = y.rules e in
    let g = fit-facts z depth (length h) (length k) (length q) (length o) e in
    let m = d.moves ok [] p (subst (Leads z x) (sym p) (fresh-leads z g.sizes depth g.lower x v l)) in
    let r : Roomy z x (cluster_of z depth (regained z depth (site_of f.cluster h₁ k₁ q₁ o) x))
    = subst (Roomy z x) (sym (d.halfway ok ∙ ap (rested z depth x) p)) (fresh-roomy z g.sizes depth g.lower x v l) in
    record { code = m.submitted r; named = m.named; first = m.first; second = m.second r }
