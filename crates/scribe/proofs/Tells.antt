-- A line of the script: what the rules leave in the trace is what is written.
use Prim.Native.Nat.{ℕ, ◌-◌, ◌≤◌, ◌<◌}
use mathlib.Core.Path.{◌≡◌, sym, ap, ◌∙◌, subst}
use mathlib.Core.Logic.{◌≢◌}
use mathlib.Core.Bool.{Bool, true, false, not}
use mathlib.Core.List.{List, [], ◌∷◌, ◌++◌, map}
use native.Mathlib.Omega.{arith}
use lib.Dec.{eqb, ltb}
use lib.ListN.{length, take, drop}
use borrow.Author.Tests.{eq-eqb, ne_eqb, eqb-true, ltb-true, lt-ltb}
use Rattle.base.specs.Choice.{pick, both, all_below}
use Rattle.base.specs.Refusals.{code_of, STATE}
use Rattle.base.specs.Record.{E, B, «V», X, entry}
use Rattle.base.specs.declared.Txn.{Txn}
use Rattle.base.specs.declared.Sizes.{Sizes}
use Rattle.base.proofs.Choice.{case, both_true, all-at}
use Rattle.rules.specs.declared.State.{State}
use Rattle.rules.specs.Message.{Msg}
use Rattle.rules.specs.Server.{Server}
use Rattle.rules.specs.Step.{Input}
use Rattle.rules.specs.Cluster.{Cluster as Servers, Channels, Event, O, R, D, S, told, done, at, hand, event, after, enters, begun, newly, records}
use Rattle.rules.specs.Words.{txns, server_of, good_state}
use Rattle.rules.proofs.Words.{length-txns, take-txns}
use Rattle.server.proofs.Laws.{facts}
use Rattle.ring.specs.Queue.{good_rings}
use Rattle.site.specs.declared.Cluster.{Cluster}
use Rattle.site.specs.declared.Told.{Told}
use Rattle.site.specs.Parts.{part}
use Rattle.site.specs.Site.{Site, site_of, record_at, seated, server_at, cluster_of, good_seat, fitting, good_site}
use Rattle.site.proofs.Seats.{part_in}
use Rattle.site.proofs.Goods.{Fits, fit-facts}
use Rattle.turn.proofs.Outcomes.{outcome-after}
use Rattle.turn.specs.Events.{whole_event, actor, asks, outcome_of}
use Rattle.turn.specs.Turns.{after_of}
use Rattle.cluster.specs.Any.{Happens}
use Rattle.script.specs.Text.{bytes_of, Wrote}
use Rattle.scribe.specs.Telling.{text, marked, notes, entered, done_by, Seen, said, Tells}
use Rattle.scribe.proofs.Notes.{text-one, notes-are}

-- ---- what is taken is taken by one of the servers

not_done : (k : ℕ) (c : Servers) (i : ℕ) (s s' : Server) (b : Bool) (d : Servers) → told k c ≡ done i s s' b d → ◌≡◌ {A = ℕ} 0 1
not_done k c i s s' b d e = cc

module _ (z : Sizes) (depth : ℕ) (c : Servers) (i : ℕ) (s s' : Server) (b : Bool) (d : Servers) where
  at_low : (j : ℕ) (y : Bool) (rest : Channels) (x : Input) → at z depth c j y rest x ≡ done i s s' b d → j < z.n
  unfolding at pick
  at_low j y rest x e = case (ltb j z.n)
      (λ (l : ltb j z.n ≡ true). ltb-true j z.n l)
      (λ (l : ltb j z.n ≡ false). let u : ◌≡◌ {A = ℕ} 0 1 = not_done _ _ i s s' b d (rw l at e) in absurd (omega arith))

  hand-low : (f t : ℕ) (q : List Msg) → hand z depth c f t q ≡ done i s s' b d → t < z.n
  unfolding hand
  hand-low f t [] e = let u : ◌≡◌ {A = ℕ} 0 1 = not_done _ _ i s s' b d e in absurd (omega arith)
  hand-low f t (m ∷ q) e = at_low t _ _ _ e

  done-low : (e : Event) → event z depth c e ≡ done i s s' b d → actor e < z.n
  unfolding event actor
  done-low (O n x) e = at_low n _ _ _ e
  done-low (R n) e = at_low n _ _ _ e
  done-low (D f t) e = hand-low f t _ e
  done-low (S n v) e = at_low n _ _ _ e

-- ---- its records, from the records of the server before and after it

pub done-records : (line : ℕ) (b : Bool) (s t : State) (h k h' k' : List ℕ) (c : Servers) → t.d.0 ≤ t.len.0
    → records line (done t.me (server_of s h k) (server_of t h' k') b c) ≡ done_by b s t h'
unfolding records enters begun newly done_by entered marked pick notes
done-records line true s t h k h' k' c l =
    let e : map (λ x. B t.me (entry x)) (drop (length (txns s.len.0 h)) (txns t.len.0 h')) ≡ notes true t.me h' s.len.0 (t.len.0 - s.len.0)
    = ap (λ (n : ℕ). map (λ x. B t.me (entry x)) (drop n (txns t.len.0 h'))) (length-txns s.len.0 h) ∙ notes-are true t.me h' s.len.0 t.len.0 in
    let f : map (λ x. «V» t.me (entry x)) (drop s.d.0 (take t.d.0 (txns t.len.0 h'))) ≡ notes false t.me h' s.d.0 (t.d.0 - s.d.0)
    = ap (λ (y : List Txn). map (λ x. «V» t.me (entry x)) (drop s.d.0 y)) (take-txns t.d.0 t.len.0 h' l) ∙ notes-are false t.me h' s.d.0 t.d.0 in
    λ j. pick (both (not (eqb s.stage 8)) (eqb t.stage 8)) (E t.me t.p.0 ∷ []) [] ++ (e j ++ f j)
done-records line false s t h k h' k' c l =
    let z : 0 - s.len.0 ≡ 0 = omega arith in
    let f : map (λ x. «V» t.me (entry x)) (drop s.d.0 (take t.d.0 (txns t.len.0 h'))) ≡ notes false t.me h' s.d.0 (t.d.0 - s.d.0)
    = ap (λ (y : List Txn). map (λ x. «V» t.me (entry x)) (drop s.d.0 y)) (take-txns t.d.0 t.len.0 h' l) ∙ notes-are false t.me h' s.d.0 t.d.0 in
    λ j. pick (both (not (eqb s.stage 8)) (eqb t.stage 8)) (E t.me t.p.0 ∷ []) [] ++ (notes true t.me h' s.len.0 (sym z j) ++ f j)

-- ---- a line

module _ (c : Cluster) (line : ℕ) (e : Event) (h k q o b : List ℕ) (t : Told) (h' k' q' o' : List ℕ) (H : Happens c e h k q o t h' k' q' o') where
  abbrev z : Sizes
  z = c.sizes

  abbrev w : Site
  w = site_of c h k q o

  abbrev w' : Site
  w' = site_of t.cluster h' k' q' o'

  rules : good_site z c.depth w ≡ true → cluster_of z c.depth w' ≡ after (event z c.depth (cluster_of z c.depth w) e)
  rules g = sym (ap after (H.rules g) ∙ outcome-after z c.depth e w (after_of t h' k' q' o'))

  module _ (r : ℕ) (b' : List ℕ) where
    tells : Wrote b 0 (said z c.depth line o e c h k q) r b' → Tells c line e h k q o b (record { end = r; cluster = t.cluster }) h' k' q' o' b'
    tells v = record { wrote = v; sizes = H.leaves.sizes; depth = H.leaves.depth; site = H.leaves.site; rules = rules; good = H.good }

    pub tell-refused : code_of t.answer ≢ 0 → Wrote b 0 (bytes_of (X line (code_of t.answer))) r b' → Tells c line e h k q o b (record { end = r; cluster = t.cluster }) h' k' q' o' b'
    unfolding said pick outcome_of records whole_event
    tell-refused n v = case (good_site z c.depth w)
        (λ (g : good_site z c.depth w ≡ true).
        let y : event z c.depth (cluster_of z c.depth w) e ≡ told (code_of t.answer) (cluster_of z c.depth w') = H.rules g ∙ rw (ne_eqb (code_of t.answer) 0 n) in
        tells (rw (g, y, text-one (X line (code_of t.answer))) v))
        (λ (g : good_site z c.depth w ≡ false).
        let y : code_of t.answer ≡ STATE = H.leaves.code ∙ rw g in
        tells (rw (g, text-one (X line STATE)) (subst (λ (n : ℕ). Wrote b 0 (bytes_of (X line n)) r b') y v)))

  -- ---- taken

  module _ (n : code_of t.answer ≡ 0) where
    well : good_site z c.depth w ≡ true
    unfolding whole_event pick
    well = case (good_site z c.depth w) (λ (g : good_site z c.depth w ≡ true). g)
        (λ (g : good_site z c.depth w ≡ false). let y : code_of t.answer ≡ STATE = H.leaves.code ∙ rw g in absurd (omega arith))

    is-done : event z c.depth (cluster_of z c.depth w) e ≡ done (actor e) (server_at z w (actor e)) (server_at z w' (actor e)) (asks e) (cluster_of z c.depth w')
    unfolding outcome_of pick
    is-done = H.rules well ∙ rw (eq-eqb (code_of t.answer) 0 n)

    pub low : actor e < z.n
    low = done-low z c.depth (cluster_of z c.depth w) (actor e) _ _ _ _ e is-done

    after-good : good_site z c.depth w' ≡ true
    after-good = H.good well

    fits : Fits z c.depth (length h') (length k') (length q') (length o')
    unfolding good_site
    fits = fit-facts z c.depth (length h') (length k') (length q') (length o') (both_true (fitting z c.depth (length h') (length k') (length q') (length o')) _ after-good).0

    seat : (i : ℕ) → i < z.n → ((record_at t.cluster.servers i).me ≡ i) × (good_state z (record_at t.cluster.servers i) (part z i h') (part z i k') ≡ true)
    unfolding good_site good_seat
    seat i l =
        let a = both_true (fitting z c.depth (length h') (length k') (length q') (length o')) _ after-good in
        let d = both_true (good_rings c.depth t.cluster.rings) (all_below z.n (good_seat z w')) a.1 in
        let f = both_true (eqb (record_at t.cluster.servers i).me i) (good_state z (record_at t.cluster.servers i) (part z i h') (part z i k')) (all-at z.n (good_seat z w') d.1 i l) in
        (eqb-true _ _ f.0, f.1)

    pub seen : (i : ℕ) → i ≡ actor e → Seen t.cluster i h'
    seen i y =
        let l : i < z.n = rw y low in
        let s = seat i l in
        let F = facts z (record_at t.cluster.servers i) (part z i h') (part z i k') fits.sizes s.1 in
        let u = H.leaves.sizes in
        record {
          low = rw u l;
          few = rw u F.most;
          room = rw u F.room;
          words = rw u (part_in z i z.n (length h') l fits.hists);
          len = rw u F.hist.1;
          told = F.d;
        }

    served : (v : Site) (i : ℕ) → i < z.n → server_at z v i ≡ seated z v i
    unfolding server_at pick
    served v i l = rw (lt-ltb i z.n l)

    pub tell-taken : (r i : ℕ) (y : Bool) (s : State) (b' : List ℕ) → i ≡ actor e → y ≡ asks e → s ≡ record_at c.servers i
        → Wrote b 0 (text (done_by y s (record_at t.cluster.servers i) (part t.cluster.sizes i h'))) r b'
        → Tells c line e h k q o b (record { end = r; cluster = t.cluster }) h' k' q' o' b'
    unfolding said pick
    tell-taken r i y s b' p f x v =
        let l : i < z.n = rw p low in
        let g = seat i l in
        let F = facts z (record_at t.cluster.servers i) (part z i h') (part z i k') fits.sizes g.1 in
        let u : event z c.depth (cluster_of z c.depth w) e ≡ done (record_at t.cluster.servers i).me (seated z w i) (seated z w' i) y (cluster_of z c.depth w')
        = is-done ∙ ap (λ (j : ℕ). done j (server_at z w j) (server_at z w' j) (asks e) (cluster_of z c.depth w')) (sym p)
        ∙ (λ j. done (sym g.0 j) (served w i l j) (served w' i l j) (sym f j) (cluster_of z c.depth w')) in
        let a : records line (event z c.depth (cluster_of z c.depth w) e) ≡ done_by y (record_at c.servers i) (record_at t.cluster.servers i) (part z i h')
        = ap (records line) u ∙ done-records line y (record_at c.servers i) (record_at t.cluster.servers i) (part z i h) (part z i k) (part z i h') (part z i k') (cluster_of z c.depth w') F.d in
        let v' : Wrote b 0 (text (done_by y (record_at c.servers i) (record_at t.cluster.servers i) (part z i h'))) r b'
        = subst (λ (m : State). Wrote b 0 (text (done_by y m (record_at t.cluster.servers i) (part z i h'))) r b') x
        (subst (λ (m : Sizes). Wrote b 0 (text (done_by y s (record_at t.cluster.servers i) (part m i h'))) r b') H.leaves.sizes v) in
        tells r b' (rw (well, a) v')
