-- Total order, local and global primary order, primary integrity: claims 32 to 35 of source document 000, of every run.
use Prim.Native.Nat.{ℕ, suc, ◌+◌, ◌-◌, ◌≤◌, ◌<◌}
use mathlib.Core.Path.{◌≡◌, refl, sym, ap, ◌∙◌}
use mathlib.Core.Logic.{◌≢◌, ⊎_elim}
use mathlib.Core.Bool.{true}
use mathlib.Core.List.{List, [], ◌∷◌, ◌++◌}
use native.Mathlib.Omega.{arith}
use lib.Dec.{eqb}
use lib.ListN.{length, get_or, length-take, length-append}
use lib.Seq.{get_or-take, get_or-append_seam, get_or-append-add}
use Rattle.base.specs.Transaction.{Hist, none, ident, epoch_of, id_at, Begins}
use Rattle.base.specs.Record.{Rec, E, B, «V», Entry, entry}
use Rattle.base.specs.declared.Txn.{Txn}
use Rattle.base.specs.declared.Sizes.{Sizes}
use Rattle.base.proofs.Choice.{passes, by_contra, le-or-lt, eq-or, pick_true}
use Rattle.base.proofs.History.{rising-pre, take-pre, pre-len}
use Rattle.rules.specs.Cluster.{Cluster, start, Event, play, trace}
use Rattle.ledger.specs.Delivered.{delivered_of}
use Rattle.ledger.specs.Records.{is_e, In, Before, gather, begun_by, begun_in}
use Rattle.ledger.proofs.Lists.{count-in, before-first}
use Rattle.ledger.proofs.Ghost.{Ghost, Good, Committed}
use Rattle.ledger.proofs.Candidate.{committed-in, committed-may}
use Rattle.ledger.proofs.Cluster.{Inv, runs-ok}
use Rattle.ledger.proofs.Agreement.{inv-agreement}
use Rattle.ledger.proofs.Traced.{gather_append, Traced}
use Rattle.ledger.proofs.Submitted.{same_at, server-origin, begun_here, here-length, here-at, here-number}
use Rattle.ledger.proofs.Traces.{traces-ok}

-- ---- what a server delivers rises

-- the identifier at index k
abbrev pub ident_at : Hist → ℕ → ℕ
ident_at h k = (get_or h k none).id.0

-- identifiers rise
pub delivered-rising : (n : ℕ) (c : Cluster) → Inv n c → (i j k : ℕ) → j < k → k < length (delivered_of (c.srv i)) → ident_at (delivered_of (c.srv i)) j < ident_at (delivered_of (c.srv i)) k
unfolding id_at
delivered-rising n c I i j k l b =
    let s = (c.srv i).dur in
    let v = (I.srv i).dur in
    rising-pre (delivered_of (c.srv i)) s.hist (take-pre s.hist s.d v.del.fits) (rising-pre s.hist (I.g.log s.a) v.part (I.good.rising s.a)) (suc j) (suc k) (omega arith) b

-- so a transaction has one place
one_place : (n : ℕ) (c : Cluster) → Inv n c → (i j k : ℕ) → j < length (delivered_of (c.srv i)) → k < length (delivered_of (c.srv i))
    → ident_at (delivered_of (c.srv i)) j ≡ ident_at (delivered_of (c.srv i)) k → j ≡ k
one_place n c I i j k a b q = ⊎_elim
    (λ (l : j ≤ k). ⊎_elim (λ (m : k ≤ j). omega arith) (λ (m : j < k). absurd (omega (arith, delivered-rising n c I i j k m b))) (le-or-lt k j))
    (λ (m : k < j). absurd (omega (arith, delivered-rising n c I i k j m a))) (le-or-lt j k)

-- ---- total order

pre_at : (x y : Hist) (k : ℕ) → Begins x y → k < length x → get_or x k none ≡ get_or y k none
pre_at x y k p l = ap (λ (h : Hist). get_or h k none) (sym p) ∙ get_or-take (length x) y k none l

module _ (n : ℕ) (c : Cluster) (I : Inv n c) (i i' : ℕ) where
  inv-total : (j k k' : ℕ) → j < k → k < length (delivered_of (c.srv i)) → k' < length (delivered_of (c.srv i')) → ident_at (delivered_of (c.srv i')) k' ≡ ident_at (delivered_of (c.srv i)) k
      → (k' ≡ k) × (get_or (delivered_of (c.srv i')) j none ≡ get_or (delivered_of (c.srv i)) j none)
  inv-total j k k' l a b q = ⊎_elim
      (λ (p : Begins (delivered_of (c.srv i)) (delivered_of (c.srv i'))).
      let m = pre-len (delivered_of (c.srv i)) (delivered_of (c.srv i')) p in (
        one_place n c I i' k' k b (omega arith) (q ∙ ap (λ (t : Txn). t.id.0) (pre_at (delivered_of (c.srv i)) (delivered_of (c.srv i')) k p a)),
        sym (pre_at (delivered_of (c.srv i)) (delivered_of (c.srv i')) j p (omega arith)),
      ))
      (λ (p : Begins (delivered_of (c.srv i')) (delivered_of (c.srv i))).
      let m = pre-len (delivered_of (c.srv i')) (delivered_of (c.srv i)) p in
      let e : k' ≡ k = one_place n c I i k' k (omega arith) a (sym (ap (λ (t : Txn). t.id.0) (pre_at (delivered_of (c.srv i')) (delivered_of (c.srv i)) k' p b)) ∙ q) in
      (e, pre_at (delivered_of (c.srv i')) (delivered_of (c.srv i)) j p (omega arith)))
      (inv-agreement n c I i i')

-- TOTAL ORDER. If a server delivers one transaction before another, any server that delivers the second delivers the first before it, at the same places.
pub total-order : (z : Sizes) (depth : ℕ) (es : List Event) (i i' j k k' : ℕ) → let c = play z depth start es in
    j < k → k < length (delivered_of (c.srv i)) → k' < length (delivered_of (c.srv i')) → ident_at (delivered_of (c.srv i')) k' ≡ ident_at (delivered_of (c.srv i)) k
    → (k' ≡ k) × (get_or (delivered_of (c.srv i')) j none ≡ get_or (delivered_of (c.srv i)) j none)
total-order z depth es i i' j k k' l a b q = inv-total z.n (play z depth start es) (runs-ok z depth es) i i' j k k' l a b q

-- ---- global primary order

-- GLOBAL PRIMARY ORDER. A server delivers what was submitted in an earlier epoch before what was submitted in a later one.
pub global-primary-order : (z : Sizes) (depth : ℕ) (es : List Event) (i j k : ℕ) → let c = play z depth start es in
    j < length (delivered_of (c.srv i)) → k < length (delivered_of (c.srv i))
    → (entry (get_or (delivered_of (c.srv i)) j none)).ep < (entry (get_or (delivered_of (c.srv i)) k none)).ep → j < k
global-primary-order z depth es i j k a b l = ⊎_elim
    (λ (m : k ≤ j). ⊎_elim
    (λ (e : j ≡ k). absurd (omega (arith, ap (λ (x : ℕ). ident_at (delivered_of ((play z depth start es).srv i)) x) e)))
    (λ (e : j ≢ k). absurd (omega (arith, delivered-rising z.n (play z depth start es) (runs-ok z depth es) i k j (omega arith) a))) (eq-or j k))
    (λ (m : j < k). m) (le-or-lt k j)

-- ---- local primary order

-- the entries of two B records of epoch e, the one before the other
begun-two : (e s s' : ℕ) (t t' : Entry) (tr : List Rec) → t.ep ≡ e → t'.ep ≡ e → Before (B s t) (B s' t') tr
    → (a m r : List Entry) × (begun_in e tr ≡ a ++ (t ∷ (m ++ (t' ∷ r))))
unfolding gather begun_by
begun-two e s s' t t' tr q q' b =
    let y : eqb t.ep e ≡ true = omega passes in
    let y' : eqb t'.ep e ≡ true = omega passes in (
      begun_in e b.front,
      begun_in e b.middle,
      begun_in e b.back,
      ap (begun_in e) b.splits ∙ gather_append (begun_by e) b.front (B s t ∷ (b.middle ++ (B s' t' ∷ b.back)))
          ∙ rw (y, pick_true (t ∷ []) [], gather_append (begun_by e) b.middle (B s' t' ∷ b.back), y', pick_true (t' ∷ []) []),
    )

-- their places
pub record TwoAt (l : List Entry) (t t' : Entry) : Type 0 where
  pub one : ℕ
  pub two : ℕ
  pub less : one < two
  pub fits : two < length l
  pub first : get_or l one (entry none) ≡ t
  pub second : get_or l two (entry none) ≡ t'

two_at : (l a m r : List Entry) (t t' : Entry) → l ≡ a ++ (t ∷ (m ++ (t' ∷ r))) → TwoAt l t t'
two_at l a m r t t' q = record {
  one = length a;
  two = length a + suc (length m);
  less = omega arith;
  fits = omega (arith, ap length q, length-append a (t ∷ (m ++ (t' ∷ r))), length-append m (t' ∷ r));
  first = ap (λ (x : List Entry). get_or x (length a) (entry none)) q ∙ get_or-append_seam a t (m ++ (t' ∷ r)) (entry none);
  second = ap (λ (x : List Entry). get_or x (length a + suc (length m)) (entry none)) q ∙ get_or-append-add a (t ∷ (m ++ (t' ∷ r))) (suc (length m)) (entry none) ∙ get_or-append_seam m t' r (entry none);
}

module _ (n : ℕ) (g : Ghost) (G : Good n g) (tr : List Rec) (T : Traced g tr) (e : ℕ) (pos : 0 < e) where
  -- of two B records of e, the first stands in the log of e before the second
  log-order : (s s' : ℕ) (t t' : Entry) → t.ep ≡ e → t'.ep ≡ e → Before (B s t) (B s' t') tr → (k : ℕ) → g.base e ≤ k → k < length (g.log e) → entry (get_or (g.log e) k none) ≡ t'
      → (j : ℕ) × (j < k) × (entry (get_or (g.log e) j none) ≡ t)
  unfolding begun_here
  log-order s s' t t' q q' b k past inside h =
      let w = begun-two e s s' t t' tr q q' b in
      let y : TwoAt (begun_here g e) t t' = two_at (begun_here g e) w.0 w.1 w.2 t t' (sym (T.own e) ∙ w.3) in
      let ln : length (begun_here g e) ≡ length (g.log e) - g.base e = here-length n g G tr T e pos in
      let kk : g.base e + (k - g.base e) ≡ k = omega arith in
      let at-k : get_or (begun_here g e) (k - g.base e) (entry none) ≡ t' = here-at n g G tr T e pos (k - g.base e) ∙ ap (λ (x : ℕ). entry (get_or (g.log e) x none)) kk ∙ h in
      let c₁ : t'.ct ≡ suc (k - g.base e) = ap (λ (x : Entry). x.ct) (sym at-k) ∙ (here-number n g G tr T e pos (k - g.base e) (omega arith)).1 in
      let c₂ : t'.ct ≡ suc y.two = ap (λ (x : Entry). x.ct) (sym y.second) ∙ (here-number n g G tr T e pos y.two y.fits).1 in
      (g.base e + y.one, omega (arith, y.less), sym (here-at n g G tr T e pos y.one) ∙ y.first)

module _ (n : ℕ) (c : Cluster) (I : Inv n c) (tr : List Rec) (T : Traced I.g tr) where
  run-local : (s s' : ℕ) (t t' : Entry) → Before (B s t) (B s' t') tr → t.ep ≡ t'.ep → (i k : ℕ) → k < length (delivered_of (c.srv i)) → entry (get_or (delivered_of (c.srv i)) k none) ≡ t'
      → (j : ℕ) × (j < k) × (entry (get_or (delivered_of (c.srv i)) j none) ≡ t)
  unfolding id_at
  run-local s s' t t' b q i k l h =
      let o = server-origin n c I i k l in
      let q' : t'.ep ≡ o.ep = ap (λ (x : Entry). x.ep) (sym h) ∙ o.is in
      let at : (j : ℕ) → j < suc k → get_or (delivered_of (c.srv i)) j none ≡ get_or (I.g.log o.ep) j none = λ j m. same_at j (suc k) (delivered_of (c.srv i)) (I.g.log o.ep) m o.same in
      let w = log-order n I.g I.good tr T o.ep o.pos s s' t t' (q ∙ q') q' b k o.past o.inside (ap entry (sym (at k (omega arith))) ∙ h) in
      (w.0, w.1, ap entry (at w.0 (omega (arith, w.1))) ∙ w.2)

-- LOCAL PRIMARY ORDER. If t is submitted before t' in one epoch, a server that delivers t' delivers t before it.
pub local-primary-order : (z : Sizes) (depth line : ℕ) (es : List Event) (s s' : ℕ) (t t' : Entry) → let c = play z depth start es in
    Before (B s t) (B s' t') (trace z depth start line es) → t.ep ≡ t'.ep → (i k : ℕ) → k < length (delivered_of (c.srv i)) → entry (get_or (delivered_of (c.srv i)) k none) ≡ t'
    → (j : ℕ) × (j < k) × (entry (get_or (delivered_of (c.srv i)) j none) ≡ t)
local-primary-order z depth line es s s' t t' b q i k l h =
    let r = traces-ok z depth line es in
    run-local z.n (play z depth start es) r.inv (trace z depth start line es) r.traced s s' t t' b q i k l h

-- ---- primary integrity

module _ (n : ℕ) (g : Ghost) (G : Good n g) (e : ℕ) (set : Committed n g e (g.base e)) where
  -- what is committed anywhere and is of an earlier epoch than e, which is established, lies in the initial history of e
  pub earlier : (e₁ d k : ℕ) → Committed n g e₁ d → k < d → epoch_of (ident_at (g.log e₁) k) < e → (k < g.base e) × (get_or (g.log e) k none ≡ get_or (g.log e₁) k none)
  unfolding id_at
  earlier e₁ d k cm l low = ⊎_elim
      (λ (x : e₁ ≤ e). ⊎_elim
      (λ (y : e ≤ e₁).
      let q : e₁ ≡ e = omega arith in (
        by_contra (suc k) (g.base e) (λ m.
            let b : k < length (g.log e) = omega (arith, rw q at (committed-in n g G e₁ d cm).1) in
            let w : ident_at (g.log e) k ≡ ident e (suc (k - g.base e)) = G.own-id e k (omega arith) (omega arith) b in
            let v : ident_at (g.log e) k < ident (suc e) 0 = G.ids e (suc k) b in
            omega (arith, rw q at low)),
        rw q refl,
      ))
      (λ (y : e₁ < e).
      let r = G.choose e₁ e d y (committed-in n g G e (g.base e) set).0 (committed-may n g G e₁ d cm) in
      (omega (arith, r.0), sym (same_at k d (g.log e₁) (g.log e) l r.1)))
      (le-or-lt e e₁))
      (λ (x : e < e₁).
      let o = committed-in n g G e₁ d cm in
      let m : k < g.base e = by_contra (suc k) (g.base e) (λ y.
      let w : ident e 0 ≤ ident_at (g.log e₁) k = G.later e e₁ k (omega arith) x o.0 (committed-may n g G e (g.base e) set) (omega arith) (omega (arith, o.1)) in
      omega arith) in
      let r = G.choose e e₁ (g.base e) x o.0 (committed-may n g G e (g.base e) set) in
      (m, same_at k (g.base e) (g.log e) (g.log e₁) m r.1))
      (le-or-lt e₁ e)

module _ (n : ℕ) (c : Cluster) (I : Inv n c) (tr : List Rec) (T : Traced I.g tr) where
  -- an epoch with a B is established
  begun-settled : (s : ℕ) (t : Entry) → In (B s t) tr → Committed n I.g t.ep (I.g.base t.ep)
  unfolding is_e
  begun-settled s t m = I.good.settled t.ep
      (omega (arith, T.est t.ep, count-in (is_e t.ep) (E s t.ep) tr (before-first (E s t.ep) (B s t) tr (T.led s t m)) (omega passes)))

  run-integrity : (s : ℕ) (t : Entry) → In (B s t) tr → (i k : ℕ) → k < length (delivered_of (c.srv i)) → (entry (get_or (delivered_of (c.srv i)) k none)).ep < t.ep
      → Before («V» s (entry (get_or (delivered_of (c.srv i)) k none))) (B s t) tr
  run-integrity s t m i k l low =
      let u = (c.srv i).dur in
      let b : k < u.d = omega (arith, length-take u.d u.hist) in
      let v = (I.srv i).dur.del.safe (omega arith) in
      let q : get_or (delivered_of (c.srv i)) k none ≡ get_or (I.g.log v.0) k none = get_or-take u.d u.hist k none b ∙ same_at k u.d u.hist (I.g.log v.0) b v.3 in
      let r = earlier n I.g I.good t.ep (begun-settled s t m) v.0 u.d k v.2 b (rw q at low) in
      rw (q ∙ sym r.1) (T.prior s t m k r.0)

-- PRIMARY INTEGRITY. Before a server submits in an epoch it has delivered all of earlier epochs that any server ever delivers.
pub primary-integrity : (z : Sizes) (depth line : ℕ) (es : List Event) (s : ℕ) (t : Entry) → let c = play z depth start es in
    In (B s t) (trace z depth start line es) → (i k : ℕ) → k < length (delivered_of (c.srv i)) → (entry (get_or (delivered_of (c.srv i)) k none)).ep < t.ep
    → Before («V» s (entry (get_or (delivered_of (c.srv i)) k none))) (B s t) (trace z depth start line es)
primary-integrity z depth line es s t m i k l low =
    let r = traces-ok z depth line es in
    run-integrity z.n (play z depth start es) r.inv (trace z depth start line es) r.traced s t m i k l low
