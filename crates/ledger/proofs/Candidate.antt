-- The key lemma: a candidate that is greatest among a quorum's reports begins with whatever may be committed below.
use Prim.Native.Nat.{ℕ, suc, ◌≤◌, ◌<◌}
use mathlib.Core.Path.{◌≡◌, refl, sym, ◌∙◌}
use mathlib.Core.Logic.{◌≢◌, ⊎_elim}
use native.Mathlib.Omega.{arith}
use lib.ListN.{length, take}
use Rattle.base.specs.Transaction.{Hist, ident, id_at, last_id}
use Rattle.base.proofs.Choice.{by_contra, le-or-lt, eq-or}
use Rattle.base.proofs.Quorum.{Most, most-map, most-meet}
use Rattle.base.proofs.History.{pre-len, agree-low, pre-take, last-longer, id-agree}
use Rattle.ledger.proofs.Ghost.{Ghost, Good, Report, May, Committed}

-- s has reported a pair not above (a, the last identifier of h)
pub record Below (g : Ghost) (e a : ℕ) (h : Hist) (s : ℕ) : Type 0 where
  pub a' : ℕ
  pub h' : Hist
  pub rep : Report g e s a' h'
  pub first : a' ≤ a
  pub then : a' ≡ a → last_id h' ≤ last_id h

-- the candidate (a, h) for epoch e', which r reported
module _ (n : ℕ) (g : Ghost) (G : Good n g) (e' a : ℕ) (h : Hist) (r : ℕ) (R : Report g e' r a h) where
  -- h begins with the first c of e
  abbrev pub In : ℕ → ℕ → Type 0
  In e c = (c ≤ length h) × (take c (g.log e) ≡ take c h)

  -- s reported the candidate's own epoch, and holds c of it
  same : (c s : ℕ) (h' : Hist) → Report g e' s a h' → last_id h' ≤ last_id h → c < g.ackd a s → In a c
  same c s h' S q k =
      let l : length h' ≤ length h = last-longer (g.log a) h' h (G.rising a) S.part R.part q in
      let m : c ≤ length h = omega (arith, S.held) in
      (m, sym (pre-take h (g.log a) c R.part m))

  -- the candidate is of a later epoch, which began with all that may be committed
  later : (e c : ℕ) → e < a → Most n (May g e c) → In e c
  later e c k may =
      let o : 0 < g.ackd a r = omega (arith, R.held) in
      let y = G.choose e a c k (G.owned a r o) may in
      let m : c ≤ length h = omega (arith, y.0, G.above a r o, R.held) in
      (m, y.1 ∙ sym (pre-take h (g.log a) c R.part m))

  -- s holds something of e, so it reported e or more
  reported : (e c s : ℕ) → e < e' → (b : Below g e' a h s) → c < g.ackd e s → e ≤ b.a'
  reported e c s lt b held = by_contra e b.a' (λ x. omega (arith, b.rep.none e x lt))

  -- by what one server of both quorums holds and reported
  at : (e c s : ℕ) → e < e' → Most n (May g e c) → Below g e' a h s → c < g.ackd e s → In e c
  at e c s lt may b held = ⊎_elim
      (λ (k : a ≤ e).
      let q : e ≡ a = omega (arith, b.first, reported e c s lt b held) in
      let qa : b.a' ≡ a = omega (arith, b.first, reported e c s lt b held) in
      rw q (same c s b.h' (rw qa at b.rep) (b.then qa) (rw q at held)))
      (λ (k : e < a). later e c k may)
      (le-or-lt a e)

  -- the key lemma: what may be committed below begins the candidate
  pub chosen : Most n (Below g e' a h) → (e c : ℕ) → e < e' → Most n (May g e c) → In e c
  chosen all e c lt may = let t = most-meet all may in at e c t.0 lt may t.1 (t.2 (omega (arith, t.1.rep.promised)))

  -- and what it has past the initial history of such an epoch is of no earlier one
  pub chosen-ids : Most n (Below g e' a h) → (e k : ℕ) → 0 < e → e < e' → Most n (May g e (g.base e)) → g.base e ≤ k → k < length h → ident e 0 ≤ id_at h (suc k)
  chosen-ids all e k pos lt may b l =
      let t = most-meet all may in
      let low = reported e (g.base e) t.0 lt t.1 (t.2 (omega (arith, t.1.rep.promised))) in
      let eqt : id_at h (suc k) ≡ id_at (g.log a) (suc k) = id-agree (suc k) h (g.log a) (pre-take h (g.log a) (suc k) R.part l) in
      let in-a : k < length (g.log a) = omega (arith, pre-len h (g.log a) R.part) in
      ⊎_elim
      (λ (z : a ≤ e). let q : e ≡ a = omega (arith, t.1.first, low) in omega (arith, eqt, rw q at (G.own-id e k pos b (rw (← q) at in-a))))
      (λ (z : e < a). omega (arith, eqt, G.later e a k pos z (G.owned a r (omega (arith, R.held))) may b in-a))
      (le-or-lt a e)

-- an epoch for which a quorum has voted x, and which x has not taken, is nobody's
pub free-epoch : (n : ℕ) (g : Ghost) (G : Good n g) (e x : ℕ) → 0 < e → Most n (λ s. g.vote e s ≡ suc x) → g.owner e ≢ suc x → g.owner e ≡ 0
free-epoch n g G e x p v f = ⊎_elim (λ (q : g.owner e ≡ 0). q)
    (λ (q : g.owner e ≢ 0). let t = most-meet v (G.elected e p (omega arith)) in absurd (f (sym t.2 ∙ t.1))) (eq-or (g.owner e) 0)

module _ (n : ℕ) (g : Ghost) (G : Good n g) where
  -- what is committed may be committed
  pub committed-may : (e c : ℕ) → Committed n g e c → Most n (May g e c)
  committed-may e c m = most-map (λ s a _. a) m

  -- and lies in an owned log
  pub committed-in : (e c : ℕ) → Committed n g e c → (0 < g.owner e) × (c ≤ length (g.log e))
  committed-in e c m = let t = most-meet m m in (G.owned e t.0 (omega (arith, t.1)), omega (arith, t.1, G.within e t.0))

-- ---- agreement of what is committed

-- the first i of one and the first j of the other: one begins the other
pub record Fit (x : Hist) (i : ℕ) (y : Hist) (j : ℕ) : Type 0 where
  pub left : i ≤ j → take i x ≡ take i y
  pub right : j ≤ i → take j x ≡ take j y

-- either way round
pub fit-sym : {x y : Hist} {a b : ℕ} → Fit x a y b → Fit y b x a
fit-sym f = record { left = λ k. sym (f.right k); right = λ k. sym (f.left k) }

-- of two epochs, the later began with all that is committed in the earlier
module _ (n : ℕ) (g : Ghost) (G : Good n g) where
  committed-low : (e e' c c' : ℕ) → e < e' → Committed n g e c → Committed n g e' c' → Fit (g.log e) c (g.log e') c'
  committed-low e e' c c' k m m' =
      let r = G.choose e e' c k (committed-in n g G e' c' m').0 (committed-may n g G e c m) in
      record { left = λ _. r.1; right = λ le. agree-low c' c (g.log e) (g.log e') le r.1 }

  -- what is committed, in whichever epochs, fits together
  pub committed-fit : (e e' c c' : ℕ) → Committed n g e c → Committed n g e' c' → Fit (g.log e) c (g.log e') c'
  committed-fit e e' c c' m m' = ⊎_elim
      (λ (k : e ≤ e'). ⊎_elim
      (λ (l : e' ≤ e). let q : e ≡ e' = omega arith in rw q (record { left = λ _. refl; right = λ _. refl }))
      (λ (l : e < e'). committed-low e e' c c' l m m') (le-or-lt e' e))
      (λ (l : e' < e). fit-sym (committed-low e' e c' c l m' m))
      (le-or-lt e e')
