-- The five ways in which the ghost grows: a promise, a history held, an append to a log, an election, an establishment. Each keeps `Good`.
use Prim.Native.Nat.{ℕ, suc, ◌-◌, ◌≤◌, ◌<◌}
use mathlib.Core.Path.{◌≡◌, refl, sym, ap, ◌∙◌}
use mathlib.Core.Logic.{◌≢◌, ◌⊎◌, inl, inr, ⊎_elim}
use native.Mathlib.Omega.{arith}
use mathlib.Core.List.{[], ◌∷◌, ◌++◌}
use lib.ListN.{length, take, drop, get_or, length-append}
use lib.Seq.{get_or-take, take-append_seam, take-append-le, drop-append-le, drop-length, drop-nil}
use Rattle.base.specs.Choice.{upd, upd₂}
use Rattle.base.specs.Transaction.{Hist, none, ident, epoch_of, id_at, last_id, Begins}
use Rattle.base.specs.declared.Txn.{Txn}
use Rattle.base.proofs.Choice.{by_contra, le-or-lt, eq-or, upd-at, upd_same, upd_other, upd₂-at, upd₂-other}
use Rattle.base.proofs.Quorum.{Most, most-map, most-meet}
use Rattle.base.proofs.History.{Rising, pre-len, pre-refl, pre-trans, pre-take, rising_snoc, ids-snoc, id-agree, id-old, id-new}
use Rattle.ledger.proofs.Ghost.{Ghost, Good, Grow, Only, Origin, May, Committed, own}
use Rattle.ledger.proofs.Candidate.{committed-in}

-- ---- what stays true of a ghost that grew

-- where l and h agree up to a transaction, it has one origin
pub origin-as : (g : Ghost) (h l : Hist) (k : ℕ) → take (suc k) h ≡ take (suc k) l → Origin g l k → Origin g h k
origin-as g h l k q o = record {
  ep = o.ep;
  is = ap epoch_of (id-agree (suc k) h l q) ∙ o.is;
  pos = o.pos;
  owned = o.owned;
  past = o.past;
  inside = o.inside;
  same = q ∙ o.same;
}

module _ (n : ℕ) (g g' : Ghost) (G : Good n g) (W : Grow g g') where
  -- what may be committed below an epoch that is owned has a length within its log
  pub may-within : (e e' c : ℕ) → e < e' → 0 < g.owner e' → Most n (May g e c) → (0 < g.owner e) × (c ≤ length (g.log e))
  may-within e e' c k o m =
      let t = most-meet (G.elected e' (omega arith) o) m in
      let p : e' ≤ g.prom t.0 = G.voted e' t.0 (omega (arith, t.1)) in
      let a : c < g.ackd e t.0 = t.2 (omega arith) in
      (G.owned e t.0 (omega arith), omega (arith, G.within e t.0))

  -- what may be committed might before
  pub may-down : (e c : ℕ) → Most n (May g' e c) → Most n (May g e c)
  may-down e c m = most-map (λ s f p. rw (W.frozen e s p) at (f (omega (arith, W.prom s)))) m

  -- what is committed stays so
  pub committed-up : (e c : ℕ) → Committed n g e c → Committed n g' e c
  committed-up e c = most-map (λ s a. omega (arith, W.ackd e s))

  -- an old owner keeps its votes
  pub old-elected : (e : ℕ) → 0 < e → 0 < g.owner e → Most n (λ s. g'.vote e s ≡ g'.owner e)
  old-elected e k o = most-map (λ s v. W.vote e s (omega arith) ∙ v ∙ sym (W.owner e o)) (G.elected e k o)

  -- an established epoch stays so
  pub old-settled : (e : ℕ) → 0 < g.est e → Committed n g' e (g'.base e)
  old-settled e p = let m = G.settled e p in rw (W.base e (committed-in n g G e (g.base e) m).0) (committed-up e (g.base e) m)

  -- an owned log reads as before up to any c within it
  pub log-up : (e c : ℕ) → 0 < g.owner e → c ≤ length (g.log e) → take c (g.log e) ≡ take c (g'.log e)
  log-up e c o l = pre-take (g.log e) (g'.log e) c (W.log e o) l

  -- and at any place within it
  pub log-at : (e k : ℕ) → 0 < g.owner e → k < length (g.log e) → get_or (g'.log e) k none ≡ get_or (g.log e) k none
  log-at e k o l = sym (get_or-take (length (g.log e)) (g'.log e) k none l) ∙ ap (λ (h : Hist). get_or h k none) (W.log e o)

  -- an origin stays
  pub old-origin : (l : Hist) (k : ℕ) → Origin g l k → Origin g' l k
  old-origin l k o = record {
    ep = o.ep;
    is = o.is;
    pos = o.pos;
    owned = omega (arith, o.owned, W.owner o.ep o.owned);
    past = omega (arith, o.past, W.base o.ep o.owned);
    inside = omega (arith, o.inside, pre-len (g.log o.ep) (g'.log o.ep) (W.log o.ep o.owned));
    same = o.same ∙ log-up o.ep (suc k) o.owned o.inside;
  }

  -- what a later epoch began with stays
  pub old-choose : (e e' c : ℕ) → e < e' → 0 < g.owner e' → Most n (May g' e c) → (c ≤ g'.base e') × (take c (g'.log e) ≡ take c (g'.log e'))
  old-choose e e' c k o m =
      let d = may-down e c m in
      let w = may-within e e' c k o d in
      let y = G.choose e e' c k o d in
      (omega (arith, W.base e' o, y.0), sym (log-up e c w.0 w.1) ∙ y.1 ∙ log-up e' c o (omega (arith, y.0, G.based e')))

-- ---- 1. server i promises epoch e to x

-- its promise rises, and that is its vote
unfoldable pub promise : Ghost → ℕ → ℕ → ℕ → Ghost
promise g i e x = record {
  prom = upd g.prom i e;
  vote = upd₂ g.vote e i (suc x);
  owner = g.owner;
  base = g.base;
  log = g.log;
  ackd = g.ackd;
  est = g.est;
}

module _ (n : ℕ) (g : Ghost) (G : Good n g) (i e x : ℕ) (k : g.prom i < e) where
  promise-prom : (s : ℕ) → g.prom s ≤ upd g.prom i e s
  promise-prom s = upd-at (λ (v : ℕ). g.prom s ≤ v) g.prom i e s (λ q. rw q (omega arith)) (λ _. omega arith)

  pub promise-grow : Grow g (promise g i e x)
  unfolding promise
  promise-grow = record {
    prom = promise-prom;
    vote = λ e₀ s p. upd₂-at (λ (v : ℕ). v ≡ g.vote e₀ s) g.vote e i (suc x) e₀ s
        (λ q r. absurd (omega (arith, G.voted e₀ s p, ap g.prom r))) (λ _. refl);
    owner = λ _ _. refl;
    base = λ _ _. refl;
    log = λ e₀ _. pre-refl (g.log e₀);
    ackd = λ e₀ s. omega arith;
    frozen = λ _ _ _. refl;
  }

  pub promise-good : Good n (promise g i e x)
  unfolding promise
  promise-good = record {
    voted = λ e₀ s. upd₂-at (λ (v : ℕ). 0 < v → e₀ ≤ upd g.prom i e s) g.vote e i (suc x) e₀ s
        (λ q r _. omega (arith, ap (upd g.prom i e) r, upd_same g.prom i e))
        (λ _ p. omega (arith, G.voted e₀ s p, promise-prom s));
    acked = λ e₀ s p. omega (arith, G.acked e₀ s p, promise-prom s);
    elected = old-elected n g (promise g i e x) G promise-grow;
    rules = λ e₀ y z o. omega (arith, G.rules e₀ y z o, promise-prom y);
    owned = G.owned;
    above = G.above;
    within = G.within;
    unowned = G.unowned;
    based = G.based;
    rising = G.rising;
    ids = G.ids;
    low-ids = G.low-ids;
    own-id = G.own-id;
    origin = λ e₀ j l. old-origin n g (promise g i e x) G promise-grow (g.log e₀) j (G.origin e₀ j l);
    once = G.once;
    settled = old-settled n g (promise g i e x) G promise-grow;
    choose = old-choose n g (promise g i e x) G promise-grow;
    later = λ e₀ e' j z lt ow m. G.later e₀ e' j z lt ow (may-down n g (promise g i e x) G promise-grow e₀ (g.base e₀) m);
  }

-- ---- 2. server i, whose promise is e, comes to hold k transactions of e

-- it has now held that much
unfoldable pub hold : Ghost → ℕ → ℕ → ℕ → Ghost
hold g i e k = record {
  prom = g.prom;
  vote = g.vote;
  owner = g.owner;
  base = g.base;
  log = g.log;
  ackd = upd₂ g.ackd e i (suc k);
  est = g.est;
}

-- what it takes: e is owned, k covers its initial history and lies in its log, and i held no more
pub record Holdable (g : Ghost) (i e k : ℕ) : Type 0 where
  pub prom : g.prom i ≡ e
  pub owned : 0 < g.owner e
  pub above : g.base e ≤ k
  pub within : k ≤ length (g.log e)
  pub up : g.ackd e i ≤ suc k

module _ (n : ℕ) (g : Ghost) (G : Good n g) (i e k : ℕ) (A : Holdable g i e k) where
  pub hold-grow : Grow g (hold g i e k)
  unfolding hold
  hold-grow = record {
    prom = λ s. omega arith;
    vote = λ _ _ _. refl;
    owner = λ _ _. refl;
    base = λ _ _. refl;
    log = λ e₀ _. pre-refl (g.log e₀);
    ackd = λ e₀ s. upd₂-at (λ (v : ℕ). g.ackd e₀ s ≤ v) g.ackd e i (suc k) e₀ s (λ q r. rw (q, r) A.up) (λ _. omega arith);
    frozen = λ e₀ s z. upd₂-at (λ (v : ℕ). v ≡ g.ackd e₀ s) g.ackd e i (suc k) e₀ s (λ q r. absurd (omega (arith, A.prom, ap g.prom r))) (λ _. refl);
  }

  pub hold-good : Good n (hold g i e k)
  unfolding hold
  hold-good = record {
    voted = G.voted;
    acked = λ e₀ s. upd₂-at (λ (v : ℕ). 0 < v → e₀ ≤ g.prom s) g.ackd e i (suc k) e₀ s (λ q r _. omega (arith, A.prom, ap g.prom r)) (λ _. G.acked e₀ s);
    elected = G.elected;
    rules = G.rules;
    owned = λ e₀ s. upd₂-at (λ (v : ℕ). 0 < v → 0 < g.owner e₀) g.ackd e i (suc k) e₀ s (λ q _ _. rw q A.owned) (λ _. G.owned e₀ s);
    above = λ e₀ s. upd₂-at (λ (v : ℕ). 0 < v → g.base e₀ < v) g.ackd e i (suc k) e₀ s (λ q _ _. rw q (omega arith)) (λ _. G.above e₀ s);
    within = λ e₀ s. upd₂-at (λ (v : ℕ). v ≤ suc (length (g.log e₀))) g.ackd e i (suc k) e₀ s (λ q _. rw q (omega arith)) (λ _. G.within e₀ s);
    unowned = G.unowned;
    based = G.based;
    rising = G.rising;
    ids = G.ids;
    low-ids = G.low-ids;
    own-id = G.own-id;
    origin = λ e₀ j z. old-origin n g (hold g i e k) G hold-grow (g.log e₀) j (G.origin e₀ j z);
    once = G.once;
    settled = old-settled n g (hold g i e k) G hold-grow;
    choose = old-choose n g (hold g i e k) G hold-grow;
    later = λ e₀ e' j z lt ow m. G.later e₀ e' j z lt ow (may-down n g (hold g i e k) G hold-grow e₀ (g.base e₀) m);
  }

-- ---- 3. the log of e is extended by t

-- t behind the log
unfoldable pub extend : Ghost → ℕ → Txn → Ghost
extend g e t = record {
  prom = g.prom;
  vote = g.vote;
  owner = g.owner;
  base = g.base;
  log = upd g.log e (g.log e ++ (t ∷ []));
  ackd = g.ackd;
  est = g.est;
}

-- what it takes: e is owned, and t has the next identifier of e, of 32 bits
pub record Extendable (g : Ghost) (e : ℕ) (t : Txn) : Type 0 where
  pub pos : 0 < e
  pub owned : 0 < g.owner e
  pub is : t.id.0 ≡ ident e (suc (length (g.log e) - g.base e))
  pub up : last_id (g.log e) < t.id.0
  pub small : t.id.0 < ident (suc e) 0

module _ (n : ℕ) (g : Ghost) (G : Good n g) (e : ℕ) (t : Txn) (A : Extendable g e t) where
  extend-len : (e₀ : ℕ) → length (g.log e₀) ≤ length (upd g.log e (g.log e ++ (t ∷ [])) e₀)
  extend-len e₀ = upd-at (λ (v : Hist). length (g.log e₀) ≤ length v) g.log e (g.log e ++ (t ∷ [])) e₀
      (λ q. rw q (omega (arith, length-append (g.log e) (t ∷ [])))) (λ _. omega arith)

  extend-old : (e₀ k : ℕ) → e₀ ≡ e → k ≤ length (g.log e₀) → id_at (g.log e ++ (t ∷ [])) k ≡ id_at (g.log e₀) k
  extend-old e₀ k q l = rw q (id-old (g.log e) t k (rw q at l))

  -- the new transaction, or an old one
  extend-at : (k : ℕ) → k < length (g.log e ++ (t ∷ [])) → ((k < length (g.log e)) × (id_at (g.log e ++ (t ∷ [])) (suc k) ≡ id_at (g.log e) (suc k))) ⊎ ((k ≡ length (g.log e)) × (id_at (g.log e ++ (t ∷ [])) (suc k) ≡ t.id.0))
  extend-at k l = ⊎_elim
      (λ (z : length (g.log e) ≤ k). let q : k ≡ length (g.log e) = omega (arith, length-append (g.log e) (t ∷ [])) in inr (q, rw q (id-new (g.log e) t)))
      (λ (z : k < length (g.log e)). inl (z, extend-old e (suc k) refl z))
      (le-or-lt (length (g.log e)) k)

  own_new : (k : ℕ) → g.base e ≤ k → k < length (g.log e ++ (t ∷ [])) → id_at (g.log e ++ (t ∷ [])) (suc k) ≡ ident e (suc (k - g.base e))
  own_new k b l = ⊎_elim (λ y. y.1 ∙ G.own-id e k A.pos b y.0) (λ y. omega (arith, y.0, y.1, A.is)) (extend-at k l)

  pub extend-grow : Grow g (extend g e t)
  unfolding extend
  extend-grow = record {
    prom = λ s. omega arith;
    vote = λ _ _ _. refl;
    owner = λ _ _. refl;
    base = λ _ _. refl;
    log = λ e₀ _. upd-at (λ (v : Hist). Begins (g.log e₀) v) g.log e (g.log e ++ (t ∷ [])) e₀
        (λ q. rw q (take-append_seam (g.log e) (t ∷ []))) (λ _. pre-refl (g.log e₀));
    ackd = λ e₀ s. omega arith;
    frozen = λ _ _ _. refl;
  }

  -- t itself is of epoch e
  origin-new : (k : ℕ) → k < length (g.log e ++ (t ∷ [])) → Origin (extend g e t) (g.log e ++ (t ∷ [])) k
  unfolding extend
  origin-new k l = ⊎_elim
      (λ y. origin-as (extend g e t) (g.log e ++ (t ∷ [])) (g.log e) k (take-append-le (suc k) (g.log e) (t ∷ []) y.0)
      (old-origin n g (extend g e t) G extend-grow (g.log e) k (G.origin e k y.0)))
      (λ y. record {
        ep = e;
        is = omega (arith, y.1, A.is);
        pos = A.pos;
        owned = A.owned;
        past = omega (arith, y.0, G.based e);
        inside = rw (upd_same g.log e (g.log e ++ (t ∷ []))) l;
        same = ap (take (suc k)) (sym (upd_same g.log e (g.log e ++ (t ∷ []))));
      })
      (extend-at k l)

  pub extend-good : Good n (extend g e t)
  unfolding extend
  extend-good = record {
    voted = G.voted;
    acked = G.acked;
    elected = G.elected;
    rules = G.rules;
    owned = G.owned;
    above = G.above;
    within = λ e₀ s. omega (arith, G.within e₀ s, extend-len e₀);
    unowned = λ e₀ z. upd-at (λ (v : Hist). v ≡ []) g.log e (g.log e ++ (t ∷ [])) e₀ (λ q. absurd (omega (arith, A.owned, ap g.owner q))) (λ _. G.unowned e₀ z);
    based = λ e₀. omega (arith, G.based e₀, extend-len e₀);
    rising = λ e₀. upd-at Rising g.log e (g.log e ++ (t ∷ [])) e₀ (λ q. rising_snoc (g.log e) t (G.rising e) A.up) (λ _. G.rising e₀);
    ids = λ e₀. upd-at (λ (v : Hist). (k : ℕ) → k ≤ length v → id_at v k < ident (suc e₀) 0) g.log e (g.log e ++ (t ∷ [])) e₀
        (λ q. rw q (ids-snoc (g.log e) t (ident (suc e) 0) (G.ids e) A.small)) (λ _. G.ids e₀);
    low-ids = λ e₀ k z b. upd-at (λ (v : Hist). id_at v k < ident e₀ 0) g.log e (g.log e ++ (t ∷ [])) e₀
        (λ q. omega (arith, G.low-ids e₀ k z b, extend-old e₀ k q (omega (arith, G.based e₀)))) (λ _. G.low-ids e₀ k z b);
    own-id = λ e₀ k z b. upd-at (λ (v : Hist). k < length v → id_at v (suc k) ≡ ident e₀ (suc (k - g.base e₀))) g.log e (g.log e ++ (t ∷ [])) e₀
        (λ q l. rw q (own_new k (rw q at b) l)) (λ _ l. G.own-id e₀ k z b l);
    origin = λ e₀ k. upd-at (λ (v : Hist). k < length v → Origin (extend g e t) v k) g.log e (g.log e ++ (t ∷ [])) e₀
        (λ _ l. origin-new k l) (λ _ l. old-origin n g (extend g e t) G extend-grow (g.log e₀) k (G.origin e₀ k l));
    once = G.once;
    settled = old-settled n g (extend g e t) G extend-grow;
    choose = old-choose n g (extend g e t) G extend-grow;
    later = λ e₀ e' k z lt o m b. upd-at (λ (v : Hist). k < length v → ident e₀ 0 ≤ id_at v (suc k)) g.log e (g.log e ++ (t ∷ [])) e'
        (λ q l. ⊎_elim (λ y. omega (arith, y.1, G.later e₀ e k z (rw q at lt) (rw q at o) m b y.0)) (λ y. omega (arith, y.1, A.is)) (extend-at k l)) (λ _ l. G.later e₀ e' k z lt o m b l);
  }

  -- only the leader of e has appended, and only t
  pub extend-own : own (extend g e t) e ≡ own g e ++ (t ∷ [])
  unfolding extend
  extend-own = ap (drop (g.base e)) (upd_same g.log e (g.log e ++ (t ∷ []))) ∙ drop-append-le (g.base e) (g.log e) (t ∷ []) (G.based e)

  pub extend-other : (e₀ : ℕ) → e₀ ≢ e → own (extend g e t) e₀ ≡ own g e₀
  unfolding extend
  extend-other e₀ q = ap (drop (g.base e₀)) (upd_other g.log e (g.log e ++ (t ∷ [])) e₀ q)

-- ---- 4. x becomes the owner of e, with the history h

-- h is the initial history
unfoldable pub elect : Ghost → ℕ → ℕ → Hist → Ghost
elect g x e h = record {
  prom = g.prom;
  vote = g.vote;
  owner = upd g.owner e (suc x);
  base = upd g.base e (length h);
  log = upd g.log e h;
  ackd = g.ackd;
  est = g.est;
}

-- what it takes: e is nobody's, x has promised it with the votes of a quorum; identifiers of h rise and are of earlier epochs, each submitted in its own;
-- h begins with all that may be committed below, and has nothing too early past it
pub record Electable (n : ℕ) (g : Ghost) (x e : ℕ) (h : Hist) : Type 0 where
  pub free : g.owner e ≡ 0
  pub mine : e ≤ g.prom x
  pub votes : Most n (λ s. g.vote e s ≡ suc x)
  pub up : Rising h
  pub small : (k : ℕ) → k ≤ length h → id_at h k < ident e 0
  pub roots : (k : ℕ) → k < length h → Origin g h k
  pub keeps : (e₀ c : ℕ) → e₀ < e → Most n (May g e₀ c) → (c ≤ length h) × (take c (g.log e₀) ≡ take c h)
  pub keeps-ids : (e₀ k : ℕ) → 0 < e₀ → e₀ < e → Most n (May g e₀ (g.base e₀)) → g.base e₀ ≤ k → k < length h → ident e₀ 0 ≤ id_at h (suc k)

module _ (n : ℕ) (g : Ghost) (G : Good n g) (x e : ℕ) (h : Hist) (A : Electable n g x e h) where
  pub elect-grow : Grow g (elect g x e h)
  unfolding elect
  elect-grow = record {
    prom = λ s. omega arith;
    vote = λ _ _ _. refl;
    owner = λ e₀ o. upd_other g.owner e (suc x) e₀ (λ q. omega (arith, A.free, ap g.owner q));
    base = λ e₀ o. upd_other g.base e (length h) e₀ (λ q. omega (arith, A.free, ap g.owner q));
    log = λ e₀ o. rw (upd_other g.log e h e₀ (λ q. omega (arith, A.free, ap g.owner q))) (pre-refl (g.log e₀));
    ackd = λ e₀ s. omega arith;
    frozen = λ _ _ _. refl;
  }

  nobody-yet : (e₀ s : ℕ) → e₀ ≡ e → 0 < g.ackd e₀ s → ⊥
  nobody-yet e₀ s q p = omega (arith, A.free, G.owned e₀ s p, ap g.owner q)

  pub elect-good : Good n (elect g x e h)
  unfolding elect
  elect-good = record {
    voted = G.voted;
    acked = G.acked;
    elected = λ e₀ z. upd-at (λ (v : ℕ). 0 < v → Most n (λ s. g.vote e₀ s ≡ v)) g.owner e (suc x) e₀ (λ q _. rw q A.votes) (λ _ o. G.elected e₀ z o);
    rules = λ e₀ y z. upd-at (λ (v : ℕ). v ≡ suc y → e₀ ≤ g.prom y) g.owner e (suc x) e₀
        (λ q r. let r' : y ≡ x = omega arith in rw (q, r') A.mine) (λ _ r. G.rules e₀ y z r);
    owned = λ e₀ s p. upd-at (λ (v : ℕ). 0 < v) g.owner e (suc x) e₀ (λ _. omega arith) (λ _. G.owned e₀ s p);
    above = λ e₀ s p. upd-at (λ (v : ℕ). v < g.ackd e₀ s) g.base e (length h) e₀ (λ q. absurd (nobody-yet e₀ s q p)) (λ _. G.above e₀ s p);
    within = λ e₀ s. upd-at (λ (v : Hist). g.ackd e₀ s ≤ suc (length v)) g.log e h e₀
        (λ q. by_contra (g.ackd e₀ s) (suc (length h)) (λ c. nobody-yet e₀ s q (omega arith))) (λ _. G.within e₀ s);
    unowned = λ e₀ z. ⊎_elim
        (λ (q : e₀ ≡ e). absurd (omega (arith, rw (q, upd_same g.owner e (suc x)) at z)))
        (λ (q : e₀ ≢ e). rw (upd_other g.log e h e₀ q) (G.unowned e₀ (rw (upd_other g.owner e (suc x) e₀ q) at z))) (eq-or e₀ e);
    based = λ e₀. ⊎_elim
        (λ (q : e₀ ≡ e). rw (q, upd_same g.base e (length h), upd_same g.log e h) (omega arith))
        (λ (q : e₀ ≢ e). rw (upd_other g.base e (length h) e₀ q, upd_other g.log e h e₀ q) (G.based e₀)) (eq-or e₀ e);
    rising = λ e₀. upd-at Rising g.log e h e₀ (λ _. A.up) (λ _. G.rising e₀);
    ids = λ e₀. upd-at (λ (v : Hist). (k : ℕ) → k ≤ length v → id_at v k < ident (suc e₀) 0) g.log e h e₀ (λ q k l. omega (arith, A.small k l)) (λ _. G.ids e₀);
    low-ids = λ e₀ k z b. ⊎_elim
        (λ (q : e₀ ≡ e). rw (q, upd_same g.log e h) (A.small k (rw (q, upd_same g.base e (length h)) at b)))
        (λ (q : e₀ ≢ e). rw (upd_other g.log e h e₀ q) (G.low-ids e₀ k z (rw (upd_other g.base e (length h) e₀ q) at b))) (eq-or e₀ e);
    own-id = λ e₀ k z b l. ⊎_elim
        (λ (q : e₀ ≡ e). absurd (omega (arith, rw (q, upd_same g.base e (length h)) at b, rw (q, upd_same g.log e h) at l)))
        (λ (q : e₀ ≢ e). rw (upd_other g.log e h e₀ q, upd_other g.base e (length h) e₀ q)
        (G.own-id e₀ k z (rw (upd_other g.base e (length h) e₀ q) at b) (rw (upd_other g.log e h e₀ q) at l))) (eq-or e₀ e);
    origin = λ e₀ k. upd-at (λ (v : Hist). k < length v → Origin (elect g x e h) v k) g.log e h e₀
        (λ _ l. old-origin n g (elect g x e h) G elect-grow h k (A.roots k l)) (λ _ l. old-origin n g (elect g x e h) G elect-grow (g.log e₀) k (G.origin e₀ k l));
    once = G.once;
    settled = old-settled n g (elect g x e h) G elect-grow;
    choose = λ e₀ e' c lt o m. ⊎_elim
        (λ (q : e' ≡ e). rw (q, upd_same g.base e (length h), upd_same g.log e h, upd_other g.log e h e₀ (omega arith)) (A.keeps e₀ c (omega arith) m))
        (λ (q : e' ≢ e). old-choose n g (elect g x e h) G elect-grow e₀ e' c lt (rw (upd_other g.owner e (suc x) e' q) at o) m)
        (eq-or e' e);
    later = λ e₀ e' k z lt o m b l. ⊎_elim
        (λ (q : e' ≡ e).
        let ne : e₀ ≢ e = omega arith in
        rw (q, upd_same g.log e h)
        (A.keeps-ids e₀ k z (omega arith) (rw (upd_other g.base e (length h) e₀ ne) at m) (rw (upd_other g.base e (length h) e₀ ne) at b) (rw (q, upd_same g.log e h) at l)))
        (λ (q : e' ≢ e).
        let ow : 0 < g.owner e' = rw (upd_other g.owner e (suc x) e' q) at o in
        let w = may-within n g (elect g x e h) G elect-grow e₀ e' (upd g.base e (length h) e₀) lt ow m in
        let ne : e₀ ≢ e = λ r. omega (arith, A.free, w.0, ap g.owner r) in
        rw (upd_other g.log e h e' q)
        (G.later e₀ e' k z lt ow (rw (upd_other g.base e (length h) e₀ ne) at m) (rw (upd_other g.base e (length h) e₀ ne) at b) (rw (upd_other g.log e h e' q) at l)))
        (eq-or e' e);
  }

  -- nobody has appended anything
  pub elect-own : (e₀ : ℕ) → own (elect g x e h) e₀ ≡ own g e₀
  unfolding elect
  elect-own e₀ = ⊎_elim
      (λ (q : e₀ ≡ e). rw (q, upd_same g.base e (length h), upd_same g.log e h, G.unowned e A.free) (drop-length h ∙ sym (drop-nil (g.base e))))
      (λ (q : e₀ ≢ e). rw (upd_other g.base e (length h) e₀ q, upd_other g.log e h e₀ q)) (eq-or e₀ e)

-- ---- 5. epoch e is established

-- its owner enters L4
unfoldable pub establish : Ghost → ℕ → Ghost
establish g e = record {
  prom = g.prom;
  vote = g.vote;
  owner = g.owner;
  base = g.base;
  log = g.log;
  ackd = g.ackd;
  est = upd g.est e 1;
}

module _ (n : ℕ) (g : Ghost) (G : Good n g) (e : ℕ) (m : Committed n g e (g.base e)) where
  pub establish-grow : Grow g (establish g e)
  unfolding establish
  establish-grow = record {
    prom = λ s. omega arith;
    vote = λ _ _ _. refl;
    owner = λ _ _. refl;
    base = λ _ _. refl;
    log = λ e₀ _. pre-refl (g.log e₀);
    ackd = λ e₀ s. omega arith;
    frozen = λ _ _ _. refl;
  }

  pub establish-good : Good n (establish g e)
  unfolding establish
  establish-good = record {
    voted = G.voted;
    acked = G.acked;
    elected = G.elected;
    rules = G.rules;
    owned = G.owned;
    above = G.above;
    within = G.within;
    unowned = G.unowned;
    based = G.based;
    rising = G.rising;
    ids = G.ids;
    low-ids = G.low-ids;
    own-id = G.own-id;
    origin = λ e₀ k l. old-origin n g (establish g e) G establish-grow (g.log e₀) k (G.origin e₀ k l);
    once = λ e₀. upd-at (λ (v : ℕ). v ≤ 1) g.est e 1 e₀ (λ _. omega arith) (λ _. G.once e₀);
    settled = λ e₀. upd-at (λ (v : ℕ). 0 < v → Committed n g e₀ (g.base e₀)) g.est e 1 e₀ (λ q _. rw q m) (λ _. G.settled e₀);
    choose = G.choose;
    later = G.later;
  }

-- ---- growth in steps, and what stays of the others

-- nothing happened
pub grow-refl : (g : Ghost) → Grow g g
grow-refl g = record {
  prom = λ s. omega arith;
  vote = λ _ _ _. refl;
  owner = λ _ _. refl;
  base = λ _ _. refl;
  log = λ e _. pre-refl (g.log e);
  ackd = λ e s. omega arith;
  frozen = λ _ _ _. refl;
}

pub only-refl : (i : ℕ) (g : Ghost) → Only i g g
only-refl i g = record { prom = λ _ _. refl; ackd = λ _ _ _. refl; owner = λ _ _ _ q. q; log = λ _ _ _ _. refl; est = λ _ _ _ _. refl }

-- one thing after another
pub grow-trans : (a b c : Ghost) → Grow a b → Grow b c → Grow a c
grow-trans a b c U W = record {
  prom = λ s. omega (arith, U.prom s, W.prom s);
  vote = λ e s p. W.vote e s (omega (arith, U.vote e s p)) ∙ U.vote e s p;
  owner = λ e p. W.owner e (omega (arith, U.owner e p)) ∙ U.owner e p;
  base = λ e p. W.base e (omega (arith, U.owner e p)) ∙ U.base e p;
  log = λ e p. let w = W.log e (omega (arith, U.owner e p)) in pre-trans (a.log e) (b.log e) (c.log e) (U.log e p) w;
  ackd = λ e s. omega (arith, U.ackd e s, W.ackd e s);
  frozen = λ e s p. W.frozen e s (omega (arith, U.prom s)) ∙ U.frozen e s p;
}

pub only-trans : (i : ℕ) (a b c : Ghost) → Grow a b → Only i a b → Only i b c → Only i a c
only-trans i a b c U O P = record {
  prom = λ s n. P.prom s n ∙ O.prom s n;
  ackd = λ e s n. P.ackd e s n ∙ O.ackd e s n;
  owner = λ e s n q. O.owner e s n (P.owner e s n q);
  log = λ e s n q. P.log e s n (U.owner e (omega arith) ∙ q) ∙ O.log e s n q;
  est = λ e s n q. P.est e s n (U.owner e (omega arith) ∙ q) ∙ O.est e s n q;
}

-- each move is one server's
pub only-promise : (g : Ghost) (i e x : ℕ) → Only i g (promise g i e x)
unfolding promise
only-promise g i e x = record { prom = λ s n. upd_other g.prom i e s n; ackd = λ _ _ _. refl; owner = λ _ _ _ q. q; log = λ _ _ _ _. refl; est = λ _ _ _ _. refl }

pub only-hold : (g : Ghost) (i e k : ℕ) → Only i g (hold g i e k)
unfolding hold
only-hold g i e k = record { prom = λ _ _. refl; ackd = λ e₀ s n. upd₂-other g.ackd e i (suc k) e₀ s n; owner = λ _ _ _ q. q; log = λ _ _ _ _. refl; est = λ _ _ _ _. refl }

pub only-extend : (g : Ghost) (i e : ℕ) (t : Txn) → g.owner e ≡ suc i → Only i g (extend g e t)
unfolding extend
only-extend g i e t o = record {
  prom = λ _ _. refl;
  ackd = λ _ _ _. refl;
  owner = λ _ _ _ q. q;
  log = λ e₀ s n q. upd_other g.log e (g.log e ++ (t ∷ [])) e₀ (λ r. n (omega (arith, ap g.owner r)));
  est = λ _ _ _ _. refl;
}

pub only-elect : (g : Ghost) (x e : ℕ) (h : Hist) → g.owner e ≡ 0 → Only x g (elect g x e h)
unfolding elect
only-elect g x e h free = record {
  prom = λ _ _. refl;
  ackd = λ _ _ _. refl;
  owner = λ e₀ s n. upd-at (λ (v : ℕ). v ≡ suc s → g.owner e₀ ≡ suc s) g.owner e (suc x) e₀ (λ _ q. absurd (n (omega arith))) (λ _ q. q);
  log = λ e₀ s n q. upd_other g.log e h e₀ (λ r. omega (arith, ap g.owner r));
  est = λ _ _ _ _. refl;
}

pub only-establish : (g : Ghost) (i e : ℕ) → g.owner e ≡ suc i → Only i g (establish g e)
unfolding establish
only-establish g i e o = record {
  prom = λ _ _. refl;
  ackd = λ _ _ _. refl;
  owner = λ _ _ _ q. q;
  log = λ _ _ _ _. refl;
  est = λ e₀ s n q. upd_other g.est e 1 e₀ (λ r. n (omega (arith, ap g.owner r)));
}
