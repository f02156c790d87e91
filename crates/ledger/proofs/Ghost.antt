-- The ghost: what has happened and never stops having happened; when it is consistent; how it grows.
use Prim.Native.Nat.{ℕ, suc, ◌-◌, ◌≤◌, ◌<◌}
use mathlib.Core.Path.{◌≡◌}
use mathlib.Core.Logic.{◌≢◌}
use mathlib.Core.List.{[]}
use lib.ListN.{length, take, drop}
use Rattle.base.specs.Transaction.{Hist, ident, epoch_of, id_at, Begins}
use Rattle.base.proofs.History.{Rising}
use Rattle.base.proofs.Quorum.{Most}

-- Epoch 0 counts as owned, with an empty log of which everybody holds all: log 0 = [], ackd 0 s = 1.
pub record Ghost : Type 0 where
  pub prom : ℕ → ℕ  -- the promise of s
  pub vote : ℕ → ℕ → ℕ  -- vote e s: for whom the promise of s rose to e; 0 none, x + 1 for x
  pub owner : ℕ → ℕ  -- the server that entered L3 in epoch e; 0 none, x + 1 for x
  pub base : ℕ → ℕ  -- the length of its initial history
  pub log : ℕ → Hist  -- its history since
  pub ackd : ℕ → ℕ → ℕ  -- ackd e s: 0, or 1 + the greatest length that s held while its accepted epoch was e
  pub est : ℕ → ℕ  -- 1 if e is established (its owner entered L4), else 0

-- s has c of e, or can still come to have it
abbrev pub May : Ghost → ℕ → ℕ → ℕ → Type 0
May g e c s = e < g.prom s → c < g.ackd e s

-- a quorum has c of e
abbrev pub Committed : ℕ → Ghost → ℕ → ℕ → Type 0
Committed n g e c = Most n (λ s. c < g.ackd e s)

-- what the leader of e has appended to its initial history
abbrev pub own : Ghost → ℕ → Hist
own g e = drop (g.base e) (g.log e)

-- the transaction at index k of l was submitted in its own epoch: that epoch's log is as l up to it, and has it past its initial history
pub record Origin (g : Ghost) (l : Hist) (k : ℕ) : Type 0 where
  pub ep : ℕ
  pub is : epoch_of (id_at l (suc k)) ≡ ep
  pub pos : 0 < ep
  pub owned : 0 < g.owner ep
  pub past : g.base ep ≤ k
  pub inside : k < length (g.log ep)
  pub same : take (suc k) l ≡ take (suc k) (g.log ep)

-- the ghost's own consistency, n servers being
pub record Good (n : ℕ) (g : Ghost) : Type 0 where
  -- a vote, or a history held, is of an epoch promised
  pub voted : (e s : ℕ) → 0 < g.vote e s → e ≤ g.prom s
  pub acked : (e s : ℕ) → 0 < g.ackd e s → e ≤ g.prom s
  -- a quorum voted for the owner, which promised its epoch itself
  pub elected : (e : ℕ) → 0 < e → 0 < g.owner e → Most n (λ s. g.vote e s ≡ g.owner e)
  pub rules : (e x : ℕ) → 0 < e → g.owner e ≡ suc x → e ≤ g.prom x
  -- what is held of e: e is owned, all of its initial history, at most its log
  pub owned : (e s : ℕ) → 0 < g.ackd e s → 0 < g.owner e
  pub above : (e s : ℕ) → 0 < g.ackd e s → g.base e < g.ackd e s
  pub within : (e s : ℕ) → g.ackd e s ≤ suc (length (g.log e))
  -- the log: none before there is an owner; the initial history begins it and is of earlier epochs;
  -- what follows is of epoch e with counters 1, 2, 3, ..; identifiers rise
  pub unowned : (e : ℕ) → g.owner e ≡ 0 → g.log e ≡ []
  pub based : (e : ℕ) → g.base e ≤ length (g.log e)
  pub rising : (e : ℕ) → Rising (g.log e)
  pub ids : (e k : ℕ) → k ≤ length (g.log e) → id_at (g.log e) k < ident (suc e) 0
  pub low-ids : (e k : ℕ) → 0 < e → k ≤ g.base e → id_at (g.log e) k < ident e 0
  pub own-id : (e k : ℕ) → 0 < e → g.base e ≤ k → k < length (g.log e) → id_at (g.log e) (suc k) ≡ ident e (suc (k - g.base e))
  pub origin : (e k : ℕ) → k < length (g.log e) → Origin g (g.log e) k
  -- an established epoch: once, and its initial history is committed
  pub once : (e : ℕ) → g.est e ≤ 1
  pub settled : (e : ℕ) → 0 < g.est e → Committed n g e (g.base e)
  -- a later epoch begins with all that may be committed in an earlier one ..
  pub choose : (e e' c : ℕ) → e < e' → 0 < g.owner e' → Most n (May g e c) → (c ≤ g.base e') × (take c (g.log e) ≡ take c (g.log e'))
  -- .. and has nothing of a still earlier one past that one's initial history
  pub later : (e e' k : ℕ) → 0 < e → e < e' → 0 < g.owner e' → Most n (May g e (g.base e)) → g.base e ≤ k → k < length (g.log e') → ident e 0 ≤ id_at (g.log e') (suc k)

-- The ghost only grows. Once s has promised more than e, what it holds of e is frozen: the heart of Zab.
pub record Grow (g g' : Ghost) : Type 0 where
  pub prom : (s : ℕ) → g.prom s ≤ g'.prom s
  pub vote : (e s : ℕ) → 0 < g.vote e s → g'.vote e s ≡ g.vote e s
  pub owner : (e : ℕ) → 0 < g.owner e → g'.owner e ≡ g.owner e
  pub base : (e : ℕ) → 0 < g.owner e → g'.base e ≡ g.base e
  pub log : (e : ℕ) → 0 < g.owner e → Begins (g.log e) (g'.log e)
  pub ackd : (e s : ℕ) → g.ackd e s ≤ g'.ackd e s
  pub frozen : (e s : ℕ) → e < g.prom s → g'.ackd e s ≡ g.ackd e s

-- and where only server i acted, what is another server's own stays
pub record Only (i : ℕ) (g g' : Ghost) : Type 0 where
  pub prom : (s : ℕ) → s ≢ i → g'.prom s ≡ g.prom s
  pub ackd : (e s : ℕ) → s ≢ i → g'.ackd e s ≡ g.ackd e s
  pub owner : (e s : ℕ) → s ≢ i → g'.owner e ≡ suc s → g.owner e ≡ suc s
  pub log : (e s : ℕ) → s ≢ i → g.owner e ≡ suc s → g'.log e ≡ g.log e
  pub est : (e s : ℕ) → s ≢ i → g.owner e ≡ suc s → g'.est e ≡ g.est e

-- what an ACK-E of s says of s: at epoch e it reports the accepted epoch a and the history h
pub record Report (g : Ghost) (e s a : ℕ) (h : Hist) : Type 0 where
  pub old : a < e
  pub promised : e ≤ g.prom s
  pub part : Begins h (g.log a)
  pub held : g.ackd a s ≡ suc (length h)
  pub none : (e₀ : ℕ) → a < e₀ → e₀ < e → g.ackd e₀ s ≡ 0
