-- What a step owes: read off its tree of tests, at each leaf, from the tests on the way to it.
use Prim.Native.Nat.{ℕ, suc, ◌≤◌, ◌<◌, max}
use mathlib.Core.Path.{◌≡◌, refl, ◌∙◌}
use mathlib.Core.Logic.{◌≢◌, ⊎_elim}
use mathlib.Core.Bool.{Bool, true, false}
use mathlib.Core.List.{List, [], ◌∷◌, ◌++◌}
use native.Mathlib.Omega.{arith}
use lib.ListN.{length, take}
use Rattle.base.specs.Choice.{upd}
use Rattle.base.specs.Transaction.{Hist, epoch_of}
use Rattle.base.specs.declared.Txn.{Txn}
use Rattle.base.proofs.Choice.{le-or-lt}
use Rattle.rules.specs.Message.{Send}
use Rattle.rules.specs.Server.{Server, F2, F3, F4, L1, L2, L3, L4}
use Rattle.rules.specs.Tree.{Tree}
use Rattle.ledger.proofs.Ghost.{Ghost, Good, Grow, Only, Committed, own}
use Rattle.ledger.proofs.Grow.{grow-refl, only-refl}
use Rattle.rules.proofs.Trees.{Leaves, All}
use Rattle.ledger.proofs.Claims.{MsgOk, Lands, Deliv, DurOk, L1Ok, L2Ok, LeadOk, L3Ok, L4Ok, SrvOk}

-- a message may be sent by i
abbrev pub SendOk : ℕ → Ghost → ℕ → Send → Type 0
SendOk n g i x = MsgOk n g i x.to x.msg × Lands g x.to x.msg

-- ---- what a step does that a trace tells of; `asked` says that it was a submission

-- neither
pub record Rests (asked : Bool) (g g' : Ghost) (s s' : Server) : Type 0 where
  pub unasked : asked ≡ false
  pub stays : s'.stage ≡ L4 → s.stage ≡ L4
  pub est : (e : ℕ) → g'.est e ≡ g.est e
  pub own : (e : ℕ) → own g' e ≡ own g e

-- server i establishes its epoch
pub record Establishes (asked : Bool) (g g' : Ghost) (i : ℕ) (s s' : Server) : Type 0 where
  pub unasked : asked ≡ false
  pub before : s.stage ≢ L4
  pub now : s'.stage ≡ L4
  pub mine : g'.owner s'.dur.p ≡ suc i
  pub fresh : g.est s'.dur.p ≡ 0
  pub est : (e : ℕ) → g'.est e ≡ upd g.est s'.dur.p 1 e
  pub own : (e : ℕ) → own g' e ≡ own g e

-- server i, established, appends t to its log
pub record Appends (asked : Bool) (g g' : Ghost) (i : ℕ) (s s' : Server) : Type 0 where
  pub asks : asked ≡ true
  pub before : s.stage ≡ L4
  pub t : Txn
  pub hist : s'.dur.hist ≡ s.dur.hist ++ (t ∷ [])
  pub log : g'.log s.dur.p ≡ s'.dur.hist
  pub base : g'.base s.dur.p ≤ s.dur.d
  pub fits : s.dur.d ≤ length s.dur.hist
  pub epoch : epoch_of t.id.0 ≡ s.dur.p
  pub mine : g.owner s.dur.p ≡ suc i
  pub done : g.est s.dur.p ≡ 1
  pub est : (e : ℕ) → g'.est e ≡ g.est e
  pub here : own g' s.dur.p ≡ own g s.dur.p ++ (t ∷ [])
  pub others : (e : ℕ) → e ≢ s.dur.p → own g' e ≡ own g e

-- what a step did: one of the three
pub data Deed (asked : Bool) (g g' : Ghost) (i : ℕ) (s s' : Server) : Type 0 where
  rests : Rests asked g g' s s' → Deed asked g g' i s s'
  establishes : Establishes asked g g' i s s' → Deed asked g g' i s s'
  appends : Appends asked g g' i s s' → Deed asked g g' i s s'

-- ---- a step of i from s to s' with what it sent; `empties` says that the channels to and from i were emptied

-- its debts: a ghost that grew by this server alone, the claim of the server, the claims of what it sent
pub record Done (n : ℕ) (asked : Bool) (g : Ghost) (i : ℕ) (s : Server) (empties : Bool) (s' : Server) (out : List Send) : Type 0 where
  pub g' : Ghost
  pub good : Good n g'
  pub grow : Grow g g'
  pub only : Only i g g'
  pub srv : SrvOk n g' i s'
  -- while a NEWLEADER may wait for it, it holds no more than before
  pub quiet : empties ≡ false → s'.stage ≤ F2 → (s.stage ≤ F2) × ((e : ℕ) → g'.ackd e i ≡ g.ackd e i)
  pub more : s.dur.d ≤ s'.dur.d
  pub deed : Deed asked g g' i s s'
  pub sent : All (SendOk n g' i) out

-- what a tree owes, at each leaf
abbrev pub Ok : ℕ → Bool → Ghost → ℕ → Server → Tree → Type 0
Ok n asked g i s t = Leaves (Done n asked g i s) t

-- ---- stages and what is claimed of them

module _ (n : ℕ) (g : Ghost) (i : ℕ) (s : Server) where
  -- LOOK, F1, F2: the durable part alone
  pub low_ok : s.stage ≤ F2 → DurOk n g i s.dur → SrvOk n g i s
  low_ok k c = record {
    dur = c;
    top = omega arith;
    f34 = λ p _. absurd (omega arith);
    l1 = λ p. absurd (omega arith);
    l2 = λ p. absurd (omega arith);
    lead = λ p. absurd (omega arith);
    l3 = λ p. absurd (omega arith);
    l4 = λ p. absurd (omega arith);
  }

  -- F3, F4
  pub mid-ok : F3 ≤ s.stage → s.stage ≤ F4 → s.dur.a ≡ s.dur.p → DurOk n g i s.dur → SrvOk n g i s
  mid-ok m k q c = record {
    dur = c;
    top = omega arith;
    f34 = λ _ _. q;
    l1 = λ p. absurd (omega arith);
    l2 = λ p. absurd (omega arith);
    lead = λ p. absurd (omega arith);
    l3 = λ p. absurd (omega arith);
    l4 = λ p. absurd (omega arith);
  }

  -- L1
  pub l1-ok : s.stage ≡ L1 → DurOk n g i s.dur → L1Ok s.dur s.vol → SrvOk n g i s
  l1-ok k c l = record {
    dur = c;
    top = omega arith;
    f34 = λ _ p. absurd (omega arith);
    l1 = λ _. l;
    l2 = λ p. absurd (omega arith);
    lead = λ p. absurd (omega arith);
    l3 = λ p. absurd (omega arith);
    l4 = λ p. absurd (omega arith);
  }

  -- L2
  pub l2-ok : s.stage ≡ L2 → DurOk n g i s.dur → L2Ok g i s.dur s.vol → SrvOk n g i s
  l2-ok k c l = record {
    dur = c;
    top = omega arith;
    f34 = λ _ p. absurd (omega arith);
    l1 = λ p. absurd (omega arith);
    l2 = λ _. l;
    lead = λ p. absurd (omega arith);
    l3 = λ p. absurd (omega arith);
    l4 = λ p. absurd (omega arith);
  }

  -- L3, L4
  pub lead-ok : L3 ≤ s.stage → s.stage ≤ L4 → DurOk n g i s.dur → LeadOk g i s.dur s.vol
      → (s.stage ≡ L3 → L3Ok g s.dur s.vol) → (s.stage ≡ L4 → L4Ok n g s.dur) → SrvOk n g i s
  lead-ok m k c l x y = record {
    dur = c;
    top = omega arith;
    f34 = λ _ p. absurd (omega arith);
    l1 = λ p. absurd (omega arith);
    l2 = λ p. absurd (omega arith);
    lead = λ _. l;
    l3 = x;
    l4 = y;
  }

  -- L3
  pub l3-ok : s.stage ≡ L3 → DurOk n g i s.dur → LeadOk g i s.dur s.vol → L3Ok g s.dur s.vol → SrvOk n g i s
  l3-ok k c l y = lead-ok (omega arith) (omega arith) c l (λ _. y) (λ p. absurd (omega arith))

  -- L4
  pub l4-ok : s.stage ≡ L4 → DurOk n g i s.dur → LeadOk g i s.dur s.vol → L4Ok n g s.dur → SrvOk n g i s
  l4-ok k c l y = lead-ok (omega arith) (omega arith) c l (λ p. absurd (omega arith)) (λ _. y)

module _ (n : ℕ) (g : Ghost) (G : Good n g) (i : ℕ) (s : Server) (S : SrvOk n g i s) where
  pub a-le-p : s.dur.a ≤ s.dur.p
  a-le-p = omega (arith, S.dur.prom, G.acked s.dur.a i (omega (arith, S.dur.held)))

  -- a step that leaves the ghost as it is
  pub keep : (empties : Bool) (s' : Server) (out : List Send) → SrvOk n g i s' → (empties ≡ false → s'.stage ≤ F2 → s.stage ≤ F2) → (s'.stage ≡ L4 → s.stage ≡ L4)
      → s.dur.d ≤ s'.dur.d → All (SendOk n g i) out → Done n false g i s empties s' out
  keep empties s' out c k st m a = record {
    g' = g;
    good = G;
    grow = grow-refl g;
    only = only-refl i g;
    srv = c;
    quiet = λ q p. (k q p, λ _. refl);
    more = m;
    deed = rests (record { unasked = refl; stays = st; est = λ _. refl; own = λ _. refl });
    sent = a;
  }

-- ---- what is delivered

-- a history that begins with the delivered part keeps it
pub deliv-keep : (n : ℕ) (g : Ghost) (a a' d : ℕ) (h h' : Hist) → Deliv n g a d h → a ≤ a' → d ≤ length h' → take d h' ≡ take d h → Deliv n g a' d h'
deliv-keep n g a a' d h h' v l k q = record { fits = k; safe = λ p. let t = v.safe p in (t.0, omega (arith, t.1), t.2, q ∙ t.3) }

-- a greater committed count may be delivered
pub deliv-max : (n : ℕ) (g : Ghost) (a d c : ℕ) (h : Hist) (e : ℕ) → Deliv n g a d h → e ≤ a → c ≤ length h → Committed n g e c → take c h ≡ take c (g.log e) → Deliv n g a (max d c) h
deliv-max n g a d c h e v l k m q = ⊎_elim
    (λ (z : c ≤ d). let x : max d c ≡ d = omega arith in rw x v)
    (λ (z : d < c). let x : max d c ≡ c = omega arith in rw x (record { fits = k; safe = λ _. (e, l, m, q) }))
    (le-or-lt c d)
