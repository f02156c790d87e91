-- What the ghost says of a message on its way, and of a server. Both survive the ghost's growth.
use Prim.Native.Nat.{ℕ, suc, ◌≤◌, ◌<◌}
use mathlib.Core.Path.{◌≡◌, sym, ◌∙◌}
use mathlib.Core.Logic.{◌≢◌}
use mathlib.Core.Bool.{true}
use native.Mathlib.Omega.{arith}
use lib.ListN.{length, take, get_or}
use Rattle.base.specs.Transaction.{Hist, none, Begins}
use Rattle.base.proofs.History.{pre-len}
use Rattle.rules.specs.Message.{Msg, cepoch, newepoch, acke, newleader, ackld, commitld, propose, ack, commit, junk}
use Rattle.rules.specs.Server.{Dur, Vol, Server, F3, F4, L1, L2, L3, L4}
use Rattle.ledger.proofs.Ghost.{Ghost, Good, Grow, Only, Report, Committed}
use Rattle.ledger.proofs.Candidate.{Below, committed-in}
use Rattle.ledger.proofs.Grow.{committed-up, log-up, log-at}

-- ---- messages, from f to t

-- what each message says, and never stops being true
abbrev pub MsgOk : ℕ → Ghost → ℕ → ℕ → Msg → Type 0
MsgOk n g f t (cepoch e) = Unit {0}
MsgOk n g f t (newepoch e) = Unit {0}
MsgOk n g f t (acke e a h) = (g.vote e f ≡ suc t) × Report g e f a h
MsgOk n g f t (newleader e h) = (0 < g.owner e) × (g.base e ≤ length h) × Begins h (g.log e)
MsgOk n g f t (ackld e c) = c < g.ackd e f
MsgOk n g f t (commitld e c) = Committed n g e c
MsgOk n g f t (propose e k x) = (0 < g.owner e) × ((j : ℕ) → k ≡ suc j → (j < length (g.log e)) × (get_or (g.log e) j none ≡ x))
MsgOk n g f t (ack e k) = k < g.ackd e f
MsgOk n g f t (commit e c) = Committed n g e c
MsgOk n g f t junk = Unit {0}

-- what a NEWLEADER carries is no less than its receiver t ever held in that epoch
abbrev pub Lands : Ghost → ℕ → Msg → Type 0
Lands g t (cepoch e) = Unit {0}
Lands g t (newepoch e) = Unit {0}
Lands g t (acke e a h) = Unit {0}
Lands g t (newleader e h) = g.ackd e t ≤ suc (length h)
Lands g t (ackld e c) = Unit {0}
Lands g t (commitld e c) = Unit {0}
Lands g t (propose e k x) = Unit {0}
Lands g t (ack e k) = Unit {0}
Lands g t (commit e c) = Unit {0}
Lands g t junk = Unit {0}

-- as long as t holds no more
pub lands-map : (g g' : Ghost) (t : ℕ) → ((e : ℕ) → g'.ackd e t ≡ g.ackd e t) → (m : Msg) → Lands g t m → Lands g' t m
lands-map g g' t q (cepoch e) c = tt
lands-map g g' t q (newepoch e) c = tt
lands-map g g' t q (acke e a h) c = tt
lands-map g g' t q (newleader e h) c = omega (arith, q e)
lands-map g g' t q (ackld e k) c = tt
lands-map g g' t q (commitld e k) c = tt
lands-map g g' t q (propose e k x) c = tt
lands-map g g' t q (ack e k) c = tt
lands-map g g' t q (commit e k) c = tt
lands-map g g' t q junk c = tt

-- ---- servers

-- the first d of a history of accepted epoch a are committed, in an epoch not above it
pub record Deliv (n : ℕ) (g : Ghost) (a d : ℕ) (h : Hist) : Type 0 where
  pub fits : d ≤ length h
  pub safe : 0 < d → (e : ℕ) × (e ≤ a) × Committed n g e d × (take d h ≡ take d (g.log e))

-- the durable part of server i
pub record DurOk (n : ℕ) (g : Ghost) (i : ℕ) (u : Dur) : Type 0 where
  pub prom : g.prom i ≡ u.p
  pub part : Begins u.hist (g.log u.a)
  pub held : g.ackd u.a i ≡ suc (length u.hist)
  pub none : (e : ℕ) → u.a < e → g.ackd e i ≡ 0
  pub del : Deliv n g u.a u.d u.hist

-- L1: the largest seen is no less than the promise; nothing is counted yet
pub record L1Ok (u : Dur) (v : Vol) : Type 0 where
  pub seen : u.p ≤ v.largest
  pub blank : (t : ℕ) → v.counts t ≡ 0

-- L2: those counted voted for i and reported no more than the candidate, which is one of the reports
pub record L2Ok (g : Ghost) (i : ℕ) (u : Dur) (v : Vol) : Type 0 where
  pub young : u.a < u.p
  pub new : g.owner u.p ≢ suc i
  pub each : (s : ℕ) → v.acked s ≡ true → (g.vote u.p s ≡ suc i) × Below g u.p v.cand_epoch v.cand_hist s
  pub from : ℕ
  pub cand : Report g u.p from v.cand_epoch v.cand_hist
  pub blank : (t : ℕ) → v.counts t ≡ 0

-- L3, L4: i owns its epoch, its history is the log, and its counts are of what others hold
pub record LeadOk (g : Ghost) (i : ℕ) (u : Dur) (v : Vol) : Type 0 where
  pub pos : 0 < u.p
  pub now : u.a ≡ u.p
  pub mine : g.owner u.p ≡ suc i
  pub whole : u.hist ≡ g.log u.p
  pub count : (s : ℕ) → 0 < v.counts s → v.counts s < g.ackd u.p s

-- L3: not yet established; those synced hold the whole history
pub record L3Ok (g : Ghost) (u : Dur) (v : Vol) : Type 0 where
  pub fresh : g.est u.p ≡ 0
  pub each : (t : ℕ) → v.synced t ≡ true → length u.hist < g.ackd u.p t

-- L4: established; what is delivered is committed in this epoch, the initial history with it
pub record L4Ok (n : ℕ) (g : Ghost) (u : Dur) : Type 0 where
  pub done : g.est u.p ≡ 1
  pub safe : Committed n g u.p u.d
  pub all : g.base u.p ≤ u.d

-- a server: its durable part, and what its stage claims
pub record SrvOk (n : ℕ) (g : Ghost) (i : ℕ) (s : Server) : Type 0 where
  pub dur : DurOk n g i s.dur
  pub top : s.stage ≤ L4
  pub f34 : F3 ≤ s.stage → s.stage ≤ F4 → s.dur.a ≡ s.dur.p
  pub l1 : s.stage ≡ L1 → L1Ok s.dur s.vol
  pub l2 : s.stage ≡ L2 → L2Ok g i s.dur s.vol
  pub lead : L3 ≤ s.stage → LeadOk g i s.dur s.vol
  pub l3 : s.stage ≡ L3 → L3Ok g s.dur s.vol
  pub l4 : s.stage ≡ L4 → L4Ok n g s.dur

-- ---- growth

module _ (n : ℕ) (g g' : Ghost) (G : Good n g) (W : Grow g g') where
  -- what begins an owned log begins it still
  pub pre-up : (e : ℕ) (h : Hist) → 0 < g.owner e → Begins h (g.log e) → Begins h (g'.log e)
  pre-up e h o p = sym (log-up n g g' G W e (length h) o (pre-len h (g.log e) p)) ∙ p

  -- a report is of epochs that its server has left: frozen
  pub report-up : (e s a : ℕ) (h : Hist) → Report g e s a h → Report g' e s a h
  report-up e s a h r =
      let o : 0 < g.owner a = G.owned a s (omega (arith, r.held)) in
      record {
        old = r.old;
        promised = omega (arith, r.promised, W.prom s);
        part = pre-up a h o r.part;
        held = W.frozen a s (omega (arith, r.old, r.promised)) ∙ r.held;
        none = λ e₀ p q. W.frozen e₀ s (omega (arith, r.promised)) ∙ r.none e₀ p q;
      }

  -- so is being below a candidate
  pub below_up : (e a : ℕ) (h : Hist) (s : ℕ) → Below g e a h s → Below g' e a h s
  below_up e a h s b = record { a' = b.a'; h' = b.h'; rep = report-up e s b.a' b.h' b.rep; first = b.first; then = b.then }

  -- every message's claim stays
  pub msg-up : (f t : ℕ) (m : Msg) → MsgOk n g f t m → MsgOk n g' f t m
  msg-up f t (cepoch e) c = tt
  msg-up f t (newepoch e) c = tt
  msg-up f t (acke e a h) c = (W.vote e f (omega (arith, c.0)) ∙ c.0, report-up e f a h c.1)
  msg-up f t (newleader e h) c = (omega (arith, c.0, W.owner e c.0), omega (arith, c.1, W.base e c.0), pre-up e h c.0 c.2)
  msg-up f t (ackld e k) c = omega (arith, W.ackd e f)
  msg-up f t (commitld e k) c = committed-up n g g' G W e k c
  msg-up f t (propose e k x) c = (omega (arith, c.0, W.owner e c.0), λ j q. place j (c.1 j q))
    where
      place : (j : ℕ) → (j < length (g.log e)) × (get_or (g.log e) j none ≡ x) → (j < length (g'.log e)) × (get_or (g'.log e) j none ≡ x)
      place j y = (
        omega (arith, y.0, pre-len (g.log e) (g'.log e) (W.log e c.0)),
        log-at n g g' G W e j c.0 y.0 ∙ y.1,
      )
  msg-up f t (ack e k) c = omega (arith, W.ackd e f)
  msg-up f t (commit e k) c = committed-up n g g' G W e k c
  msg-up f t junk c = tt

  -- what is delivered stays committed
  pub deliv-up : (a d : ℕ) (h : Hist) → Deliv n g a d h → Deliv n g' a d h
  deliv-up a d h v = record {
    fits = v.fits;
    safe = λ p.
        let t = v.safe p in
        let w = committed-in n g G t.0 d t.2 in
        (t.0, t.1, committed-up n g g' G W t.0 d t.2, t.3 ∙ log-up n g g' G W t.0 d w.0 w.1);
  }

  -- a server whose promise and holdings stay
  module _ (i : ℕ) (sp : g'.prom i ≡ g.prom i) (sa : (e : ℕ) → g'.ackd e i ≡ g.ackd e i) where
    pub dur-up : (u : Dur) → DurOk n g i u → DurOk n g' i u
    dur-up u c = record {
      prom = sp ∙ c.prom;
      part = pre-up u.a u.hist (G.owned u.a i (omega (arith, c.held))) c.part;
      held = sa u.a ∙ c.held;
      none = λ e p. sa e ∙ c.none e p;
      del = deliv-up u.a u.d u.hist c.del;
    }

  -- a leader whose log stays
  pub lead_up : (i : ℕ) (u : Dur) (v : Vol) → g'.log u.p ≡ g.log u.p → LeadOk g i u v → LeadOk g' i u v
  lead_up i u v sl c = record {
    pos = c.pos;
    now = c.now;
    mine = W.owner u.p (omega (arith, c.mine)) ∙ c.mine;
    whole = c.whole ∙ sym sl;
    count = λ s k. omega (arith, c.count s k, W.ackd u.p s);
  }

  -- an established leader stays so
  pub l4-up : (i : ℕ) (u : Dur) → g.owner u.p ≡ suc i → g'.est u.p ≡ g.est u.p → L4Ok n g u → L4Ok n g' u
  l4-up i u o se c = record { done = se ∙ c.done; safe = committed-up n g g' G W u.p u.d c.safe; all = omega (arith, c.all, W.base u.p (omega arith)) }

  -- a server that another one's step leaves alone
  module _ (i j : ℕ) (O : Only j g g') (ne : i ≢ j) where
    pub lands-up : (m : Msg) → Lands g i m → Lands g' i m
    lands-up m c = lands-map g g' i (λ e. O.ackd e i ne) m c

    l2-up : (u : Dur) (v : Vol) → L2Ok g i u v → L2Ok g' i u v
    l2-up u v c = record {
      young = c.young;
      new = λ q. c.new (O.owner u.p i ne q);
      each = λ s k. let y = c.each s k in (W.vote u.p s (omega (arith, y.0)) ∙ y.0, below_up u.p v.cand_epoch v.cand_hist s y.1);
      from = c.from;
      cand = report-up u.p c.from v.cand_epoch v.cand_hist c.cand;
      blank = c.blank;
    }

    -- all its claims stay
    pub srv-up : (s : Server) → SrvOk n g i s → SrvOk n g' i s
    srv-up s c = record {
      dur = dur-up i (O.prom i ne) (λ e. O.ackd e i ne) s.dur c.dur;
      top = c.top;
      f34 = c.f34;
      l1 = c.l1;
      l2 = λ q. l2-up s.dur s.vol (c.l2 q);
      lead = λ q. lead_up i s.dur s.vol (O.log s.dur.p i ne (c.lead q).mine) (c.lead q);
      l3 = λ q. let own = (c.lead (omega arith)).mine in
          record { fresh = O.est s.dur.p i ne own ∙ (c.l3 q).fresh; each = λ t k. omega (arith, (c.l3 q).each t k, W.ackd s.dur.p t) };
      l4 = λ q. let own = (c.lead (omega arith)).mine in l4-up i s.dur own (O.est s.dur.p i ne own) (c.l4 q);
    }
