-- The recovery's table: a point for each server, that says how far it has come with the leader.
use Prim.Native.Nat.{ℕ, ◌+◌, ◌≤◌}
use native.Mathlib.Omega.{arith}
use mathlib.Core.Path.{◌≡◌, refl}
use mathlib.Core.Bool.{Bool, true, false}
use mathlib.Core.List.{List, [], ◌∷◌}
use lib.ListN.{length}
use Rattle.base.specs.Choice.{pick, upd}
use Rattle.base.specs.Quorum.{nobody, quorum}
use Rattle.base.specs.Transaction.{Hist}
use Rattle.rules.specs.Message.{Msg, cepoch, newepoch, acke, newleader, ackld, commitld}
use Rattle.rules.specs.Server.{Dur, Server, F1, F2, F3, F4, L1, L2, L3, L4, nil, idle}
use Rattle.calm.proofs.Laws.{over, over-same}
use Rattle.calm.proofs.Engine.{Sys}

-- the leader collects CEPOCH, collects ACK-E, collects ACK-LD (false) or is established (true)
pub data K : Type 0 where
  k1 k2 : K
  k3 : Bool → K

-- out: takes no part; me: the leader itself; a0: its CEPOCH waits; a1: joined; b: the epoch is out; c: the history is out; d: committed
pub data Pt : K → Type 0 where
  out me a0 : {k : K} → Pt k
  a1 : Pt k1
  b1 b2 b3 : Pt k2
  c1 c2 c3 c4 c5 : {t : Bool} → Pt (k3 t)
  c6 : Pt (k3 false)
  d1 d2 : Pt (k3 true)

-- a point's row: deliveries to come; is it the leader, does it take part; has it joined, is it counted, is it synced; has it taken the new history; does nothing wait
pub record Row : Type 0 where
  pub left : ℕ
  pub is_me : Bool
  pub is_in : Bool
  pub joins : Bool
  pub counts : Bool
  pub syncs : Bool
  pub late : Bool
  pub rests : Bool

abbrev pub row : ℕ → Bool → Bool → Bool → Bool → Bool → Bool → Bool → Row
row n a b c d e f g = record { left = n; is_me = a; is_in = b; joins = c; counts = d; syncs = e; late = f; rests = g }

abbrev pub tab : {k : K} → Pt k → Row
--          left me    in    join  count sync  late  rests
tab out = row 0 false false false false false false true
tab me = row 0 true true true true true false true
tab a0 = row 6 false true false false false false false
tab a1 = row 5 false true true false false false true
tab b1 = row 5 false true true false false false false
tab b2 = row 4 false true true false false false false
tab b3 = row 3 false true true true false false true
tab c1 = row 5 false true true false false false false
tab c2 = row 4 false true true false false false false
tab c3 = row 3 false true true false false false false
tab c4 = row 3 false true true false false true false
tab c5 = row 2 false true true false false true false
tab c6 = row 1 false true true false true true true
tab d1 = row 1 false true true false true true false
tab d2 = row 0 false true true false true true true

abbrev pub left : {k : K} → Pt k → ℕ
left p = (tab p).left

abbrev pub is_me : {k : K} → Pt k → Bool
is_me p = (tab p).is_me

abbrev pub is_in : {k : K} → Pt k → Bool
is_in p = (tab p).is_in

abbrev pub joins : {k : K} → Pt k → Bool
joins p = (tab p).joins

abbrev pub counts : {k : K} → Pt k → Bool
counts p = (tab p).counts

abbrev pub syncs : {k : K} → Pt k → Bool
syncs p = (tab p).syncs

abbrev pub late : {k : K} → Pt k → Bool
late p = (tab p).late

abbrev pub rests : {k : K} → Pt k → Bool
rests p = (tab p).rests

-- the leader's count of a server
abbrev pub held : {k : K} → ℕ → Pt k → ℕ
held n p = pick (syncs p) (pick (is_me p) 0 n) 0

-- ---- e: the new epoch; h: the new history; s: the server as it was when it was named

-- what waits for the leader
abbrev pub back : {k : K} → ℕ → Hist → Server → Pt k → List Msg
back e h s out = []
back e h s me = []
back e h s a0 = cepoch s.dur.p ∷ []
back e h s a1 = []
back e h s b1 = []
back e h s b2 = acke e s.dur.a s.dur.hist ∷ []
back e h s b3 = []
back e h s c1 = []
back e h s c2 = acke e s.dur.a s.dur.hist ∷ []
back e h s c3 = []
back e h s c4 = acke e s.dur.a s.dur.hist ∷ ackld e (length h) ∷ []
back e h s c5 = ackld e (length h) ∷ []
back e h s c6 = []
back e h s d1 = []
back e h s d2 = []

-- what waits for the server
abbrev pub fwd : {k : K} → ℕ → Hist → Pt k → List Msg
fwd e h out = []
fwd e h me = []
fwd e h a0 = []
fwd e h a1 = []
fwd e h b1 = newepoch e ∷ []
fwd e h b2 = []
fwd e h b3 = []
fwd e h c1 = newepoch e ∷ newleader e h ∷ []
fwd e h c2 = newleader e h ∷ []
fwd e h c3 = newleader e h ∷ []
fwd e h c4 = []
fwd e h c5 = []
fwd e h c6 = []
fwd e h d1 = commitld e (length h) ∷ []
fwd e h d2 = []

-- the server itself, where it follows x
abbrev pub in_f : ℕ → ℕ → Dur → Server
in_f x stage u = record { dur = u; stage = stage; orc = x + 1; vol = idle }

abbrev pub dur_f2 : ℕ → Server → Dur
dur_f2 e s = record { p = e; a = s.dur.a; d = s.dur.d; hist = s.dur.hist }

abbrev pub dur_f3 : ℕ → Hist → Server → Dur
dur_f3 e h s = record { p = e; a = e; d = s.dur.d; hist = h }

abbrev pub dur_f4 : ℕ → Hist → Dur
dur_f4 e h = record { p = e; a = e; d = length h; hist = h }

abbrev pub now : {k : K} → ℕ → ℕ → Hist → Server → Pt k → Server
now x e h s out = s
now x e h s me = s
now x e h s a0 = in_f x F1 s.dur
now x e h s a1 = in_f x F1 s.dur
now x e h s b1 = in_f x F1 s.dur
now x e h s b2 = in_f x F2 (dur_f2 e s)
now x e h s b3 = in_f x F2 (dur_f2 e s)
now x e h s c1 = in_f x F1 s.dur
now x e h s c2 = in_f x F2 (dur_f2 e s)
now x e h s c3 = in_f x F2 (dur_f2 e s)
now x e h s c4 = in_f x F3 (dur_f3 e h s)
now x e h s c5 = in_f x F3 (dur_f3 e h s)
now x e h s c6 = in_f x F3 (dur_f3 e h s)
now x e h s d1 = in_f x F3 (dur_f3 e h s)
now x e h s d2 = in_f x F4 (dur_f4 e h)

-- the leader's stage, with what was chosen: the candidate, the new history
pub data Stage : K → Type 0 where
  G1 : Stage k1
  G2 : (a : ℕ) (cand : Hist) → Stage k2
  G3 : (t : Bool) (h : Hist) → Stage (k3 t)

abbrev pub hist : {k : K} → Stage k → Hist
hist G1 = []
hist (G2 a h) = []
hist (G3 t h) = h

-- the leader itself
abbrev pub lead : {k : K} → ℕ → ℕ → Server → Stage k → (ℕ → Pt k) → Server
lead x e s G1 l = record { dur = s.dur; stage = L1; orc = x + 1; vol = record { joined = over joins l; acked = nobody; synced = nobody; largest = s.dur.p; cand_epoch = 0; cand_hist = []; counts = nil } }
lead x e s (G2 a h) l = record { dur = dur_f2 e s; stage = L2; orc = x + 1; vol = record { joined = over joins l; acked = over counts l; synced = nobody; largest = 0; cand_epoch = a; cand_hist = h; counts = nil } }
lead x e s (G3 false h) l = record { dur = dur_f3 e h s; stage = L3; orc = x + 1; vol = record { joined = over joins l; acked = nobody; synced = over syncs l; largest = 0; cand_epoch = 0; cand_hist = []; counts = over (held (length h)) l } }
lead x e s (G3 true h) l = record { dur = dur_f4 e h; stage = L4; orc = x + 1; vol = record { joined = over joins l; acked = nobody; synced = over syncs l; largest = 0; cand_epoch = 0; cand_hist = []; counts = over (held (length h)) l } }

-- may the leader go on?
abbrev pub ripe : (k : K) → ℕ → (ℕ → Pt k) → Bool
ripe k1 n l = quorum n (over joins l)
ripe k2 n l = quorum n (over counts l)
ripe (k3 false) n l = quorum n (over syncs l)
ripe (k3 true) n l = false

-- two points that the leader does not tell apart
abbrev pub Alike : {k : K} → Pt k → Pt k → Type 0
Alike p p' = (joins p' ≡ joins p) × (counts p' ≡ counts p) × (syncs p' ≡ syncs p) × ((n : ℕ) → held n p' ≡ held n p)

pub lead-alike : {k : K} (x e : ℕ) (s : Server) (st : Stage k) (l : ℕ → Pt k) (f : ℕ) (p' : Pt k) → Alike (l f) p' → lead x e s st (upd l f p') ≡ lead x e s st l
lead-alike x e s G1 l f p' q = rw (over-same joins l f p' q.0)
lead-alike x e s (G2 a h) l f p' q = rw (over-same joins l f p' q.0, over-same counts l f p' q.1)
lead-alike x e s (G3 false h) l f p' q = rw (over-same joins l f p' q.0, over-same syncs l f p' q.2, over-same (held (length h)) l f p' (q.3 (length h)))
lead-alike x e s (G3 true h) l f p' q = rw (over-same joins l f p' q.0, over-same syncs l f p' q.2, over-same (held (length h)) l f p' (q.3 (length h)))

pub ripe-alike : (k : K) (n : ℕ) (l : ℕ → Pt k) (f : ℕ) (p' : Pt k) → Alike (l f) p' → ripe k n (upd l f p') ≡ ripe k n l
ripe-alike k1 n l f p' q = rw (over-same joins l f p' q.0)
ripe-alike k2 n l f p' q = rw (over-same counts l f p' q.1)
ripe-alike (k3 false) n l f p' q = rw (over-same syncs l f p' q.2)
ripe-alike (k3 true) n l f p' q = refl

pub shorts : {k : K} (e : ℕ) (h : Hist) (s : Server) (p : Pt k) → (length (back e h s p) ≤ 2) × (length (fwd e h p) ≤ 2)
shorts e h s out = omega arith
shorts e h s me = omega arith
shorts e h s a0 = omega arith
shorts e h s a1 = omega arith
shorts e h s b1 = omega arith
shorts e h s b2 = omega arith
shorts e h s b3 = omega arith
shorts e h s c1 = omega arith
shorts e h s c2 = omega arith
shorts e h s c3 = omega arith
shorts e h s c4 = omega arith
shorts e h s c5 = omega arith
shorts e h s c6 = omega arith
shorts e h s d1 = omega arith
shorts e h s d2 = omega arith

-- the leader goes on
abbrev pub r12 : Pt k1 → Pt k2
r12 out = out
r12 me = me
r12 a0 = a0
r12 a1 = b1

abbrev pub r23 : Pt k2 → Pt (k3 false)
r23 out = out
r23 me = me
r23 a0 = a0
r23 b1 = c1
r23 b2 = c2
r23 b3 = c3

abbrev pub r34 : Pt (k3 false) → Pt (k3 true)
r34 out = out
r34 me = me
r34 a0 = a0
r34 c1 = c1
r34 c2 = c2
r34 c3 = c3
r34 c4 = c4
r34 c5 = c5
r34 c6 = d1

-- the new epoch
abbrev pub fresh : ℕ → (ℕ → Server) → ℕ
fresh x init = (init x).dur.p + 1

-- the table, for n servers that were init
abbrev pub recovery : ℕ → ℕ → (ℕ → Server) → Sys
recovery n x init = record {
  K = K;
  Pt = Pt;
  Stage = Stage;
  is_me = is_me;
  is_in = is_in;
  left = left;
  back = λ st f p. back (fresh x init) (hist st) (init f) p;
  fwd = λ st p. fwd (fresh x init) (hist st) p;
  now = λ st f p. now x (fresh x init) (hist st) (init f) p;
  lead = λ st l. lead x (fresh x init) (init x) st l;
  fact = λ st f p. late p ≡ true → (init f).dur.d ≤ length (hist st);
  shut = λ {k} st l. ripe k n l ≡ false;
  back-short = λ st f p. (shorts (fresh x init) (hist st) (init f) p).0;
  fwd-short = λ st p. (shorts (fresh x init) (hist st) (init x) p).1;
}
