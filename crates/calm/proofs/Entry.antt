-- A submission's table: PROPOSE out, ACK back, COMMIT out.
use Prim.Native.Nat.{ℕ, ◌+◌, ◌≤◌}
use native.Mathlib.Omega.{arith}
use mathlib.Core.Path.{◌≡◌, refl}
use mathlib.Core.Logic.{◌≢◌, ◌⊎◌, inl, inr}
use mathlib.Core.Bool.{Bool, true, false, not, false≢true, true≢false}
use mathlib.Core.List.{List, [], ◌∷◌, ◌++◌}
use lib.Dec.{leb}
use lib.ListN.{length}
use borrow.Author.Tests.{le-leb, lt-leb}
use Rattle.base.specs.Choice.{pick, both, either}
use Rattle.base.specs.Quorum.{Set, nobody, quorum}
use Rattle.base.specs.Transaction.{Hist}
use Rattle.base.specs.declared.Txn.{Txn}
use Rattle.rules.specs.Message.{Msg, propose, ack, commit}
use Rattle.rules.specs.Server.{Server, F4, L4, idle}
use Rattle.calm.proofs.Laws.{over}
use Rattle.calm.proofs.Engine.{Sys}

-- out: takes no part; me: the leader itself; u: the leader has not delivered; v: it has
pub data Pt : Bool → Type 0 where
  out me : {t : Bool} → Pt t
  u0 u1 u2 : Pt false
  v0 v1 v2 v3 v4 : Pt true

-- a point's row: deliveries to come; is it the leader, does it take part; has it acknowledged; does nothing wait
pub record Row : Type 0 where
  pub left : ℕ
  pub is_me : Bool
  pub is_in : Bool
  pub holds : Bool
  pub rests : Bool

abbrev pub row : ℕ → Bool → Bool → Bool → Bool → Row
row n a b c d = record { left = n; is_me = a; is_in = b; holds = c; rests = d }

abbrev pub tab : {k : Bool} → Pt k → Row
--          left me    in    holds rests
tab out = row 0 false false false true
tab me = row 0 true true true true
tab u0 = row 3 false true false false
tab u1 = row 2 false true false false
tab u2 = row 1 false true true true
tab v0 = row 3 false true false false
tab v1 = row 2 false true false false
tab v2 = row 1 false true true false
tab v3 = row 1 false true false false
tab v4 = row 0 false true true true

abbrev pub left : {k : Bool} → Pt k → ℕ
left p = (tab p).left

abbrev pub is_me : {k : Bool} → Pt k → Bool
is_me p = (tab p).is_me

abbrev pub is_in : {k : Bool} → Pt k → Bool
is_in p = (tab p).is_in

abbrev pub holds : {k : Bool} → Pt k → Bool
holds p = (tab p).holds

abbrev pub rests : {k : Bool} → Pt k → Bool
rests p = (tab p).rests

-- the leader's count of a server, n before the submission
abbrev pub num : {k : Bool} → ℕ → Pt k → ℕ
num n p = pick (both (is_in p) (not (is_me p))) (pick (holds p) (n + 1) n) 0

-- ---- in epoch e, of the history h, the transaction t is submitted at x

module _ (x e : ℕ) (h : Hist) (t : Txn) where
  -- what waits for the leader
  abbrev pub back : {k : Bool} → Pt k → List Msg
  back out = []
  back me = []
  back u0 = []
  back u1 = ack e (length h + 1) ∷ []
  back u2 = []
  back v0 = []
  back v1 = ack e (length h + 1) ∷ []
  back v2 = []
  back v3 = ack e (length h + 1) ∷ []
  back v4 = []

  -- what waits for the server
  abbrev pub fwd : {k : Bool} → Pt k → List Msg
  fwd out = []
  fwd me = []
  fwd u0 = propose e (length h + 1) t ∷ []
  fwd u1 = []
  fwd u2 = []
  fwd v0 = propose e (length h + 1) t ∷ commit e (length h + 1) ∷ []
  fwd v1 = commit e (length h + 1) ∷ []
  fwd v2 = commit e (length h + 1) ∷ []
  fwd v3 = []
  fwd v4 = []

  -- the server itself: the transaction not yet there, there, delivered
  abbrev pub old : Server
  old = record { dur = record { p = e; a = e; d = length h; hist = h }; stage = F4; orc = x + 1; vol = idle }

  abbrev pub mid : Server
  mid = record { dur = record { p = e; a = e; d = length h; hist = h ++ (t ∷ []) }; stage = F4; orc = x + 1; vol = idle }

  abbrev pub new : Server
  new = record { dur = record { p = e; a = e; d = length h + 1; hist = h ++ (t ∷ []) }; stage = F4; orc = x + 1; vol = idle }

  -- s is what it was before
  abbrev pub now : {k : Bool} → Server → Pt k → Server
  now s out = s
  now s me = s
  now s u0 = old
  now s u1 = mid
  now s u2 = mid
  now s v0 = old
  now s v1 = mid
  now s v2 = mid
  now s v3 = new
  now s v4 = new

  -- the leader itself
  abbrev pub lead : Set → (k : Bool) → (ℕ → Pt k) → Server
  lead q false l = record { dur = record { p = e; a = e; d = length h; hist = h ++ (t ∷ []) }; stage = L4; orc = x + 1; vol = record { joined = q; acked = nobody; synced = q; largest = 0; cand_epoch = 0; cand_hist = []; counts = over (num (length h)) l } }
  lead q true l = record { dur = record { p = e; a = e; d = length h + 1; hist = h ++ (t ∷ []) }; stage = L4; orc = x + 1; vol = record { joined = q; acked = nobody; synced = q; largest = 0; cand_epoch = 0; cand_hist = []; counts = over (num (length h)) l } }

  pub shorts : {k : Bool} (p : Pt k) → (length (back p) ≤ 2) × (length (fwd p) ≤ 2)
  shorts out = omega arith
  shorts me = omega arith
  shorts u0 = omega arith
  shorts u1 = omega arith
  shorts u2 = omega arith
  shorts v0 = omega arith
  shorts v1 = omega arith
  shorts v2 = omega arith
  shorts v3 = omega arith
  shorts v4 = omega arith

  -- one that does not rest takes part, and a message waits for it or from it
  pub awake : {k : Bool} (p : Pt k) → rests p ≡ false → (is_in p ≡ true) × ((back p ≢ []) ⊎ (fwd p ≢ []))
  awake out y = absurd (true≢false y)
  awake me y = absurd (true≢false y)
  awake u0 y = (refl, inr (λ y. let w : ◌≡◌ {A = ℕ} 0 1 = cc in omega arith))
  awake u1 y = (refl, inl (λ y. let w : ◌≡◌ {A = ℕ} 0 1 = cc in omega arith))
  awake u2 y = absurd (true≢false y)
  awake v0 y = (refl, inr (λ y. let w : ◌≡◌ {A = ℕ} 0 1 = cc in omega arith))
  awake v1 y = (refl, inl (λ y. let w : ◌≡◌ {A = ℕ} 0 1 = cc in omega arith))
  awake v2 y = (refl, inr (λ y. let w : ◌≡◌ {A = ℕ} 0 1 = cc in omega arith))
  awake v3 y = (refl, inl (λ y. let w : ◌≡◌ {A = ℕ} 0 1 = cc in omega arith))
  awake v4 y = absurd (true≢false y)

  pub me-idle : {k : Bool} (p : Pt k) → is_me p ≡ true → (back p ≡ []) × (fwd p ≡ [])
  me-idle out y = absurd (false≢true y)
  me-idle me y = (refl, refl)
  me-idle u0 y = absurd (false≢true y)
  me-idle u1 y = absurd (false≢true y)
  me-idle u2 y = absurd (false≢true y)
  me-idle v0 y = absurd (false≢true y)
  me-idle v1 y = absurd (false≢true y)
  me-idle v2 y = absurd (false≢true y)
  me-idle v3 y = absurd (false≢true y)
  me-idle v4 y = absurd (false≢true y)

  -- one that takes part has nothing to come: it is done
  pub last : {k : Bool} (p : Pt k) → (is_in p ≡ true → left p ≡ 0) → (back p ≡ []) × (fwd p ≡ [])
  last out y = (refl, refl)
  last me y = (refl, refl)
  last u0 y = absurd (let w : ⊥ = omega (arith, y refl) in w)
  last u1 y = absurd (let w : ⊥ = omega (arith, y refl) in w)
  last u2 y = absurd (let w : ⊥ = omega (arith, y refl) in w)
  last v0 y = absurd (let w : ⊥ = omega (arith, y refl) in w)
  last v1 y = absurd (let w : ⊥ = omega (arith, y refl) in w)
  last v2 y = absurd (let w : ⊥ = omega (arith, y refl) in w)
  last v3 y = absurd (let w : ⊥ = omega (arith, y refl) in w)
  last v4 y = (refl, refl)

  pub last-now : {k : Bool} (s : Server) (p : Pt k) → is_in p ≡ true → is_me p ≡ false → left p ≡ 0 → now s p ≡ new
  last-now s out i m y = absurd (false≢true i)
  last-now s me i m y = absurd (true≢false m)
  last-now s u0 i m y = absurd (let w : ⊥ = omega (arith, y) in w)
  last-now s u1 i m y = absurd (let w : ⊥ = omega (arith, y) in w)
  last-now s u2 i m y = absurd (let w : ⊥ = omega (arith, y) in w)
  last-now s v0 i m y = absurd (let w : ⊥ = omega (arith, y) in w)
  last-now s v1 i m y = absurd (let w : ⊥ = omega (arith, y) in w)
  last-now s v2 i m y = absurd (let w : ⊥ = omega (arith, y) in w)
  last-now s v3 i m y = absurd (let w : ⊥ = omega (arith, y) in w)
  last-now s v4 i m y = refl

  pub out-now : {k : Bool} (s : Server) (p : Pt k) → is_in p ≡ false → now s p ≡ s
  out-now s out i = refl
  out-now s me i = absurd (true≢false i)
  out-now s u0 i = absurd (true≢false i)
  out-now s u1 i = absurd (true≢false i)
  out-now s u2 i = absurd (true≢false i)
  out-now s v0 i = absurd (true≢false i)
  out-now s v1 i = absurd (true≢false i)
  out-now s v2 i = absurd (true≢false i)
  out-now s v3 i = absurd (true≢false i)
  out-now s v4 i = absurd (true≢false i)

pub last-num : {k : Bool} (n : ℕ) (p : Pt k) → (is_in p ≡ true → left p ≡ 0) → num n p ≡ pick (both (is_in p) (not (is_me p))) (n + 1) 0
unfolding pick both
last-num n out y = refl
last-num n me y = refl
last-num n u0 y = absurd (let w : ⊥ = omega (arith, y refl) in w)
last-num n u1 y = absurd (let w : ⊥ = omega (arith, y refl) in w)
last-num n u2 y = absurd (let w : ⊥ = omega (arith, y refl) in w)
last-num n v0 y = absurd (let w : ⊥ = omega (arith, y refl) in w)
last-num n v1 y = absurd (let w : ⊥ = omega (arith, y refl) in w)
last-num n v2 y = absurd (let w : ⊥ = omega (arith, y refl) in w)
last-num n v3 y = absurd (let w : ⊥ = omega (arith, y refl) in w)
last-num n v4 y = refl

pub last-rests : {k : Bool} (p : Pt k) → (is_in p ≡ true → left p ≡ 0) → rests p ≡ true
last-rests out y = refl
last-rests me y = refl
last-rests u0 y = absurd (let w : ⊥ = omega (arith, y refl) in w)
last-rests u1 y = absurd (let w : ⊥ = omega (arith, y refl) in w)
last-rests u2 y = absurd (let w : ⊥ = omega (arith, y refl) in w)
last-rests v0 y = absurd (let w : ⊥ = omega (arith, y refl) in w)
last-rests v1 y = absurd (let w : ⊥ = omega (arith, y refl) in w)
last-rests v2 y = absurd (let w : ⊥ = omega (arith, y refl) in w)
last-rests v3 y = absurd (let w : ⊥ = omega (arith, y refl) in w)
last-rests v4 y = refl

-- all that rest hold it, or are done
pub rest1 : (p : Pt false) → is_in p ≡ true → rests p ≡ true → holds p ≡ true
rest1 out i y = absurd (false≢true i)
rest1 me i y = refl
rest1 u0 i y = absurd (false≢true y)
rest1 u1 i y = absurd (false≢true y)
rest1 u2 i y = refl

pub rest2 : (p : Pt true) → rests p ≡ true → left p ≡ 0
rest2 out y = refl
rest2 me y = refl
rest2 v0 y = absurd (false≢true y)
rest2 v1 y = absurd (false≢true y)
rest2 v2 y = absurd (false≢true y)
rest2 v3 y = absurd (false≢true y)
rest2 v4 y = refl

-- who holds it, by the leader's counts
pub holders-at : {k : Bool} (n : ℕ) (p : Pt k) → either (is_me p) (leb (n + 1) (num n p)) ≡ holds p
unfolding pick both either
holders-at n out = lt-leb (n + 1) 0 (omega arith)
holders-at n me = refl
holders-at n u0 = lt-leb (n + 1) n (omega arith)
holders-at n u1 = lt-leb (n + 1) n (omega arith)
holders-at n u2 = le-leb (n + 1) (n + 1) (omega arith)
holders-at n v0 = lt-leb (n + 1) n (omega arith)
holders-at n v1 = lt-leb (n + 1) n (omega arith)
holders-at n v2 = le-leb (n + 1) (n + 1) (omega arith)
holders-at n v3 = lt-leb (n + 1) n (omega arith)
holders-at n v4 = le-leb (n + 1) (n + 1) (omega arith)

-- the leader delivers
abbrev pub r12 : Pt false → Pt true
r12 out = out
r12 me = me
r12 u0 = v0
r12 u1 = v1
r12 u2 = v2

pub num12 : (n : ℕ) (p : Pt false) → num n (r12 p) ≡ num n p
num12 n out = refl
num12 n me = refl
num12 n u0 = refl
num12 n u1 = refl
num12 n u2 = refl

-- the table, for n servers that were init
abbrev pub submission : ℕ → ℕ → Set → ℕ → Hist → Txn → (ℕ → Server) → Sys
submission n x q e h t init = record {
  K = Bool;
  Pt = Pt;
  Stage = λ k. Unit {0};
  is_me = is_me;
  is_in = is_in;
  left = left;
  back = λ st f p. back x e h t p;
  fwd = λ st p. fwd x e h t p;
  now = λ st f p. now x e h t (init f) p;
  lead = λ {k} st l. lead x e h t q k l;
  fact = λ st f p. Unit {0};
  shut = λ {k} st l. both (not k) (quorum n (over holds l)) ≡ false;
  back-short = λ st f p. (shorts x e h t p).0;
  fwd-short = λ st p. (shorts x e h t p).1;
}
