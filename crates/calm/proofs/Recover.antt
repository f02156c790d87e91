-- The recovery as a whole: it cannot stop early, and how it ends.
use Prim.Native.Nat.{ℕ, ◌+◌, ◌-◌, ◌*◌, ◌≤◌, ◌<◌}
use native.Mathlib.Omega.{arith}
use mathlib.Core.Path.{◌≡◌, refl, ◌∙◌, fun_ext}
use mathlib.Core.Logic.{◌≢◌, ◌⊎◌, inl, inr}
use mathlib.Core.Bool.{true, false, not, false≢true, true≢false}
use mathlib.Core.List.{List, []}
use lib.Dec.{eqb}
use lib.ListN.{length}
use borrow.Author.Tests.{ne_eqb}
use Rattle.base.specs.Choice.{pick, both, either}
use Rattle.base.specs.Quorum.{Set, nobody, size}
use Rattle.base.specs.declared.Sizes.{Sizes}
use Rattle.base.specs.Transaction.{Hist, LAST}
use Rattle.base.proofs.Choice.{clash}
use Rattle.rules.specs.Server.{Server, F4, L4}
use Rattle.rules.specs.Cluster.{Cluster, Event, play}
use Rattle.calm.specs.Calm.{Crew, Others, naming, Lively, full, Ready, Recovered, Round}
use Rattle.calm.proofs.Laws.{over}
use Rattle.calm.proofs.Engine.{Scene, Sys, total, Calm}
use Rattle.calm.proofs.Play.{Sure, kept-all, Plays, none, all-counted, nothing, exists}
use Rattle.calm.proofs.Spread.{spread, total-spread}
use Rattle.calm.proofs.Rounds.{scene, round, established}
use Rattle.calm.proofs.Points.{K, k1, k2, k3, Pt, out, me, a0, a1, b1, b2, b3, c1, c2, c3, c4, c5, c6, d1, d2, left, is_me, is_in, joins, counts, syncs, rests, held, back, fwd, now, in_f, dur_f4, Stage, G1, G2, G3, hist, lead, ripe, fresh, recovery}
use Rattle.calm.proofs.Moves.{follow, answer}
use Rattle.calm.proofs.Naming.{named-calm}

-- ---- laws of the table

-- one that does not rest takes part, and a message waits for it or from it
awake : {k : K} (e : ℕ) (h : Hist) (s : Server) (p : Pt k) → rests p ≡ false → (is_in p ≡ true) × ((back e h s p ≢ []) ⊎ (fwd e h p ≢ []))
awake e h s out y = absurd (true≢false y)
awake e h s me y = absurd (true≢false y)
awake e h s a0 y = (refl, inl (λ y. let w : ◌≡◌ {A = ℕ} 0 1 = cc in omega arith))
awake e h s a1 y = absurd (true≢false y)
awake e h s b1 y = (refl, inr (λ y. let w : ◌≡◌ {A = ℕ} 0 1 = cc in omega arith))
awake e h s b2 y = (refl, inl (λ y. let w : ◌≡◌ {A = ℕ} 0 1 = cc in omega arith))
awake e h s b3 y = absurd (true≢false y)
awake e h s c1 y = (refl, inr (λ y. let w : ◌≡◌ {A = ℕ} 0 1 = cc in omega arith))
awake e h s c2 y = (refl, inl (λ y. let w : ◌≡◌ {A = ℕ} 0 1 = cc in omega arith))
awake e h s c3 y = (refl, inr (λ y. let w : ◌≡◌ {A = ℕ} 0 1 = cc in omega arith))
awake e h s c4 y = (refl, inl (λ y. let w : ◌≡◌ {A = ℕ} 0 1 = cc in omega arith))
awake e h s c5 y = (refl, inl (λ y. let w : ◌≡◌ {A = ℕ} 0 1 = cc in omega arith))
awake e h s c6 y = absurd (true≢false y)
awake e h s d1 y = (refl, inr (λ y. let w : ◌≡◌ {A = ℕ} 0 1 = cc in omega arith))
awake e h s d2 y = absurd (true≢false y)

-- all that rest have joined, are counted, are synced, are done
rest1 : (p : Pt k1) → is_in p ≡ true → rests p ≡ true → joins p ≡ true
rest1 out i y = absurd (false≢true i)
rest1 me i y = refl
rest1 a0 i y = absurd (false≢true y)
rest1 a1 i y = refl

rest2 : (p : Pt k2) → is_in p ≡ true → rests p ≡ true → counts p ≡ true
rest2 out i y = absurd (false≢true i)
rest2 me i y = refl
rest2 a0 i y = absurd (false≢true y)
rest2 b1 i y = absurd (false≢true y)
rest2 b2 i y = absurd (false≢true y)
rest2 b3 i y = refl

rest3 : (p : Pt (k3 false)) → is_in p ≡ true → rests p ≡ true → syncs p ≡ true
rest3 out i y = absurd (false≢true i)
rest3 me i y = refl
rest3 a0 i y = absurd (false≢true y)
rest3 c1 i y = absurd (false≢true y)
rest3 c2 i y = absurd (false≢true y)
rest3 c3 i y = absurd (false≢true y)
rest3 c4 i y = absurd (false≢true y)
rest3 c5 i y = absurd (false≢true y)
rest3 c6 i y = refl

rest4 : (p : Pt (k3 true)) → rests p ≡ true → left p ≡ 0
rest4 out y = refl
rest4 me y = refl
rest4 a0 y = absurd (false≢true y)
rest4 c1 y = absurd (false≢true y)
rest4 c2 y = absurd (false≢true y)
rest4 c3 y = absurd (false≢true y)
rest4 c4 y = absurd (false≢true y)
rest4 c5 y = absurd (false≢true y)
rest4 d1 y = absurd (false≢true y)
rest4 d2 y = refl

me-idle : {k : K} (e : ℕ) (h : Hist) (s : Server) (p : Pt k) → is_me p ≡ true → (back e h s p ≡ []) × (fwd e h p ≡ [])
me-idle e h s out y = absurd (false≢true y)
me-idle e h s me y = (refl, refl)
me-idle e h s a0 y = absurd (false≢true y)
me-idle e h s a1 y = absurd (false≢true y)
me-idle e h s b1 y = absurd (false≢true y)
me-idle e h s b2 y = absurd (false≢true y)
me-idle e h s b3 y = absurd (false≢true y)
me-idle e h s c1 y = absurd (false≢true y)
me-idle e h s c2 y = absurd (false≢true y)
me-idle e h s c3 y = absurd (false≢true y)
me-idle e h s c4 y = absurd (false≢true y)
me-idle e h s c5 y = absurd (false≢true y)
me-idle e h s c6 y = absurd (false≢true y)
me-idle e h s d1 y = absurd (false≢true y)
me-idle e h s d2 y = absurd (false≢true y)

-- one that takes part has nothing to come: it is done
last : {k : K} (e : ℕ) (h : Hist) (s : Server) (p : Pt k) → (is_in p ≡ true → left p ≡ 0) → (back e h s p ≡ []) × (fwd e h p ≡ [])
last e h s out y = (refl, refl)
last e h s me y = (refl, refl)
last e h s a0 y = absurd (let w : ⊥ = omega (arith, y refl) in w)
last e h s a1 y = absurd (let w : ⊥ = omega (arith, y refl) in w)
last e h s b1 y = absurd (let w : ⊥ = omega (arith, y refl) in w)
last e h s b2 y = absurd (let w : ⊥ = omega (arith, y refl) in w)
last e h s b3 y = absurd (let w : ⊥ = omega (arith, y refl) in w)
last e h s c1 y = absurd (let w : ⊥ = omega (arith, y refl) in w)
last e h s c2 y = absurd (let w : ⊥ = omega (arith, y refl) in w)
last e h s c3 y = absurd (let w : ⊥ = omega (arith, y refl) in w)
last e h s c4 y = absurd (let w : ⊥ = omega (arith, y refl) in w)
last e h s c5 y = absurd (let w : ⊥ = omega (arith, y refl) in w)
last e h s c6 y = absurd (let w : ⊥ = omega (arith, y refl) in w)
last e h s d1 y = absurd (let w : ⊥ = omega (arith, y refl) in w)
last e h s d2 y = (refl, refl)

last-rests : {k : K} (p : Pt k) → (is_in p ≡ true → left p ≡ 0) → rests p ≡ true
last-rests out y = refl
last-rests me y = refl
last-rests a0 y = absurd (let w : ⊥ = omega (arith, y refl) in w)
last-rests a1 y = absurd (let w : ⊥ = omega (arith, y refl) in w)
last-rests b1 y = absurd (let w : ⊥ = omega (arith, y refl) in w)
last-rests b2 y = absurd (let w : ⊥ = omega (arith, y refl) in w)
last-rests b3 y = absurd (let w : ⊥ = omega (arith, y refl) in w)
last-rests c1 y = absurd (let w : ⊥ = omega (arith, y refl) in w)
last-rests c2 y = absurd (let w : ⊥ = omega (arith, y refl) in w)
last-rests c3 y = absurd (let w : ⊥ = omega (arith, y refl) in w)
last-rests c4 y = absurd (let w : ⊥ = omega (arith, y refl) in w)
last-rests c5 y = absurd (let w : ⊥ = omega (arith, y refl) in w)
last-rests c6 y = absurd (let w : ⊥ = omega (arith, y refl) in w)
last-rests d1 y = absurd (let w : ⊥ = omega (arith, y refl) in w)
last-rests d2 y = refl

last-sets : (n : ℕ) (p : Pt (k3 true)) → (is_in p ≡ true → left p ≡ 0) → (joins p ≡ is_in p) × (syncs p ≡ is_in p) × (held n p ≡ pick (both (is_in p) (not (is_me p))) n 0)
unfolding pick both
last-sets n out y = (refl, refl, refl)
last-sets n me y = (refl, refl, refl)
last-sets n a0 y = absurd (let w : ⊥ = omega (arith, y refl) in w)
last-sets n c1 y = absurd (let w : ⊥ = omega (arith, y refl) in w)
last-sets n c2 y = absurd (let w : ⊥ = omega (arith, y refl) in w)
last-sets n c3 y = absurd (let w : ⊥ = omega (arith, y refl) in w)
last-sets n c4 y = absurd (let w : ⊥ = omega (arith, y refl) in w)
last-sets n c5 y = absurd (let w : ⊥ = omega (arith, y refl) in w)
last-sets n d1 y = absurd (let w : ⊥ = omega (arith, y refl) in w)
last-sets n d2 y = (refl, refl, refl)

last-now : {k : K} (x e : ℕ) (h : Hist) (s : Server) (p : Pt k) → is_in p ≡ true → is_me p ≡ false → left p ≡ 0 → now x e h s p ≡ in_f x F4 (dur_f4 e h)
last-now x e h s out i m y = absurd (false≢true i)
last-now x e h s me i m y = absurd (true≢false m)
last-now x e h s a0 i m y = absurd (let w : ⊥ = omega (arith, y) in w)
last-now x e h s a1 i m y = absurd (let w : ⊥ = omega (arith, y) in w)
last-now x e h s b1 i m y = absurd (let w : ⊥ = omega (arith, y) in w)
last-now x e h s b2 i m y = absurd (let w : ⊥ = omega (arith, y) in w)
last-now x e h s b3 i m y = absurd (let w : ⊥ = omega (arith, y) in w)
last-now x e h s c1 i m y = absurd (let w : ⊥ = omega (arith, y) in w)
last-now x e h s c2 i m y = absurd (let w : ⊥ = omega (arith, y) in w)
last-now x e h s c3 i m y = absurd (let w : ⊥ = omega (arith, y) in w)
last-now x e h s c4 i m y = absurd (let w : ⊥ = omega (arith, y) in w)
last-now x e h s c5 i m y = absurd (let w : ⊥ = omega (arith, y) in w)
last-now x e h s c6 i m y = absurd (let w : ⊥ = omega (arith, y) in w)
last-now x e h s d1 i m y = absurd (let w : ⊥ = omega (arith, y) in w)
last-now x e h s d2 i m y = refl

pub out-now : {k : K} (x e : ℕ) (h : Hist) (s : Server) (p : Pt k) → is_in p ≡ false → now x e h s p ≡ s
out-now x e h s out i = refl
out-now x e h s me i = absurd (true≢false i)
out-now x e h s a0 i = absurd (true≢false i)
out-now x e h s a1 i = absurd (true≢false i)
out-now x e h s b1 i = absurd (true≢false i)
out-now x e h s b2 i = absurd (true≢false i)
out-now x e h s b3 i = absurd (true≢false i)
out-now x e h s c1 i = absurd (true≢false i)
out-now x e h s c2 i = absurd (true≢false i)
out-now x e h s c3 i = absurd (true≢false i)
out-now x e h s c4 i = absurd (true≢false i)
out-now x e h s c5 i = absurd (true≢false i)
out-now x e h s c6 i = absurd (true≢false i)
out-now x e h s d1 i = absurd (true≢false i)
out-now x e h s d2 i = absurd (true≢false i)

-- ---- it cannot stop early

module _ (w : Scene) (init : ℕ → Server) where
  open w use {z, depth, x, q, still, crew}

  abbrev Y : Sys
  Y = recovery z.n x init

  abbrev e : ℕ
  e = fresh x init

  stalls : {k : K} (st : Stage k) (l : ℕ → Pt k) → ripe k z.n l ≡ false → ((i : ℕ) → is_in (l i) ≡ q i) → ((i : ℕ) → i < z.n → rests (l i) ≡ true) → total Y z.n l ≡ 0
  stalls G1 l sh ins rest = clash (all-counted z.n x q crew is_in rests joins rest1 l ins rest) sh
  stalls (G2 a h) l sh ins rest = clash (all-counted z.n x q crew is_in rests counts rest2 l ins rest) sh
  stalls (G3 false h) l sh ins rest = clash (all-counted z.n x q crew is_in rests syncs rest3 l ins rest) sh
  stalls (G3 true h) l sh ins rest = nothing Y rests rest4 z.n l rest

  pub plays : (init x).dur.p < LAST → ((i : ℕ) → q i ≡ true → (init i).dur.p ≤ (init x).dur.p) → (Safe : Cluster → Type 0) → Sure z depth Safe → Plays w Y Safe
  plays low top Safe sure = record {
    rests = rests;
    awake = λ st i p. awake e (hist st) (init i) p;
    idle = λ st i p. me-idle e (hist st) (init i) p;
    last = λ st i p. last e (hist st) (init i) p;
    stall = stalls;
    take = λ c st l calm safe f hf ne non. follow w init Safe sure c st l calm safe f hf ne (omega (arith, top f hf)) (l f) refl non;
    give = λ c st l calm safe f hf ne non. answer w init Safe sure low st c l calm safe f hf ne (top f hf) (l f) refl non;
  }

  -- ---- how it ends

  -- where nothing is to come, the leader is established, and all of q have joined, are synced and hold the history
  led : {k : K} (st : Stage k) (l : ℕ → Pt k) → ripe k z.n l ≡ false → ((i : ℕ) → is_me (l i) ≡ eqb i x) → ((i : ℕ) → is_in (l i) ≡ q i) → ((i : ℕ) → is_in (l i) ≡ true → left (l i) ≡ 0)
      → lead x e (init x) st l ≡ record { dur = dur_f4 e (hist st); stage = L4; orc = x + 1; vol = record { joined = q; acked = nobody; synced = q; largest = 0; cand_epoch = 0; cand_hist = []; counts = full q x (length (hist st)) } }
  unfolding over
  led G1 l sh own ins fin = clash (all-counted z.n x q crew is_in rests joins rest1 l ins (λ i _. last-rests (l i) (fin i))) sh
  led (G2 a h) l sh own ins fin = clash (all-counted z.n x q crew is_in rests counts rest2 l ins (λ i _. last-rests (l i) (fin i))) sh
  led (G3 false h) l sh own ins fin = clash (all-counted z.n x q crew is_in rests syncs rest3 l ins (λ i _. last-rests (l i) (fin i))) sh
  led (G3 true h) l sh own ins fin =
      let js : over joins l ≡ q = fun_ext (λ i. (last-sets 0 (l i) (fin i)).0 ∙ ins i) in
      let ss : over syncs l ≡ q = fun_ext (λ i. (last-sets 0 (l i) (fin i)).1 ∙ ins i) in
      let hs : over (held (length h)) l ≡ full q x (length h) = fun_ext (λ i. (last-sets (length h) (l i) (fin i)).2 ∙ rw (ins i, own i)) in
      λ i. record { dur = dur_f4 e h; stage = L4; orc = x + 1; vol = record { joined = js i; acked = nobody; synced = ss i; largest = 0; cand_epoch = 0; cand_hist = []; counts = hs i } }

  pub ended : {k : K} (c : Cluster) (st : Stage k) (l : ℕ → Pt k) → Calm w Y c st l → total Y z.n l ≡ 0 → ((a b : ℕ) → either (q a) (q b) ≡ true → c.chan a b ≡ [])
      → Ready q x e (hist st) c
  ended c st l calm y nil =
      let fin = none w Y c st l calm y in
      record {
        leads = calm.leads ∙ led st l calm.short calm.own calm.ins fin;
        rest = λ i hi ix. let h : is_in (l i) ≡ true = calm.ins i ∙ hi in calm.rest i ix ∙ last-now x e (hist st) (init i) (l i) h (calm.own i ∙ ne_eqb i x ix) (fin i h);
        empty = nil;
      }

-- ---- the recovery in a cluster c: x is named at itself and then at fs

module _ (z : Sizes) (depth x : ℕ) (q : Set) (crew : Crew z.n x q) (two : 2 ≤ z.n) (deep : 2 ≤ depth) (c : Cluster)
    (top : (i : ℕ) → q i ≡ true → (c.srv i).dur.p ≤ (c.srv x).dur.p) (low : (c.srv x).dur.p < LAST) (fs : List ℕ) (others : Others q x fs)
    (Safe : Cluster → Type 0) (sure : Sure z depth Safe) (safe : Safe c) where
  abbrev w : Scene
  w = scene z depth x q crew two deep c

  abbrev T : Sys
  T = recovery z.n x c.srv

  abbrev named : Cluster
  named = play z depth c (naming x fs)

  abbrev first : ℕ → Pt k1
  first = spread me a0 out x q

  safe' : Safe named
  safe' = kept-all z depth Safe sure c (naming x fs) safe

  table : Plays w T Safe
  table = plays w c.srv low top Safe sure

  calm : Calm w T named G1 first
  calm = named-calm z depth x c q crew two deep fs others

  six : total T {k = k1} z.n first ≡ 6 * (size q z.n - 1)
  six = let t = total-spread T {j = k1} me a0 out x q 6 refl refl refl crew.mine z.n (crew.inside x crew.mine) in omega (arith, t)

  pub recovers : (es : List Event) → Lively z depth q named es → Round z depth q c named es (6 * (size q z.n - 1)) (Recovered q x ((c.srv x).dur.p + 1))
  recovers = round z depth x q crew two deep c T (λ k st i p. out-now x ((c.srv x).dur.p + 1) (hist st) (c.srv i) p) Safe sure table
      named G1 first calm safe' (6 * (size q z.n - 1)) six (Recovered q x ((c.srv x).dur.p + 1))
      (λ k c' st l cm none nil. (hist st, established q x ((c.srv x).dur.p + 1) (hist st) c' (ended w c.srv c' st l cm none nil)))

  pub recovers-exists : (es : List Event) × Lively z depth q named es × (length es ≡ 6 * (size q z.n - 1))
  recovers-exists = exists w T Safe sure table (6 * (size q z.n - 1)) named G1 first calm safe' six
