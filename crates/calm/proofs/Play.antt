-- Rounds as a whole: deliveries of waiting messages, as many as are to come, and no stop before.
use Prim.Native.Nat.{ℕ, zero, suc, ◌+◌, ◌<◌}
use native.Mathlib.Omega.{arith}
use mathlib.Core.Path.{◌≡◌, refl, sym, ap, ◌∙◌}
use mathlib.Core.Logic.{◌≢◌, ◌⊎◌, inl, inr}
use mathlib.Core.Bool.{Bool, true, false, true≢false}
use mathlib.Core.List.{List, [], ◌∷◌}
use lib.Dec.{eqb}
use lib.ListN.{length}
use borrow.Author.Tests.{eq-eqb, ne_eqb}
use Rattle.base.specs.Choice.{pick, both, either, all_below}
use Rattle.base.specs.Quorum.{Set, quorum}
use Rattle.base.specs.Refusals.{UNDO}
use Rattle.base.specs.declared.Sizes.{Sizes}
use Rattle.base.proofs.Choice.{eq-or, all-at, both_yes, either_left}
use Rattle.base.proofs.Quorum.{quorum-more}
use Rattle.rules.specs.Message.{Msg, formed}
use Rattle.rules.specs.Cluster.{Cluster, Event, D, told, event, after, play, is_done}
use Rattle.calm.specs.Calm.{Crew, all_done, Lively, end, then, Waiting}
use Rattle.calm.proofs.Laws.{over}
use Rattle.calm.proofs.Engine.{Scene, Sys, total, total-at, Calm, Step, cell-to, cell-from}

-- what is asked of the servers' safety: kept by every event, no delivery is told UNDO, and what waits is well formed
pub record Sure (z : Sizes) (depth : ℕ) (Safe : Cluster → Type 0) : Type 0 where
  pub kept : (c : Cluster) (e : Event) → Safe c → Safe (after (event z depth c e))
  pub never : (c : Cluster) → Safe c → (f t : ℕ) (c' : Cluster) → event z depth c (D f t) ≢ told UNDO c'
  pub proper : (c : Cluster) → Safe c → (f t : ℕ) (m : Msg) (r : List Msg) → f < z.n → t < z.n → c.chan f t ≡ m ∷ r → formed z m ≡ true

pub kept-all : (z : Sizes) (depth : ℕ) (Safe : Cluster → Type 0) → Sure z depth Safe → (c : Cluster) (es : List Event) → Safe c → Safe (play z depth c es)
unfolding play
kept-all z depth Safe sure c [] s = s
kept-all z depth Safe sure c (e ∷ es) s = kept-all z depth Safe sure (after (event z depth c e)) es (sure.kept c e s)

-- one that fails a test
find : (n : ℕ) (g : ℕ → Bool) → all_below n g ≡ false → (i : ℕ) × (i < n) × (g i ≡ false)
unfolding all_below both
find zero g z = absurd (true≢false z)
find (suc n) g z = go (g n) refl z (find n g)
  where
    go : (t : Bool) → g n ≡ t → both t (all_below n g) ≡ false → (all_below n g ≡ false → (i : ℕ) × (i < n) × (g i ≡ false)) → (i : ℕ) × (i < suc n) × (g i ≡ false)
    go false e z f = (n, omega arith, e)
    go true e z f = let r = f z in (r.0, (let h = r.1 in omega arith), r.2)

-- if each that takes part and rests is counted, and all rest, those counted are a quorum
pub all-counted : {P : Type 0} (n x : ℕ) (q : Set) → Crew n x q → (is_in rests counts : P → Bool) → ((p : P) → is_in p ≡ true → rests p ≡ true → counts p ≡ true)
    → (l : ℕ → P) → ((i : ℕ) → is_in (l i) ≡ q i) → ((i : ℕ) → i < n → rests (l i) ≡ true) → quorum n (over counts l) ≡ true
unfolding over
all-counted n x q crew is_in rests counts h l ins rest = quorum-more n q (λ i. counts (l i)) (λ s hs e. h (l s) (ins s ∙ e) (rest s hs)) crew.enough

-- if all rest, and one that rests has nothing to come, nothing is to come
pub nothing : (Y : Sys) {k : Y.K} (rests : Y.Pt k → Bool) → ((p : Y.Pt k) → rests p ≡ true → Y.left p ≡ 0) → (n : ℕ) (l : ℕ → Y.Pt k) → ((i : ℕ) → i < n → rests (l i) ≡ true) → total Y n l ≡ 0
nothing Y rests h zero l rest = refl
nothing Y rests h (suc n) l rest = rw (h (l n) (rest n (omega arith)), nothing Y rests h n l (λ i lt. rest i (omega arith)))

-- what a table of points has to show
pub record Plays (w : Scene) (Y : Sys) (Safe : Cluster → Type 0) : Type 1 where
  pub rests : {k : Y.K} → Y.Pt k → Bool
  pub awake : {k : Y.K} (st : Y.Stage k) (i : ℕ) (p : Y.Pt k) → rests p ≡ false → (Y.is_in p ≡ true) × ((Y.back st i p ≢ []) ⊎ (Y.fwd st p ≢ []))
  pub idle : {k : Y.K} (st : Y.Stage k) (i : ℕ) (p : Y.Pt k) → Y.is_me p ≡ true → (Y.back st i p ≡ []) × (Y.fwd st p ≡ [])
  pub last : {k : Y.K} (st : Y.Stage k) (i : ℕ) (p : Y.Pt k) → (Y.is_in p ≡ true → Y.left p ≡ 0) → (Y.back st i p ≡ []) × (Y.fwd st p ≡ [])
  pub stall : {k : Y.K} (st : Y.Stage k) (l : ℕ → Y.Pt k) → Y.shut st l → ((i : ℕ) → Y.is_in (l i) ≡ w.q i) → ((i : ℕ) → i < w.z.n → rests (l i) ≡ true) → total Y w.z.n l ≡ 0
  pub take : {k : Y.K} (c : Cluster) (st : Y.Stage k) (l : ℕ → Y.Pt k) → Calm w Y c st l → Safe c → (f : ℕ) → w.q f ≡ true → f ≢ w.x
      → Y.fwd st (l f) ≢ [] → Step w Y (event w.z w.depth c (D w.x f)) (total Y w.z.n l)
  pub give : {k : Y.K} (c : Cluster) (st : Y.Stage k) (l : ℕ → Y.Pt k) → Calm w Y c st l → Safe c → (f : ℕ) → w.q f ≡ true → f ≢ w.x
      → Y.back st f (l f) ≢ [] → Step w Y (event w.z w.depth c (D f w.x)) (total Y w.z.n l)

-- when nothing is to come, it is so for each that takes part
pub none : (w : Scene) (Y : Sys) {k : Y.K} (c : Cluster) (st : Y.Stage k) (l : ℕ → Y.Pt k) → Calm w Y c st l → total Y w.z.n l ≡ 0 → (i : ℕ) → Y.is_in (l i) ≡ true → Y.left (l i) ≡ 0
none w Y c st l calm e i h = total-at Y w.z.n l i (w.crew.inside i (sym (calm.ins i) ∙ h)) e

module _ (w : Scene) (Y : Sys) (Safe : Cluster → Type 0) (sure : Sure w.z w.depth Safe) (plays : Plays w Y Safe) where
  open w use {z, depth, x, q, still, crew, quiet}

  -- one delivery
  step : {k : Y.K} (c : Cluster) (st : Y.Stage k) (l : ℕ → Y.Pt k) → Calm w Y c st l → Safe c → (f t : ℕ) → q f ≡ true → q t ≡ true
      → c.chan f t ≢ [] → Step w Y (event z depth c (D f t)) (total Y z.n l)
  unfolding pick
  step c st l calm safe f t hf ht busy = go (eq-or f x) (eq-or t x)
    where
      go : (f ≡ x) ⊎ (f ≢ x) → (t ≡ x) ⊎ (t ≢ x) → Step w Y (event z depth c (D f t)) (total Y z.n l)
      go (inl fx) (inl tx) = absurd (busy (rw (fx, tx) (calm.cells x x ∙ rw (eq-eqb x x refl) (plays.idle st x (l x) (calm.own x ∙ eq-eqb x x refl)).0)))
      go (inl fx) (inr tx) = rw fx (plays.take c st l calm safe t ht tx (λ e. busy (rw fx (cell-to w Y c st l calm t ht tx ∙ e))))
      go (inr fx) (inl tx) = rw tx (plays.give c st l calm safe f hf fx (λ e. busy (rw tx (cell-from w Y c st l calm f hf fx ∙ e))))
      go (inr fx) (inr tx) = absurd (busy (calm.cells f t ∙ rw (ne_eqb t x tx, ne_eqb f x fx) (quiet f t (either_left (q f) (q t) hf))))

  -- deliveries es from c, with t to come at first: each was taken, and so many fewer are to come
  pub record Ran (c : Cluster) (es : List Event) (t : ℕ) : Type 0 where
    pub k : Y.K
    pub st : Y.Stage k
    pub l : ℕ → Y.Pt k
    pub calm : Calm w Y (play z depth c es) st l
    pub spent : total Y z.n l + length es ≡ t
    pub took : all_done z depth c es ≡ true

  pub ran : {k : Y.K} (c : Cluster) (st : Y.Stage k) (l : ℕ → Y.Pt k) → Calm w Y c st l → Safe c → (es : List Event) → Lively z depth q c es → Ran c es (total Y z.n l)
  unfolding play all_done
  ran {k = k} c st l calm safe es end = record { k = k; st = st; l = l; calm = calm; spent = omega arith; took = refl }
  ran {k = k} c st l calm safe es (then {f = f} {t = t} {es = es'} hf ht busy more) =
      let s = step c st l calm safe f t hf ht busy in
      let r = ran {k = s.k} (after (event z depth c (D f t))) s.st s.l s.calm (sure.kept c (D f t) safe) es' more in
      record {
        k = r.k;
        st = r.st;
        l = r.l;
        calm = r.calm;
        spent = omega (arith, s.less, r.spent);
        took = both_yes (is_done (event z depth c (D f t))) (all_done z depth (after (event z depth c (D f t))) es') s.took r.took;
      }

  -- while something is to come, something waits
  pub waits : {k : Y.K} (c : Cluster) (st : Y.Stage k) (l : ℕ → Y.Pt k) → Calm w Y c st l → 0 < total Y z.n l → Waiting q c
  waits c st l calm h = go (all_below z.n (λ i. plays.rests (l i))) refl
    where
      here : (i : ℕ) → q i ≡ true → (i ≡ x) ⊎ (i ≢ x) → (Y.back st i (l i) ≢ []) ⊎ (Y.fwd st (l i) ≢ []) → Waiting q c
      here i hi (inl ix) (inl b) = absurd (b (plays.idle st i (l i) (calm.own i ∙ eq-eqb i x ix)).0)
      here i hi (inl ix) (inr b) = absurd (b (plays.idle st i (l i) (calm.own i ∙ eq-eqb i x ix)).1)
      here i hi (inr ix) (inl b) = record { from = i; to = x; from_in = hi; to_in = crew.mine; busy = λ y. b (sym (cell-from w Y c st l calm i hi ix) ∙ y) }
      here i hi (inr ix) (inr b) = record { from = x; to = i; from_in = crew.mine; to_in = hi; busy = λ y. b (sym (cell-to w Y c st l calm i hi ix) ∙ y) }

      go : (t : Bool) → all_below z.n (λ i. plays.rests (l i)) ≡ t → Waiting q c
      go true e = absurd (let y = plays.stall st l calm.short calm.ins (all-at z.n (λ i. plays.rests (l i)) e) in let b : ⊥ = omega arith in b)
      go false e =
          let r = find z.n (λ i. plays.rests (l i)) e in
          let a = plays.awake st r.0 (l r.0) r.2 in
          here r.0 (sym (calm.ins r.0) ∙ a.0) (eq-or r.0 x) a.1

  -- when nothing is to come, nothing waits for or from a server of q
  pub silent : {k : Y.K} (c : Cluster) (st : Y.Stage k) (l : ℕ → Y.Pt k) → Calm w Y c st l → total Y z.n l ≡ 0
      → (a b : ℕ) → either (q a) (q b) ≡ true → c.chan a b ≡ []
  unfolding pick
  silent c st l calm e a b h = calm.cells a b ∙ go (eqb b x) (eqb a x)
    where
      go : (t u : Bool) → pick t (Y.back st a (l a)) (pick u (Y.fwd st (l b)) (still a b)) ≡ []
      go true u = (plays.last st a (l a) (none w Y c st l calm e a)).0
      go false true = (plays.last st b (l b) (none w Y c st l calm e b)).1
      go false false = quiet a b h

  -- and there is such a sequence: as long as what is to come
  pub exists : {k : Y.K} (m : ℕ) (c : Cluster) (st : Y.Stage k) (l : ℕ → Y.Pt k) → Calm w Y c st l → Safe c → total Y z.n l ≡ m
      → (es : List Event) × Lively z depth q c es × (length es ≡ m)
  exists {k = k} zero c st l calm safe e = ([], end, refl)
  exists {k = k} (suc m) c st l calm safe e =
      let p = waits c st l calm (omega arith) in
      let s = step c st l calm safe p.from p.to p.from_in p.to_in p.busy in
      let r = exists {k = s.k} m (after (event z depth c (D p.from p.to))) s.st s.l s.calm (sure.kept c (D p.from p.to) safe) (omega (arith, s.less)) in
      (D p.from p.to ∷ r.0, then p.from_in p.to_in p.busy r.1, ap suc r.2)
