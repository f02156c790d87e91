-- Who holds a place, the search down from the end of the history, and one law for each return.
use Prim.Native.Nat.{ℕ, zero, suc, ◌+◌, ◌-◌, ◌≤◌, ◌<◌, max}
use mathlib.Core.Path.{◌≡◌, refl, sym, ap, subst, ◌∙◌}
use mathlib.Core.Logic.{◌≢◌, ⊎_elim}
use mathlib.Core.Bool.{Bool, true, false}
use mathlib.Core.List.{List, [], ◌∷◌, ◌++◌}
use native.Mathlib.Omega.{arith}
use denote.Bor.{Bor}
use denote.Param.Members.{Mut, Called}
use lib.Dec.{eqb, leb, ltb}
use lib.ListN.{length, set, get_or}
use borrow.Author.Tests.{eq-eqb, ne_eqb, le-leb, lt-leb, lt-ltb, le-ltb}
use Rattle.std.specs.Prelude.{Option, Some, None, MatchOption, IfSome, Result, Ok, Err}
use Rattle.std.specs.List.{FoldsTo}
use Rattle.std.specs.Fn.{CalledAt}
use Rattle.std.specs.Array.{MapsFrom}
use Rattle.std.specs.Iterator.{Yields}
use Rattle.std.specs.Range.{range_inclusive_start, range_inclusive_end, range_inclusive_exhausted, range_inclusive_len, range_inclusive_left, range_inclusive_steps_back}
use Rattle.std.specs.declared.iter.Rev.{Rev}
use Rattle.std.specs.declared.ops.RangeInclusive.{RangeInclusive}
use Rattle.std.specs.Result.{IsErrAnd}
use Rattle.std.proofs.lemmas.Result.{err_from_is_err_and}
use Rattle.base.specs.Choice.{both, either, pick, upd}
use Rattle.base.specs.Quorum.{Set, weight, size, quorum}
use Rattle.base.specs.Transaction.{Hist, LAST, ident, last_id, next_counter}
use Rattle.base.specs.declared.Ident.{Ident}
use Rattle.base.specs.declared.Refusal.{Refusal}
use Rattle.base.specs.declared.Refusal.TheVariants.{Role, Epoch, Gap, Full}
use Rattle.base.specs.declared.Txn.{Txn}
use Rattle.base.specs.declared.Sizes.{Sizes}
use Rattle.base.proofs.Choice.{eq-or}
use Rattle.rules.specs.declared.State.{State}
use Rattle.rules.specs.Message.{commitld, propose, commit}
use Rattle.rules.specs.Tree.{Tree, run, gate, to_all, only}
use Rattle.rules.specs.Step.{holders, advance, advanced, l3_sync, l4_advance, on_ackld, on_ack, on_submit}
use Rattle.rules.specs.Words.{server_of, txns, has, num}
use Rattle.rules.proofs.Words.{length-txns, get_set}
use Rattle.plan.specs.declared.Cast.{Cast}
use Rattle.plan.specs.declared.Plan.{Plan}
use Rattle.plan.specs.Plans.{pl, no_txn, no_cast, all_cast, solo_cast, plan_of, quiet_of, fine, decode, cast_of, hist_from, cand_from, Sized, From, Plans}
use Rattle.plan.proofs.Laws.{Gate, turned-away, past-gate, kept-quiet, answered, answered₂, solo-cast, cast-none}
use Rattle.deliver.specs.Delivers.{raised_of, synced_of, delivered_of, reach, commits_of, committed_of, welcomed_of}

-- ---- who holds c

-- sets that agree on the servers counted
size-same : (p q : Set) (n : ℕ) → ((i : ℕ) → i < n → p i ≡ q i) → size p n ≡ size q n
unfolding weight
size-same p q zero f = refl
size-same p q (suc n) f = rw (size-same p q n (λ i l. f i (omega arith)), f n (omega arith)) refl

pub quorum-same : (p q : Set) (n : ℕ) (b : Bool) → b ≡ quorum n p → n ≤ 7 → ((i : ℕ) → i < 7 → p i ≡ q i) → b ≡ quorum n q
unfolding quorum
quorum-same p q n b e l f = e ∙ rw (size-same p q n (λ i k. f i (omega arith))) refl

-- an array's elements by a closure that computes h, and stays as K says
module _ {F A B : Type 0} (g : Mut F (A × Unit {0}) B) (K : F → Type 0) (h : A → B) (t : (f : F) (x : A) (y : B) (f' : F) → K f → Called g f (x, tt) y f' → (y ≡ h x) × K f') (xs : List A) (ys : List B) (d : A) (e : B) where
  pub mapped : (n i : ℕ) (f : F) → K f → MapsFrom g f xs ys i n → (k : ℕ) → i ≤ k → k < i + n → get_or ys k e ≡ h (get_or xs k d)
  mapped zero i f a m k l u = absurd (omega arith)
  mapped (suc n) i f a m k l u =
      let b = t f m.1 m.2 m.0 a m.5 in
      ⊎_elim
      (λ (q : k ≡ i). rw q (m.4.1 e ∙ b.0 ∙ ap h (sym (m.3.1 d))))
      (λ (q : k ≢ i). mapped n (i + 1) m.0 b.1 m.6 k (omega arith) (omega arith))
      (eq-or k i)

-- a set with the leader put in, where it reads the counts
pub held-at : (q : List Bool) (w : List ℕ) (me j c i : ℕ) → j ≡ me → me < length q → get_or q i false ≡ leb c (get_or w i 0) → has (set q j true) i ≡ holders me (num w) c i
unfolding upd pick either
held-at q w me j c i e l m = rw e (ap (λ (f : Set). f i) (get_set q false me true l) ∙ rw m (go (eqb i me)))
  where
    go : (b : Bool) → pick b true (leb c (get_or w i 0)) ≡ either b (leb c (get_or w i 0))
    go true = refl
    go false = refl

-- ---- advance, from the end of the history down

-- how many places are left, and a call from the end
abbrev left : Rev (RangeInclusive ℕ) → ℕ
left s = range_inclusive_left (λ x y. y - x) s.iter

abbrev pub down : Rev (RangeInclusive ℕ) → Option ℕ → Rev (RangeInclusive ℕ) → Type 0
down s r t = range_inclusive_steps_back (λ x y. y - x) (λ x y. y ≡ x + 1) s.iter r t.iter

left-by : (s : Rev (RangeInclusive ℕ)) (b : Bool) → range_inclusive_exhausted s.iter ≡ b → left s ≡ range_inclusive_len (λ x y. y - x) (range_inclusive_start s.iter) (range_inclusive_end s.iter) b
left-by s b e = ap (range_inclusive_len (λ x y. y - x) (range_inclusive_start s.iter) (range_inclusive_end s.iter)) e

-- from d + 1 to c there are c - d places
pub left-all : (s : Rev (RangeInclusive ℕ)) (d c : ℕ) → range_inclusive_start s.iter ≡ d + 1 → range_inclusive_end s.iter ≡ c → range_inclusive_exhausted s.iter ≡ false → left s ≡ c - d
left-all s d c a b e = omega (arith, left-by s false e)

-- the next is d and as many more as are left
next-place : (s : Rev (RangeInclusive ℕ)) (d : ℕ) → range_inclusive_start s.iter ≡ d + 1 → 1 ≤ left s → range_inclusive_end s.iter ≡ d + left s
next-place s d a l = go (range_inclusive_exhausted s.iter) refl
  where
    go : (b : Bool) → range_inclusive_exhausted s.iter ≡ b → range_inclusive_end s.iter ≡ d + left s
    go true e = absurd (omega (arith, left-by s true e))
    go false e = omega (arith, left-by s false e)

module _ (n me : ℕ) (q : ℕ → ℕ) (d : ℕ) where
  turn : (k m x : ℕ) (b : Bool) → m + 1 ≡ k → x ≡ d + k → b ≡ quorum n (holders me q x) → advance n me q d k ≡ pick b x (advance n me q d m)
  unfolding advance
  turn k m x b e l h = let i : k ≡ suc m = omega arith in let j : d + suc m ≡ x = omega arith in rw (i, j, ← h) refl

  step : (s u : Rev (RangeInclusive ℕ)) (x : ℕ) (b : Bool) → range_inclusive_start s.iter ≡ d + 1 → down s (Some x) u → b ≡ quorum n (holders me q x) → advance n me q d (left s) ≡ pick b x (advance n me q d (left u))
  step s u x b a z h = turn (left s) (left u) x b z.1.1 (z.1.0 ∙ next-place s d a (omega (arith, z.1.1))) h

  module _ {F : Type 0} (g : Mut F (Bor ℕ × Unit {0}) Bool) (K : F → Type 0) (t : (f : F) (x : ℕ) (b : Bool) (f' : F) → K f → CalledAt g f x b f' → (b ≡ quorum n (holders me q x)) × K f') where
    -- what the search down finds
    pub found : (xs : List ℕ) (s e u : Rev (RangeInclusive ℕ)) (f f' : F) (r : Option ℕ) → K f → range_inclusive_start s.iter ≡ d + 1 → Yields down s xs e → down e r u
        → FoldsTo (λ p x p'. CalledAt g p x false p') f xs f' → IfSome r (λ x. (h : F) × CalledAt g f' x true h)
        → MatchOption r (advance n me q d (left s) ≡ d) (λ x. advance n me q d (left s) ≡ x)
    unfolding pick advance
    found [] s e u f f' None k a y z w i = rw (ap left y ∙ z.1.0) refl
    found [] s e u f f' (Some x) k a y z w i = step s u x true a (subst (λ (v : Rev (RangeInclusive ℕ)). down v (Some x) u) (sym y) z) (t f' x true i.0 (subst K w k) i.1).0
    found (x ∷ xs) s e u f f' r k a y z w i =
        let c = t f x false w.0 k w.1 in
        subst (λ (v : ℕ). MatchOption r (v ≡ d) (λ x. v ≡ x)) (sym (step s y.0 x false a y.1 c.0)) (found xs y.0 e u w.0 f' r c.1 (y.1.0 ∙ a) y.2 z w.2 i)

-- ---- casts

pub commits-yes : (to : List Bool) (old p d : ℕ) → old < d → all_cast to 9 p d ≡ commits_of to old p d
unfolding commits_of pick
commits-yes to old p d l = sym (rw (lt-ltb old d l))

pub commits-no : (to : List Bool) (old p d : ℕ) (r : Cast) → d ≤ old → r ≡ no_cast → r ≡ commits_of to old p d
unfolding commits_of pick
commits-no to old p d r l e = e ∙ sym (rw (le-ltb old d l))

module _ (to : List Bool) (old p d : ℕ) where
  pub commits-fine : fine (commits_of to old p d).kind (commits_of to old p d).x.0 ≡ true
  unfolding commits_of fine both either pick
  commits-fine = go (ltb old d)
    where
      go : (b : Bool) → fine (pick b (all_cast to 9 p d) no_cast).kind (pick b (all_cast to 9 p d) no_cast).x.0 ≡ true
      go true = refl
      go false = refl

  -- what the cast sends
  pub commits-send : (n me : ℕ) (hs : Hist) (y : Txn) → cast_of n me (commits_of to old p d) hs y ≡ pick (ltb old d) (to_all n me (has to) (commit p d)) []
  unfolding commits_of pick cast_of decode
  commits-send n me hs y = go (ltb old d)
    where
      go : (b : Bool) → cast_of n me (pick b (all_cast to 9 p d) no_cast) hs y ≡ pick b (to_all n me (has to) (commit p d)) []
      go true = refl
      go false = cast-none n me hs y

-- ---- the gate of a sender f, whose bit is read at i

module _ (z : Sizes) (s : State) (r : Result Plan Refusal) (h k m : List ℕ) (kind i f : ℕ) (y : Tree) (e : i ≡ f) where
  pub shut : (c : Refusal) → IsErrAnd r (λ x. x ≡ c) → Gate {A = Unit {0}} kind s (has s.joined i) (Err c) → Plans z s r h k m (run (gate kind s.stage (has s.joined f) y))
  shut c w g = let p = err_from_is_err_and r w in turned-away z s r h k m _ c (p.1 ∙ ap Err p.2) (rw e at (g y))

  pub passed : (a : Result (Unit {0}) Refusal) (u : Unit {0}) → Gate kind s (has s.joined i) a → a ≡ Ok u → Plans z s r h k m (run y) → Plans z s r h k m (run (gate kind s.stage (has s.joined f) y))
  passed a u g w p = past-gate z s r h k m _ a (run y) u (rw e at (g y)) w p

-- ---- ACK-LD in L3

module _ (z : Sizes) (s : State) (h k m : List ℕ) (f c : ℕ) where
  pub third-gap : (c ≡ s.len.0 → ⊥) → Plans z s (Err Gap) h k m (run (l3_sync z s.me f c (server_of s h k)))
  unfolding l3_sync run
  third-gap n = turned-away z s _ h k m _ Gap refl (rw (length-txns s.len.0 h, ne_eqb c s.len.0 n))

  pub third-done : (t : State) (b : Bool) (nt : Txn) (r : Plan) → c ≡ s.len.0 → t ≡ synced_of s f c → b ≡ quorum z.n (has t.synced) → b ≡ true → nt ≡ no_txn
      → r ≡ plan_of false (delivered_of t 8 c) 0 0 nt (all_cast t.synced 6 s.p.0 c) no_cast → Sized z s → From z s f → Plans z s (Ok r) h k m (run (l3_sync z s.me f c (server_of s h k)))
  unfolding l3_sync run pick hist_from cand_from cast_of decode fine both either
  third-done t b nt r y e g u i q w v =
      let len = s.len.0 in
      let at₁ : f < length s.synced = omega (arith, w.synced, w.most, v.low) in
      let at₂ : f < length s.counts = omega (arith, w.counts, w.most, v.low) in
      let g' : b ≡ quorum z.n (upd (has s.synced) f true) = rw (e, get_set s.synced false f true at₁) at g in
      answered z s _ h k m _ false (delivered_of (synced_of s f c) 8 c) 0 0 no_txn (all_cast (set s.synced f true) 6 s.p.0 c) (txns len h) (txns s.cand_len.0 k)
      (to_all z.n s.me (upd (has s.synced) f true) (commitld s.p.0 c))
      (ap Ok (rw (i, e) at q)) refl w.len w.cand (omega arith) (λ (j : ◌≡◌ {A = ℕ} 0 3). absurd (omega arith)) (omega arith) (λ _. refl) (λ _. refl) (λ _. omega arith) refl
      refl refl (rw (get_set s.synced false f true at₁))
      (rw (length-txns len h, eq-eqb c len y, ← g', u, get_set s.synced false f true at₁, get_set s.counts 0 f (max (num s.counts f) c) at₂, y) refl)

  pub third-more : (t : State) (b : Bool) (r : Plan) → c ≡ s.len.0 → t ≡ synced_of s f c → b ≡ quorum z.n (has t.synced) → b ≡ false
      → r ≡ quiet_of (delivered_of t 7 t.d.0) → Sized z s → From z s f → Plans z s (Ok r) h k m (run (l3_sync z s.me f c (server_of s h k)))
  unfolding l3_sync run
  third-more t b r y e g u q w v =
      let len = s.len.0 in
      let at₁ : f < length s.synced = omega (arith, w.synced, w.most, v.low) in
      let at₂ : f < length s.counts = omega (arith, w.counts, w.most, v.low) in
      let g' : b ≡ quorum z.n (upd (has s.synced) f true) = rw (e, get_set s.synced false f true at₁) at g in
      kept-quiet z s _ h k m _ (delivered_of (synced_of s f c) 7 s.d.0) (ap Ok (rw e at q)) refl w.len w.cand refl (omega arith)
      (rw (length-txns len h, eq-eqb c len y, ← g', u, get_set s.synced false f true at₁, get_set s.counts 0 f (max (num s.counts f) c) at₂) refl)

-- ---- ACK-LD past its gate

module _ (z : Sizes) (s : State) (h k m : List ℕ) (f e c : ℕ) where
  pub sync-epoch : (e ≡ s.p.0 → ⊥) → Plans z s (Err Epoch) h k m (run (on_ackld z s.me f e c (server_of s h k)))
  unfolding on_ackld run
  sync-epoch n = turned-away z s _ h k m _ Epoch refl (rw (ne_eqb e s.p.0 n))

  pub sync-third : (r : Result Plan Refusal) → e ≡ s.p.0 → s.stage ≡ 7 → Plans z s r h k m (run (l3_sync z s.me f c (server_of s h k))) → Plans z s r h k m (run (on_ackld z s.me f e c (server_of s h k)))
  unfolding on_ackld run
  sync-third r i l p = rw (eq-eqb e s.p.0 i, eq-eqb s.stage 7 l) p

  pub sync-gap : e ≡ s.p.0 → (s.stage ≡ 7 → ⊥) → s.len.0 < c → Plans z s (Err Gap) h k m (run (on_ackld z s.me f e c (server_of s h k)))
  unfolding on_ackld run
  sync-gap i l a = turned-away z s _ h k m _ Gap refl (rw (eq-eqb e s.p.0 i, ne_eqb s.stage 7 l, length-txns s.len.0 h, lt-leb c s.len.0 a))

  pub sync-done : (r : Plan) → e ≡ s.p.0 → (s.stage ≡ 7 → ⊥) → c ≤ s.len.0 → r ≡ welcomed_of z.n s f c → Sized z s → From z s f → Plans z s (Ok r) h k m (run (on_ackld z s.me f e c (server_of s h k)))
  unfolding on_ackld l4_advance advanced run pick hist_from cand_from cast_of decode fine both either
  sync-done r i l a q w v =
      let len = s.len.0 in
      let p = s.p.0 in
      let at₁ : f < length s.synced = omega (arith, w.synced, w.most, v.low) in
      let at₂ : f < length s.counts = omega (arith, w.counts, w.most, v.low) in
      let d = reach z.n (synced_of s f c) in
      let to = set s.synced f false in
      answered₂ z s _ h k m _ false (delivered_of (synced_of s f c) 8 d) 0 0 no_txn (commits_of to s.d.0 p d) (solo_cast f 6 p d) (txns len h) (txns s.cand_len.0 k)
      (pick (ltb s.d.0 d) (to_all z.n s.me (upd (has s.synced) f false) (commit p d)) []) (only f (commitld p d))
      (ap Ok q) refl w.len w.cand (omega arith) (λ (j : ◌≡◌ {A = ℕ} 0 3). absurd (omega arith)) (omega arith) (λ _. refl) (λ _. refl) (λ _. omega arith) (commits-fine to s.d.0 p d) refl
      refl refl (commits-send to s.d.0 p d z.n s.me (txns len h) no_txn ∙ rw (get_set s.synced false f false at₁))
      (solo-cast z.n s.me f (commitld p d) (omega (arith, w.most, v.low)) v.low v.other)
      (rw (eq-eqb e p i, ne_eqb s.stage 7 l, length-txns len h, le-leb c len a, get_set s.synced false f true at₁, get_set s.counts 0 f (max (num s.counts f) c) at₂) refl)

-- ---- ACK past its gate

module _ (z : Sizes) (s : State) (h k m : List ℕ) (f e n : ℕ) where
  pub ack-epoch : (e ≡ s.p.0 → ⊥) → Plans z s (Err Epoch) h k m (run (on_ack z s.me f e n (server_of s h k)))
  unfolding on_ack run
  ack-epoch x = turned-away z s _ h k m _ Epoch refl (rw (ne_eqb e s.p.0 x))

  pub ack-gap : e ≡ s.p.0 → s.len.0 < n → Plans z s (Err Gap) h k m (run (on_ack z s.me f e n (server_of s h k)))
  unfolding on_ack run
  ack-gap i a = turned-away z s _ h k m _ Gap refl (rw (eq-eqb e s.p.0 i, length-txns s.len.0 h, lt-leb n s.len.0 a))

  pub ack-done : (t : State) (r : Plan) → e ≡ s.p.0 → n ≤ s.len.0 → t ≡ raised_of s f n → r ≡ committed_of z.n t t.synced → Sized z s → From z s f → Plans z s (Ok r) h k m (run (on_ack z s.me f e n (server_of s h k)))
  unfolding on_ack l4_advance advanced run pick hist_from cand_from cast_of decode fine both either
  ack-done t r i a x q w v =
      let len = s.len.0 in
      let p = s.p.0 in
      let at₂ : f < length s.counts = omega (arith, w.counts, w.most, v.low) in
      let d = reach z.n (raised_of s f n) in
      answered₂ z s _ h k m _ false (delivered_of (raised_of s f n) 8 d) 0 0 no_txn (commits_of s.synced s.d.0 p d) no_cast (txns len h) (txns s.cand_len.0 k)
      (pick (ltb s.d.0 d) (to_all z.n s.me (has s.synced) (commit p d)) []) []
      (ap Ok (rw x at q)) refl w.len w.cand (omega arith) (λ (j : ◌≡◌ {A = ℕ} 0 3). absurd (omega arith)) (omega arith) (λ _. refl) (λ _. refl) (λ _. omega arith) (commits-fine s.synced s.d.0 p d) refl
      refl refl (commits-send s.synced s.d.0 p d z.n s.me (txns len h) no_txn) (cast-none z.n s.me (txns len h) no_txn)
      (rw (eq-eqb e p i, length-txns len h, le-leb n len a, get_set s.counts 0 f (max (num s.counts f) n) at₂) refl)

-- ---- a submission

abbrev pub longer_of : State → State
longer_of s = record {
  me = s.me;
  stage = s.stage;
  oracle = s.oracle;
  p = s.p;
  a = s.a;
  d = s.d;
  len = pl (s.len.0 + 1);
  largest = s.largest;
  cand_a = s.cand_a;
  cand_len = s.cand_len;
  joined = s.joined;
  acked = s.acked;
  synced = s.synced;
  counts = s.counts;
}

module _ (z : Sizes) (s : State) (h k m : List ℕ) (v : ℕ) where
  pub submit-role : (s.stage ≡ 8 → ⊥) → Plans z s (Err Role) h k m (run (on_submit z s.me v (server_of s h k)))
  unfolding on_submit run
  submit-role n = turned-away z s _ h k m _ Role refl (rw (ne_eqb s.stage 8 n))

  pub submit-full : s.stage ≡ 8 → z.room.0 ≤ s.len.0 → Plans z s (Err Full) h k m (run (on_submit z s.me v (server_of s h k)))
  unfolding on_submit run
  submit-full i a = turned-away z s _ h k m _ Full refl (rw (eq-eqb s.stage 8 i, length-txns s.len.0 h, le-ltb s.len.0 z.room.0 a))

  pub submit-last : (l : ℕ) → s.stage ≡ 8 → s.len.0 < z.room.0 → l ≡ last_id (txns s.len.0 h) → l ≡ ident s.p.0 LAST → Plans z s (Err Full) h k m (run (on_submit z s.me v (server_of s h k)))
  unfolding on_submit run
  submit-last l i a j o = turned-away z s _ h k m _ Full refl (rw (eq-eqb s.stage 8 i, ← j, eq-eqb l (ident s.p.0 LAST) o, length-txns s.len.0 h, lt-ltb s.len.0 z.room.0 a))

  pub submit-done : (l : ℕ) (id : Ident) (r : Plan) → s.stage ≡ 8 → s.len.0 < z.room.0 → l ≡ last_id (txns s.len.0 h) → (l ≡ ident s.p.0 LAST → ⊥) → id.0 ≡ ident s.p.0 (next_counter s.p.0 l)
      → r ≡ plan_of false (longer_of s) 3 0 (record { id = id; val = v }) (all_cast s.joined 7 s.p.0 (s.len.0 + 1)) no_cast → Sized z s
      → Plans z s (Ok r) h k m (run (on_submit z s.me v (server_of s h k)))
  unfolding on_submit run pick hist_from cand_from cast_of decode fine both either
  submit-done l id r i a j o t q w =
      let len = s.len.0 in
      let p = s.p.0 in
      let back : len + 1 - 1 ≡ len = omega arith in
      let x : Txn = record { id = id; val = v } in
      answered z s _ h k m _ false (longer_of s) 3 0 x (all_cast s.joined 7 p (len + 1)) (txns len h ++ (x ∷ [])) (txns s.cand_len.0 k)
      (to_all z.n s.me (has s.joined) (propose p (len + 1) x))
      (ap Ok q) refl (omega arith) w.cand (omega arith) (λ _. refl) (omega arith) (λ (j : ◌≡◌ {A = ℕ} 0 2). absurd (omega arith)) (λ (j : ◌≡◌ {A = ℕ} 3 0). absurd (omega arith)) (λ _. omega arith) refl
      (rw back) refl refl
      (rw (eq-eqb s.stage 8 i, ← j, ne_eqb l (ident p LAST) o, length-txns len h, lt-ltb len z.room.0 a, ← t, i) refl)
