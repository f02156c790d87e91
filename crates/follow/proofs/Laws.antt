-- One law for each return: at the gate, or past it.
use Prim.Native.Nat.{ℕ, ◌+◌, ◌-◌, ◌≤◌, ◌<◌, max}
use mathlib.Core.Path.{◌≡◌, refl, ap, ◌∙◌}
use mathlib.Core.Logic.{◌≢◌}
use mathlib.Core.Bool.{Bool, true, false}
use mathlib.Core.List.{List, [], ◌∷◌, ◌++◌}
use native.Mathlib.Omega.{arith}
use lib.Dec.{eqb}
use lib.ListN.{set, replicate}
use borrow.Author.Tests.{eq-eqb, ne_eqb, le-leb, lt-leb, lt-ltb, le-ltb}
use Rattle.std.specs.Prelude.{Result, Ok, Err, IsErrAnd}
use Rattle.std.proofs.lemmas.Result.{err_from_is_err_and}
use Rattle.base.specs.Choice.{both, either, pick}
use Rattle.base.specs.Refusals.{number, EPOCH}
use Rattle.base.specs.Transaction.{ident, last_id, next_counter, same_hist}
use Rattle.base.specs.declared.Place.{Place}
use Rattle.base.specs.declared.Refusal.{Refusal}
use Rattle.base.specs.declared.Refusal.TheVariants.{Event, Epoch, Gap, Undo, Full}
use Rattle.base.specs.declared.Txn.{Txn}
use Rattle.base.specs.declared.Sizes.{Sizes}
use Rattle.rules.specs.declared.State.{State}
use Rattle.rules.specs.Message.{cepoch, acke, ackld, ack, Send}
use Rattle.rules.specs.Server.{nil}
use Rattle.rules.specs.Tree.{Tree, Res, need, refused, taken, run, only}
use Rattle.rules.specs.Step.{keeps, on_oracle, on_restart, on_newepoch, on_newleader, on_propose, on_commit}
use Rattle.rules.specs.Words.{server_of, server_with, txns, num}
use Rattle.rules.proofs.Words.{length-txns, take-txns, get_set, zero-at}
use Rattle.plan.specs.declared.Cast.{Cast}
use Rattle.plan.specs.declared.Plan.{Plan}
use Rattle.plan.specs.Plans.{ep, pl, nowhere, no_txn, no_cast, solo_cast, plan_of, quiet_of, fine, decode, cast_of, hist_from, cand_from, Sized, From, Plans}
use Rattle.plan.proofs.Laws.{turned-away, kept-quiet, answered, solo-cast, cast-none, none_has}
use Rattle.follow.specs.Anew.{cleared_of}

-- ---- refused at the gate: what the exit of its `?` gives back

pub shut : (z : Sizes) (s : State) (r : Result Plan Refusal) (h k m : List ℕ) (x : Res) (c : Refusal) → IsErrAnd r (λ d. d ≡ c) → x ≡ refused (number c) → Plans z s r h k m x
shut z s r h k m x c e q = let p = err_from_is_err_and r e in turned-away z s r h k m x c (p.1 ∙ ap Err p.2) q

-- ---- oracle, restart

counts-nil : ◌≡◌ {A = ℕ → ℕ} (num (replicate 7 0)) nil
counts-nil = λ j i. zero-at 7 i j

abbrev pub leading_of : State → ℕ → State
leading_of s x = record {
  me = s.me;
  stage = 5;
  oracle = x + 1;
  p = s.p;
  a = s.a;
  d = s.d;
  len = s.len;
  largest = s.p;
  cand_a = ep 0;
  cand_len = pl 0;
  joined = set nowhere x true;
  acked = nowhere;
  synced = nowhere;
  counts = replicate 7 0;
}

module _ (z : Sizes) (s : State) (q : Plan) (h k m : List ℕ) (w : Sized z s) where
  -- the cleared record stands for the cleared server
  anew-means : (t : State) (one : Cast) (out : List Send) (x : Res) → q ≡ plan_of true t 0 0 no_txn one no_cast → t.me ≡ s.me → t.len ≡ s.len → t.cand_len ≡ pl 0 → fine one.kind one.x.0 ≡ true
      → cast_of z.n t.me one (txns s.len.0 h) no_txn ≡ out → x ≡ taken true (server_with t (txns s.len.0 h) []) out → Plans z s (Ok q) h k m x
  unfolding hist_from cand_from pick txns
  anew-means t one out x e a l c f o v =
      answered z s (Ok q) h k m x true t 0 0 no_txn one (txns s.len.0 h) [] out (ap Ok e) a (rw l w.len) (rw c (omega arith)) (omega arith) (λ (y : ◌≡◌ {A = ℕ} 0 3). absurd (omega arith)) (omega arith) (λ _. refl) (λ _. rw l refl) (λ _. rw c (omega arith))
      f (rw l) (rw c) o v

  pub restarted : q ≡ plan_of true (cleared_of s 0 0) 0 0 no_txn no_cast no_cast → Plans z s (Ok q) h k m (run (on_restart (server_of s h k)))
  unfolding on_restart run fine both either
  restarted e = anew-means (cleared_of s 0 0) no_cast [] _ e refl refl refl refl (cast-none z.n s.me (txns s.len.0 h) no_txn)
      (rw (none_has, counts-nil) refl)

  pub oracle-other : (x : ℕ) → x < z.n → x ≢ s.me → q ≡ plan_of true (cleared_of s 1 (x + 1)) 0 0 no_txn (solo_cast x 1 s.p.0 0) no_cast → Plans z s (Ok q) h k m (run (on_oracle z s.me x (server_of s h k)))
  unfolding on_oracle run fine both either cast_of decode pick
  oracle-other x l n e = anew-means (cleared_of s 1 (x + 1)) (solo_cast x 1 s.p.0 0) (only x (cepoch s.p.0)) _ e refl refl refl refl
      (solo-cast z.n s.me x (cepoch s.p.0) (omega (arith, w.most)) l n)
      (rw (lt-ltb x z.n l, ne_eqb x s.me n, none_has, counts-nil) refl)

  pub oracle-self : (x : ℕ) → x < z.n → x ≡ s.me → q ≡ plan_of true (leading_of s x) 0 0 no_txn no_cast no_cast → Plans z s (Ok q) h k m (run (on_oracle z s.me x (server_of s h k)))
  unfolding on_oracle run fine both either
  oracle-self x l y e = anew-means (leading_of s x) no_cast [] _ e refl refl refl refl (cast-none z.n s.me (txns s.len.0 h) no_txn)
      (rw (lt-ltb x z.n l, eq-eqb x s.me y, y, get_set nowhere false s.me true (omega (arith, w.me, w.most)), none_has, counts-nil) refl)

module _ (z : Sizes) (s : State) (h k m : List ℕ) where
  pub oracle-none : (x : ℕ) → z.n ≤ x → Plans z s (Err Event) h k m (run (on_oracle z s.me x (server_of s h k)))
  unfolding on_oracle run
  oracle-none x n = turned-away z s _ h k m _ Event refl (rw (le-ltb x z.n n))

-- ---- past the gate

-- the record with another stage, other epochs, and another delivered and whole length
abbrev pub moved_of : State → ℕ → ℕ → ℕ → ℕ → ℕ → State
moved_of s stage p a d len = record {
  me = s.me;
  stage = stage;
  oracle = s.oracle;
  p = ep p;
  a = ep a;
  d = pl d;
  len = pl len;
  largest = s.largest;
  cand_a = s.cand_a;
  cand_len = s.cand_len;
  joined = s.joined;
  acked = s.acked;
  synced = s.synced;
  counts = s.counts;
}

-- an epoch that is not the promised one, where that one is asked for
pub other-epoch : (z : Sizes) (s : State) (h k m : List ℕ) (e : ℕ) (t : Tree) → e ≢ s.p.0 → Plans z s (Err Epoch) h k m (run (need (eqb e s.p.0) EPOCH t))
unfolding run
other-epoch z s h k m e t n = turned-away z s _ h k m _ Epoch refl (rw (ne_eqb e s.p.0 n))

-- ---- COMMIT-LD, COMMIT

module _ (z : Sizes) (s : State) (h k m : List ℕ) (e c : ℕ) where
  pub commit-gap : e ≡ s.p.0 → s.len.0 < c → Plans z s (Err Gap) h k m (run (on_commit e c (server_of s h k)))
  unfolding on_commit run
  commit-gap x n = turned-away z s _ h k m _ Gap refl (rw (eq-eqb e s.p.0 x, length-txns s.len.0 h, lt-leb c s.len.0 n))

  pub commit-done : (q : Plan) (d : Place) → e ≡ s.p.0 → c ≤ s.len.0 → Sized z s → d.0 ≡ max s.d.0 c → q ≡ quiet_of (moved_of s 4 s.p.0 s.a.0 d.0 s.len.0) → Plans z s (Ok q) h k m (run (on_commit e c (server_of s h k)))
  unfolding on_commit run
  commit-done q d x n w g v = kept-quiet z s _ h k m _ _ (ap Ok v) refl w.len w.cand refl (omega arith) (rw (eq-eqb e s.p.0 x, length-txns s.len.0 h, le-leb c s.len.0 n, g) refl)

-- ---- NEWEPOCH

module _ (z : Sizes) (s : State) (h k m : List ℕ) (f e : ℕ) where
  pub epoch-low : e < s.p.0 → Plans z s (Err Epoch) h k m (run (on_newepoch f e (server_of s h k)))
  unfolding on_newepoch run
  epoch-low a = turned-away z s _ h k m _ Epoch refl (rw (lt-leb s.p.0 e a))

  pub epoch-same : (q : Plan) → e ≡ s.p.0 → Sized z s → q ≡ quiet_of (moved_of s 2 e s.a.0 s.d.0 s.len.0) → Plans z s (Ok q) h k m (run (on_newepoch f e (server_of s h k)))
  unfolding on_newepoch run
  epoch-same q x w v = kept-quiet z s _ h k m _ _ (ap Ok v) refl w.len w.cand refl (omega arith) (rw (x, le-leb s.p.0 s.p.0 (omega arith), eq-eqb s.p.0 s.p.0 refl) refl)

  pub epoch-new : (q : Plan) → s.p.0 ≤ e → e ≢ s.p.0 → Sized z s → From z s f → q ≡ plan_of false (moved_of s 2 e s.a.0 s.d.0 s.len.0) 0 0 no_txn (solo_cast f 3 e s.a.0) no_cast
      → Plans z s (Ok q) h k m (run (on_newepoch f e (server_of s h k)))
  unfolding on_newepoch run pick hist_from cand_from cast_of decode fine both either
  epoch-new q a x w v i =
      answered z s _ h k m _ false (moved_of s 2 e s.a.0 s.d.0 s.len.0) 0 0 no_txn (solo_cast f 3 e s.a.0) (txns s.len.0 h) (txns s.cand_len.0 k) (only f (acke e s.a.0 (txns s.len.0 h)))
      (ap Ok i) refl w.len w.cand (omega arith) (λ (j : ◌≡◌ {A = ℕ} 0 3). absurd (omega arith)) (omega arith) (λ _. refl) (λ _. refl) (λ _. omega arith) refl
      refl refl (solo-cast z.n s.me f (acke e s.a.0 (txns s.len.0 h)) (omega (arith, w.most, v.low)) v.low v.other)
      (rw (le-leb s.p.0 e a, ne_eqb e s.p.0 x) refl)

-- ---- NEWLEADER

module _ (z : Sizes) (s : State) (h k m : List ℕ) (f e n : ℕ) where
  pub lead-short : e ≡ s.p.0 → n < s.d.0 → Plans z s (Err Undo) h k m (run (on_newleader f e (txns n m) (server_of s h k)))
  unfolding on_newleader keeps run
  lead-short x a = turned-away z s _ h k m _ Undo refl (rw (eq-eqb e s.p.0 x, length-txns n m, lt-leb s.d.0 n a))

  module _ (b : Bool) (x : e ≡ s.p.0) (a : s.d.0 ≤ n) (w : Sized z s) (t : b ≡ same_hist (txns s.d.0 m) (txns s.d.0 h)) where
    pub lead-undo : b ≡ false → Plans z s (Err Undo) h k m (run (on_newleader f e (txns n m) (server_of s h k)))
    unfolding on_newleader keeps run
    lead-undo u = turned-away z s _ h k m _ Undo refl
        (rw (eq-eqb e s.p.0 x, length-txns n m, le-leb s.d.0 n a, take-txns s.d.0 n m a, take-txns s.d.0 s.len.0 h w.d, ← t, u))

    pub lead-done : (q : Plan) → b ≡ true → n ≤ z.room.0 → From z s f → q ≡ plan_of false (moved_of s 3 s.p.0 e s.d.0 n) 1 0 no_txn (solo_cast f 5 e n) no_cast → Plans z s (Ok q) h k m (run (on_newleader f e (txns n m) (server_of s h k)))
    unfolding on_newleader keeps run pick hist_from cand_from cast_of decode fine both either
    lead-done q u c v i =
        answered z s _ h k m _ false (moved_of s 3 s.p.0 e s.d.0 n) 1 0 no_txn (solo_cast f 5 e n) (txns n m) (txns s.cand_len.0 k) (only f (ackld e n))
        (ap Ok i) refl c w.cand (omega arith) (λ (j : ◌≡◌ {A = ℕ} 1 3). absurd (omega arith)) (omega arith) (λ (j : ◌≡◌ {A = ℕ} 0 2). absurd (omega arith)) (λ (j : ◌≡◌ {A = ℕ} 1 0). absurd (omega arith)) (λ _. omega arith) refl
        refl refl (solo-cast z.n s.me f (ackld e n) (omega (arith, w.most, v.low)) v.low v.other)
        (rw (eq-eqb e s.p.0 x, length-txns n m, le-leb s.d.0 n a, take-txns s.d.0 n m a, take-txns s.d.0 s.len.0 h w.d, ← t, u))

-- ---- PROPOSE

module _ (z : Sizes) (s : State) (h k m : List ℕ) (f e n : ℕ) (x : Txn) where
  pub propose-place : e ≡ s.p.0 → n ≢ s.len.0 + 1 → Plans z s (Err Gap) h k m (run (on_propose z f e n x (server_of s h k)))
  unfolding on_propose run
  propose-place i a = turned-away z s _ h k m _ Gap refl (rw (eq-eqb e s.p.0 i, length-txns s.len.0 h, ne_eqb n (s.len.0 + 1) a))

  module _ (b : Bool) (l : ℕ) (i : e ≡ s.p.0) (a : n ≡ s.len.0 + 1) (j : l ≡ last_id (txns s.len.0 h)) (t : b ≡ eqb x.id.0 (ident e (next_counter e l))) where
    pub propose-gap : b ≡ false → Plans z s (Err Gap) h k m (run (on_propose z f e n x (server_of s h k)))
    unfolding on_propose run
    propose-gap u = turned-away z s _ h k m _ Gap refl
        (rw (eq-eqb e s.p.0 i, ← j, ← t, u, length-txns s.len.0 h, eq-eqb n (s.len.0 + 1) a))

    pub propose-full : b ≡ true → z.room.0 ≤ s.len.0 → Plans z s (Err Full) h k m (run (on_propose z f e n x (server_of s h k)))
    unfolding on_propose run
    propose-full u v = turned-away z s _ h k m _ Full refl
        (rw (eq-eqb e s.p.0 i, ← j, ← t, u, length-txns s.len.0 h, eq-eqb n (s.len.0 + 1) a, le-ltb s.len.0 z.room.0 v))

    pub propose-done : (q : Plan) → b ≡ true → s.len.0 < z.room.0 → Sized z s → From z s f → q ≡ plan_of false (moved_of s s.stage s.p.0 s.a.0 s.d.0 n) 3 0 x (solo_cast f 8 e n) no_cast
        → Plans z s (Ok q) h k m (run (on_propose z f e n x (server_of s h k)))
    unfolding on_propose run pick hist_from cand_from cast_of decode fine both either
    propose-done q u v w v' d =
        let len = s.len.0 in
        let back : n - 1 ≡ len = omega arith in
        answered z s _ h k m _ false (moved_of s s.stage s.p.0 s.a.0 s.d.0 n) 3 0 x (solo_cast f 8 e n) (txns len h ++ (x ∷ [])) (txns s.cand_len.0 k) (only f (ack e n))
        (ap Ok d) refl (omega arith) w.cand (omega arith) (λ _. a) (omega arith) (λ (j : ◌≡◌ {A = ℕ} 0 2). absurd (omega arith)) (λ (j : ◌≡◌ {A = ℕ} 3 0). absurd (omega arith)) (λ _. omega arith) refl
        (rw back) refl (solo-cast z.n s.me f (ack e n) (omega (arith, w.most, v'.low)) v'.low v'.other)
        (rw (eq-eqb e s.p.0 i, ← j, ← t, u, length-txns len h, eq-eqb n (len + 1) a, lt-ltb len z.room.0 v))
