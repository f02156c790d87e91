-- One law for each return.
use Prim.Native.Nat.{ℕ, ◌+◌, ◌*◌, ◌≤◌, ◌<◌, max}
use mathlib.Core.Path.{◌≡◌, refl, sym, ap, ◌∙◌}
use mathlib.Core.Logic.{◌≢◌}
use mathlib.Core.Bool.{Bool, true, false, true≢false}
use mathlib.Core.List.{List, []}
use native.Mathlib.Omega.{arith}
use lib.Dec.{eqb}
use lib.ListN.{length, take, set}
use lib.Seq.{length-take-le, take-take}
use borrow.Author.Tests.{eq-eqb, ne_eqb, le-leb, lt-leb, lt-ltb}
use Rattle.std.specs.Prelude.{Result, Ok, Err}
use Rattle.std.proofs.lemmas.List.{length-set}
use Rattle.base.specs.Choice.{both, either, pick, upd}
use Rattle.base.specs.Quorum.{quorum}
use Rattle.base.specs.Refusals.{number}
use Rattle.base.specs.Transaction.{LAST, last_id, same_hist}
use Rattle.base.specs.declared.Epoch.{Epoch}
use Rattle.base.specs.declared.Refusal.{Refusal}
use Rattle.base.specs.declared.Refusal.TheVariants as refusal
use Rattle.base.specs.declared.Txn.{Txn}
use Rattle.base.specs.declared.Sizes.{Sizes}
use Rattle.base.proofs.Choice.{case, eq-cases}
use Rattle.rules.specs.declared.State.{State}
use Rattle.rules.specs.Message.{cepoch, newepoch, acke, newleader}
use Rattle.rules.specs.Tree.{Tree, fork, refused, run, gate, to_all, only}
use Rattle.rules.specs.Step.{keeps, l1_join, l2_join, l34_join, on_cepoch, l2_count, on_acke, beats, receive}
use Rattle.rules.specs.Words.{server_of, txns, has}
use Rattle.rules.proofs.Words.{length-txns, take-txns, txns-same, get_set}
use Rattle.plan.specs.declared.Cast.{Cast}
use Rattle.plan.specs.declared.Plan.{Plan}
use Rattle.plan.specs.Plans.{ep, pl, no_txn, no_cast, all_cast, solo_cast, plan_of, quiet_of, fine, decode, cast_of, hist_from, cand_from, Sized, From, Plans}
use Rattle.plan.proofs.Laws.{turned-away, kept-quiet, answered, answered₂, solo-cast, cast-none, none_has, just-has}
use Rattle.lead.specs.States.{elected_of, joined_of, rejoined_of, counted_of, chosen_of}

-- ---- CEPOCH

abbrev pub Later : State → ℕ → ℕ → List ℕ → List ℕ → Tree
Later s f e h k = fork (eqb s.stage 6) (l2_join f e (server_of s h k)) (l34_join f e (server_of s h k))

module _ (z : Sizes) (s : State) (r : Result Plan Refusal) (h k m : List ℕ) (f e : ℕ) where
  pub cepoch-gate : {c : Refusal} → ((t : Tree) → run (gate 1 s.stage true t) ≡ refused (number c)) → r ≡ Err c → Plans z s r h k m (run (receive z s.me f (cepoch e) (server_of s h k)))
  unfolding receive
  cepoch-gate {c = c} g q = turned-away z s r h k m _ c q (g _)

  pub cepoch-first : ((t : Tree) → run (gate 1 s.stage true t) ≡ run t) → s.stage ≡ 5 → Plans z s r h k m (run (l1_join z s.me f e (server_of s h k))) → Plans z s r h k m (run (receive z s.me f (cepoch e) (server_of s h k)))
  unfolding receive on_cepoch run
  cepoch-first g x p = rw (g (on_cepoch z s.me f e (server_of s h k)), eq-eqb s.stage 5 x) p

  pub cepoch-later : ((t : Tree) → run (gate 1 s.stage true t) ≡ run t) → s.stage ≢ 5 → Plans z s r h k m (run (Later s f e h k)) → Plans z s r h k m (run (receive z s.me f (cepoch e) (server_of s h k)))
  unfolding receive on_cepoch run
  cepoch-later g n p = rw (g (on_cepoch z s.me f e (server_of s h k)), ne_eqb s.stage 5 n) p

pub later-epoch : (z : Sizes) (s : State) (f : ℕ) {e : ℕ} (h k m : List ℕ) → s.p.0 < e → Plans z s (Err refusal.Epoch) h k m (run (Later s f e h k))
unfolding l2_join l34_join run
later-epoch z s f {e = e} h k m n = turned-away z s _ h k m _ refusal.Epoch refl
    (case (eqb s.stage 6) (λ b. rw (b, lt-leb e s.p.0 n) refl) (λ b. rw (b, lt-leb e s.p.0 n) refl))

abbrev pub big : State → ℕ → ℕ
big s e = max s.largest.0 e

-- f as an index is i
module _ (z : Sizes) (s : State) (f i e : ℕ) (h k m : List ℕ) (w : Sized z s) (v : From z s f) (y : i ≡ f) where
  in-joined : f < length s.joined
  in-joined = omega (arith, w.joined, w.most, v.low)

  pub join-wait : {x : Epoch} {p : Plan} → false ≡ quorum z.n (has (set s.joined i true)) → x ≡ ep (big s e) → s.stage ≡ 5 → p ≡ quiet_of (joined_of s i x) → Plans z s (Ok p) h k m (run (l1_join z s.me f e (server_of s h k)))
  unfolding l1_join run
  join-wait {x = x} u j l q = kept-quiet z s _ h k m _ (joined_of s f x) (ap Ok (rw y at q)) refl w.len w.cand refl (omega arith) (rw (← get_set s.joined false f true in-joined, ← (rw y at u), j, l) refl)

  pub join-spent : {x : Epoch} → true ≡ quorum z.n (has (set s.joined i true)) → x ≡ ep (big s e) → x.0 ≡ LAST → Plans z s (Err refusal.Spent) h k m (run (l1_join z s.me f e (server_of s h k)))
  unfolding l1_join run
  join-spent u j l = turned-away z s _ h k m _ refusal.Spent refl
      (let b : big s e ≡ LAST = sym (ap (λ (a : Epoch). a.0) j) ∙ l in rw (← get_set s.joined false f true in-joined, ← (rw y at u), b) refl)

  pub join-elect : {x : Epoch} {p : Plan} → true ≡ quorum z.n (has (set s.joined i true)) → x ≡ ep (big s e) → x.0 < LAST
      → p ≡ plan_of false (elected_of (joined_of s i x) (x.0 + 1)) 0 2 no_txn (all_cast (set s.joined i true) 2 (x.0 + 1) 0) no_cast
      → Plans z s (Ok p) h k m (run (l1_join z s.me f e (server_of s h k)))
  unfolding l1_join run pick hist_from cand_from cast_of decode fine both either
  join-elect {x = x} u j n q =
      let l : x.0 ≡ big s e = ap (λ (a : Epoch). a.0) j in
      let b : big s e < LAST = omega (arith, n, l) in
      answered z s _ h k m _ false (elected_of (joined_of s f x) (x.0 + 1)) 0 2 no_txn (all_cast (set s.joined f true) 2 (x.0 + 1) 0) (txns s.len.0 h) (txns s.len.0 h)
      (to_all z.n s.me (has (set s.joined f true)) (newepoch (x.0 + 1)))
      (ap Ok (rw y at q)) refl w.len w.len (omega arith) (λ (c : ◌≡◌ {A = ℕ} 0 3). absurd (omega arith)) (omega arith) (λ _. refl) (λ _. refl) (λ (c : ◌≡◌ {A = ℕ} 2 0). absurd (omega arith)) refl refl refl refl
      (rw (← get_set s.joined false f true in-joined, ← just-has s.me (omega (arith, w.most, w.me)), ← (rw y at u), lt-ltb (big s e) LAST b, ← l) refl)

  pub later-second : {one : Cast} {nt : Txn} {p : Plan} → e ≤ s.p.0 → s.stage ≡ 6 → one ≡ solo_cast f 2 s.p.0 0 → nt ≡ no_txn → p ≡ plan_of false (joined_of s i s.largest) 0 0 nt one no_cast → Plans z s (Ok p) h k m (run (Later s f e h k))
  unfolding l2_join run pick hist_from cand_from cast_of decode fine both either
  later-second n l o j q =
      answered z s _ h k m _ false (joined_of s f s.largest) 0 0 no_txn (solo_cast f 2 s.p.0 0) (txns s.len.0 h) (txns s.cand_len.0 k) (only f (newepoch s.p.0))
      (ap Ok (rw (y, o, j) at q)) refl w.len w.cand (omega arith) (λ (c : ◌≡◌ {A = ℕ} 0 3). absurd (omega arith)) (omega arith) (λ _. refl) (λ _. refl) (λ _. omega arith) refl refl refl
      (solo-cast z.n s.me f (newepoch s.p.0) (omega (arith, w.most, v.low)) v.low v.other)
      (rw (eq-eqb s.stage 6 l, ← get_set s.joined false f true in-joined, le-leb e s.p.0 n) refl)

  pub later-done : {one two : Cast} {nt : Txn} {x : Plan} → e ≤ s.p.0 → s.stage ≢ 6 → one ≡ solo_cast f 2 s.p.0 0 → two ≡ solo_cast f 4 s.p.0 0 → nt ≡ no_txn → x ≡ plan_of false (rejoined_of s i) 0 0 nt one no_cast
      → Plans z s (Ok (record x { two = two })) h k m (run (Later s f e h k))
  unfolding l34_join run pick hist_from cand_from cast_of decode fine both either
  later-done {two = two} {x = x} n l o o₂ j q =
      let u : ◌≡◌ {A = Plan} (record x { two = two }) (plan_of false (rejoined_of s f) 0 0 no_txn (solo_cast f 2 s.p.0 0) (solo_cast f 4 s.p.0 0)) = rw (q, y, o, o₂, j) refl in
      answered₂ z s _ h k m _ false (rejoined_of s f) 0 0 no_txn (solo_cast f 2 s.p.0 0) (solo_cast f 4 s.p.0 0) (txns s.len.0 h) (txns s.cand_len.0 k)
      (only f (newepoch s.p.0)) (only f (newleader s.p.0 (txns s.len.0 h)))
      (ap Ok u) refl w.len w.cand (omega arith) (λ (a : ◌≡◌ {A = ℕ} 0 3). absurd (omega arith)) (omega arith) (λ _. refl) (λ _. refl) (λ _. omega arith) refl refl refl refl
      (solo-cast z.n s.me f (newepoch s.p.0) (omega (arith, w.most, v.low)) v.low v.other)
      (solo-cast z.n s.me f (newleader s.p.0 (txns s.len.0 h)) (omega (arith, w.most, v.low)) v.low v.other)
      (rw (ne_eqb s.stage 6 l, ← get_set s.joined false f true in-joined, ← get_set s.synced false f false (omega (arith, w.synced, w.most, v.low)), le-leb e s.p.0 n) refl)

-- ---- ACK-E

abbrev pub Acke : Sizes → State → ℕ → ℕ → ℕ → ℕ → List ℕ → List ℕ → List ℕ → Tree
Acke z s f e a n h k m = receive z s.me f (acke e a (txns n m)) (server_of s h k)

abbrev pub Counts : Sizes → State → ℕ → ℕ → ℕ → List ℕ → List ℕ → List ℕ → Tree
Counts z s f a n h k m =
    fork (beats a (last_id (txns n m)) s.cand_a.0 (last_id (txns s.cand_len.0 k)))
    (l2_count z s.me (upd (has s.acked) f true) a (txns n m) (server_of s h k))
    (l2_count z s.me (upd (has s.acked) f true) s.cand_a.0 (txns s.cand_len.0 k) (server_of s h k))

-- f as an index is i
module _ (z : Sizes) (s : State) (f i e a n : ℕ) (h k m : List ℕ) (v : i ≡ f) where
  pub acke-gate : {r : Result Plan Refusal} {c : Refusal} → ((t : Tree) → run (gate 3 s.stage (has s.joined i) t) ≡ refused (number c)) → r ≡ Err c → Plans z s r h k m (run (Acke z s f e a n h k m))
  unfolding receive
  acke-gate {r = r} {c = c} g q = turned-away z s r h k m _ c q ((rw v at g) _)

  module _ (g : (t : Tree) → run (gate 3 s.stage (has s.joined i) t) ≡ run t) where
    past : run (Acke z s f e a n h k m) ≡ run (on_acke z s.me f e a (txns n m) (server_of s h k))
    unfolding receive
    past = (rw v at g) (on_acke z s.me f e a (txns n m) (server_of s h k))

    pub acke-twice : s.stage ≡ 6 → has s.acked i ≡ true → Plans z s (Err refusal.Phase) h k m (run (Acke z s f e a n h k m))
    unfolding on_acke run both
    acke-twice l t = turned-away z s _ h k m _ refusal.Phase refl (past ∙ rw (eq-eqb s.stage 6 l, (rw v at t)) refl)

    pub acke-late : {p : Plan} → e ≡ s.p.0 → s.stage ≢ 6 → Sized z s → p ≡ quiet_of s → Plans z s (Ok p) h k m (run (Acke z s f e a n h k m))
    unfolding on_acke run both
    acke-late x l w u = kept-quiet z s _ h k m _ s (ap Ok u) refl w.len w.cand refl (omega arith) (past ∙ rw (ne_eqb s.stage 6 l, eq-eqb e s.p.0 x) refl)

    module _ (no : s.stage ≡ 6 → has s.acked i ≡ false) where
      once : both (eqb s.stage 6) (has s.acked f) ≡ false
      unfolding both
      once = eq-cases (λ (b : Bool). both b (has s.acked f) ≡ false) s.stage 6 (λ l. rw v at (no l)) (λ _. refl)

      pub acke-epoch : e ≢ s.p.0 → Plans z s (Err refusal.Epoch) h k m (run (Acke z s f e a n h k m))
      unfolding on_acke run
      acke-epoch x = turned-away z s _ h k m _ refusal.Epoch refl (past ∙ rw (once, ne_eqb e s.p.0 x) refl)

      pub acke-count : {r : Result Plan Refusal} → e ≡ s.p.0 → s.stage ≡ 6 → Plans z s r h k m (run (Counts z s f a n h k m)) → Plans z s r h k m (run (Acke z s f e a n h k m))
      unfolding on_acke run
      acke-count x l p = rw past (rw (once, eq-eqb e s.p.0 x, eq-eqb s.stage 6 l) p)

-- the two ways to count, from a record t with the sender counted and the candidate chosen, which lies in w
abbrev pub Chosen : Sizes → State → List ℕ → List ℕ → List ℕ → Tree
Chosen z t h k w = l2_count z t.me (has t.acked) t.cand_a.0 (txns t.cand_len.0 w) (server_of t h k)

cand-from : (l x : ℕ) (h k m w : List ℕ) (b : Bool) → x ≡ pick b 1 0 → txns l w ≡ pick b (txns l m) (txns l k) → (cand_from x l h k m ≡ txns l w) × (x ≤ 2) × (x ≡ 2 → ⊥) × (x ≡ 0 → b ≡ false)
unfolding cand_from pick
cand-from l x h k m w true e p = (rw (e, p) refl, omega arith, λ y. omega arith, λ y. absurd (omega arith))
cand-from l x h k m w false e p = (rw (e, p) refl, omega arith, λ y. omega arith, λ _. refl)

hist-from : (l x : ℕ) (t : Txn) (h k m w : List ℕ) (b : Bool) → x ≡ pick b 1 2 → txns l w ≡ pick b (txns l m) (txns l k) → (hist_from x l t h k m ≡ txns l w) × (x ≤ 3) × (x ≡ 3 → ⊥) × (x ≡ 0 → ⊥)
unfolding hist_from pick
hist-from l x t h k m w true e p = (rw (e, p) refl, omega arith, λ y. omega arith, λ y. omega arith)
hist-from l x t h k m w false e p = (rw (e, p) refl, omega arith, λ y. omega arith, λ y. omega arith)

-- the plan is one of a record s that differs from t in its sets, and in its candidate where the message's won
module _ (z : Sizes) (s t : State) (h k m w : List ℕ) (wins : Bool) (me : s.me ≡ t.me) (len : s.len ≡ t.len) (cl : wins ≡ false → s.cand_len ≡ t.cand_len) (here : txns t.cand_len.0 w ≡ pick wins (txns t.cand_len.0 m) (txns t.cand_len.0 k)) where
  pub count-wait : {from : ℕ} {nt : Txn} {no1 : Cast} {p : Plan} → false ≡ quorum z.n (has t.acked) → from ≡ pick wins 1 0 → t.len.0 ≤ z.room.0 → t.cand_len.0 ≤ z.room.0 → t.stage ≡ 6
      → nt ≡ no_txn → no1 ≡ no_cast → p ≡ plan_of false t 0 from nt no1 no_cast → Plans z s (Ok p) h k m (run (Chosen z t h k w))
  unfolding l2_count run pick hist_from fine both either
  count-wait {from = from} u i l c st e1 e2 q =
      let y = cand-from t.cand_len.0 from h k m w wins i here in
      answered z s _ h k m _ false t 0 from no_txn no_cast (txns t.len.0 h) (txns t.cand_len.0 w) [] (ap Ok (rw (e1, e2) at q)) (sym me) l c (omega arith) (λ (x : ◌≡◌ {A = ℕ} 0 3). absurd (omega arith)) y.1 (λ x. absurd (y.2 x)) (λ _. rw len refl)
      (λ x. rw (cl (y.3 x)) (omega arith)) refl refl y.0 (cast-none z.n t.me (txns t.len.0 h) no_txn) (rw (← u, st) refl)

  pub count-short : true ≡ quorum z.n (has t.acked) → t.cand_len.0 < t.d.0 → Plans z s (Err refusal.Undo) h k m (run (Chosen z t h k w))
  unfolding l2_count keeps run
  count-short u y = turned-away z s _ h k m _ refusal.Undo refl (rw (← u, length-txns t.cand_len.0 w, lt-leb t.d.0 t.cand_len.0 y) refl)

  pub count-undo : true ≡ quorum z.n (has t.acked) → t.d.0 ≤ t.cand_len.0 → t.d.0 ≤ t.len.0 → false ≡ same_hist (txns t.d.0 w) (txns t.d.0 h) → Plans z s (Err refusal.Undo) h k m (run (Chosen z t h k w))
  unfolding l2_count keeps run
  count-undo u y i x = turned-away z s _ h k m _ refusal.Undo refl
      (rw (← u, length-txns t.cand_len.0 w, le-leb t.d.0 t.cand_len.0 y, take-txns t.d.0 t.cand_len.0 w y, take-txns t.d.0 t.len.0 h i, ← x) refl)

  pub count-done : {from : ℕ} {p : Plan} → true ≡ quorum z.n (has t.acked) → t.d.0 ≤ t.cand_len.0 → t.d.0 ≤ t.len.0 → true ≡ same_hist (txns t.d.0 w) (txns t.d.0 h)
      → from ≡ pick wins 1 2 → t.cand_len.0 ≤ z.room.0 → t.me < 7
      → p ≡ plan_of false (chosen_of t) from 0 no_txn (all_cast t.joined 4 t.p.0 0) no_cast → Plans z s (Ok p) h k m (run (Chosen z t h k w))
  unfolding l2_count keeps run pick cand_from cast_of decode fine both either txns
  count-done {from = from} u y i x o l lt q =
      let g = hist-from t.cand_len.0 from no_txn h k m w wins o here in
      answered z s _ h k m _ false (chosen_of t) from 0 no_txn (all_cast t.joined 4 t.p.0 0) (txns t.cand_len.0 w) []
      (to_all z.n t.me (has t.joined) (newleader t.p.0 (txns t.cand_len.0 w)))
      (ap Ok q) (sym me) l (omega arith) g.1 (λ a. absurd (g.2 a)) (omega arith) (λ (a : ◌≡◌ {A = ℕ} 0 2). absurd (omega arith)) (λ a. absurd (g.3 a)) (λ _. omega arith) refl g.0 refl refl
      (rw (← u, length-txns t.cand_len.0 w, le-leb t.d.0 t.cand_len.0 y, take-txns t.d.0 t.cand_len.0 w y, take-txns t.d.0 t.len.0 h i, ← x, ← none_has, ← just-has t.me lt) refl)

-- from the record as it was, where the message's history has n transactions
module _ (z : Sizes) (s t : State) (h k m w : List ℕ) (f n : ℕ) (a : Epoch) (y : Sized z s) (j : 2 * n ≤ length m) (i : 2 * s.cand_len.0 ≤ length k) where
  pub counted : {r : Result Plan Refusal} {b : Bool} → b ≡ beats a.0 (last_id (txns n m)) s.cand_a.0 (last_id (txns s.cand_len.0 k)) → From z s f
      → t ≡ pick b (counted_of s f a (pl n)) (counted_of s f s.cand_a s.cand_len) → w ≡ pick b (take (2 * n) m) (take (2 * s.cand_len.0) k)
      → (s.me ≡ t.me → s.len ≡ t.len → (b ≡ false → s.cand_len ≡ t.cand_len) → txns t.cand_len.0 w ≡ pick b (txns t.cand_len.0 m) (txns t.cand_len.0 k) → Plans z s r h k m (run (Chosen z t h k w)))
      → Plans z s r h k m (run (Counts z s f a.0 n h k m))
  unfolding run pick l2_count
  counted {r = r} {b = true} u v e q p =
      let l : txns n w ≡ txns n m = txns-same n w m (rw q (omega (arith, length-take-le (2 * n) m j))) j (rw q (take-take (2 * n) (2 * n) m (omega arith))) in
      let c : State = counted_of s f a (pl n) in
      let d : Plans z s r h k m (run (Chosen z c h k w)) = (rw e at p) refl refl (λ x. absurd (true≢false x)) l in
      rw (← u, ← get_set s.acked false f true (omega (arith, y.acked, y.most, v.low))) (rw l at d)
  counted {r = r} {b = false} u v e q p =
      let x : ℕ = s.cand_len.0 in
      let l : txns x w ≡ txns x k = txns-same x w k (rw q (omega (arith, length-take-le (2 * x) k i))) i (rw q (take-take (2 * x) (2 * x) k (omega arith))) in
      let c : State = counted_of s f s.cand_a s.cand_len in
      let d : Plans z s r h k m (run (Chosen z c h k w)) = (rw e at p) refl refl (λ _. refl) l in
      rw (← u, ← get_set s.acked false f true (omega (arith, y.acked, y.most, v.low))) (rw l at d)

  pub counted-sizes : (b : Bool) → t ≡ pick b (counted_of s f a (pl n)) (counted_of s f s.cand_a s.cand_len) → w ≡ pick b (take (2 * n) m) (take (2 * s.cand_len.0) k) → s.stage ≡ 6 → n ≤ z.room.0 → 2 * z.room.0 ≤ length h
      → (Sized z t) × ((t.stage ≡ 6) × ((2 * t.len.0 ≤ length h) × (2 * t.cand_len.0 ≤ length w)))
  unfolding pick
  counted-sizes true e q st x o = rw (e, q) (
    record { most = y.most; me = y.me; room = y.room; stage = y.stage; len = y.len; cand = x; d = y.d; joined = y.joined; acked = length-set s.acked f true ∙ y.acked; synced = y.synced; counts = y.counts },
    (st, (omega (arith, y.len), omega (arith, length-take-le (2 * n) m j))),
  )
  counted-sizes false e q st x o = rw (e, q) (
    record { most = y.most; me = y.me; room = y.room; stage = y.stage; len = y.len; cand = y.cand; d = y.d; joined = y.joined; acked = length-set s.acked f true ∙ y.acked; synced = y.synced; counts = y.counts },
    (st, (omega (arith, y.len), omega (arith, length-take-le (2 * s.cand_len.0) k i))),
  )
