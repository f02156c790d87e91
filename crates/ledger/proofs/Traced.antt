-- The trace so far, and the ghost: an E for each established epoch, of its owner; the B records of an epoch are, in order, what its leader appended;
-- each comes after its server's E, and after its server's V of all the initial history.
use Prim.Native.Nat.{ℕ, suc, ◌+◌, ◌<◌}
use mathlib.Core.Path.{◌≡◌, refl, sym, ap, ◌∙◌}
use mathlib.Core.Logic.{◌≢◌, ◌⊎◌, inl, inr, ⊎_elim}
use mathlib.Core.Bool.{true, false}
use mathlib.Core.List.{List, [], ◌∷◌, ◌++◌, map, append_assoc, append-nil, map-append}
use native.Mathlib.Omega.{arith}
use lib.Dec.{eqb}
use lib.ListN.{get_or}
use Rattle.base.specs.Choice.{pick, upd}
use Rattle.base.specs.Transaction.{none}
use Rattle.base.specs.Record.{Rec, E, B, «V», X, Entry, entry}
use Rattle.base.specs.declared.Txn.{Txn}
use Rattle.base.proofs.Choice.{tests, passes, clash, eq-or, pick_at, pick_true, pick-false, upd_same, upd_other}
use Rattle.ledger.specs.Records.{count, is_e, In, Before, gather, begun_by, view_by, begun_in, views_in}
use Rattle.rules.proofs.Trees.{All}
use Rattle.ledger.proofs.Lists.{all_in, count-append, count-pass, count-fail, in-append, in_left, in_right, in_count, before_more, before-both, before-first}
use Rattle.ledger.proofs.Ghost.{Ghost, Good, Grow, own}
use Rattle.ledger.proofs.Grow.{log-at}

-- ---- what records say of one epoch, or of one server, in order

-- of some records and then others
pub gather_append : (f : Rec → List Entry) (l r : List Rec) → gather f (l ++ r) ≡ gather f l ++ gather f r
unfolding gather
gather_append f [] r = refl
gather_append f (x ∷ l) r = ap (λ (w : List Entry). f x ++ w) (gather_append f l r) ∙ sym (append_assoc (f x) (gather f l) (gather f r))

-- each comes from a record
pub in-gather : (f : Rec → List Entry) (t : Entry) (tr : List Rec) → In t (gather f tr) → (r : Rec) × In r tr × In t (f r)
unfolding gather
in-gather f t [] m = absurd m
in-gather f t (r ∷ tr) m = ⊎_elim
    (λ (w : In t (f r)). (r, inl refl, w))
    (λ (w : In t (gather f tr)). let v = in-gather f t tr w in (v.0, inr v.1, v.2))
    (in-append t (f r) (gather f tr) m)

-- and each record's is there
pub gather-in : (f : Rec → List Entry) (t : Entry) (r : Rec) (tr : List Rec) → In r tr → In t (f r) → In t (gather f tr)
unfolding gather
gather-in f t r [] m w = absurd m
gather-in f t r (x ∷ tr) (inl q) w = in_left t (f x) (gather f tr) (rw q at w)
gather-in f t r (x ∷ tr) (inr m) w = in_right t (f x) (gather f tr) (gather-in f t r tr m w)

-- from a B
pub is-begun : (e : ℕ) (t : Entry) (r : Rec) → In t (begun_by e r) → (s : ℕ) × (r ≡ B s t)
unfolding begun_by
is-begun e t (E s e') m = absurd m
is-begun e t (B s u) m = pick_at (λ (l : List Entry). In t l → (s' : ℕ) × (B s u ≡ B s' t)) (eqb u.ep e) (u ∷ []) []
    (λ _ w. ⊎_elim (λ (q : t ≡ u). (s, ap (B s) (sym q))) (λ (v : ⊥). absurd v) w) (λ _ w. absurd w) m
is-begun e t («V» s u) m = absurd m
is-begun e t (X line k) m = absurd m

-- from a V of i
pub is_view : (i : ℕ) (t : Entry) (r : Rec) → In t (view_by i r) → r ≡ «V» i t
unfolding view_by
is_view i t (E s e) m = absurd m
is_view i t (B s u) m = absurd m
is_view i t («V» s u) m = pick_at (λ (l : List Entry). In t l → «V» s u ≡ «V» i t) (eqb s i) (u ∷ []) []
    (λ y w. ⊎_elim (λ (q : t ≡ u). let p : s ≡ i = omega tests in cc) (λ (v : ⊥). absurd v) w) (λ _ w. absurd w) m
is_view i t (X line k) m = absurd m

-- and each V of i is there
pub view_in : (i : ℕ) (t : Entry) (tr : List Rec) → In («V» i t) tr → In t (views_in i tr)
unfolding view_by
view_in i t tr m = let y : eqb i i ≡ true = omega passes in gather-in (view_by i) t («V» i t) tr m (rw (y, pick_true (t ∷ []) []) (inl refl))

-- ---- the invariant

-- what the trace so far tells of the ghost
pub record Traced (g : Ghost) (tr : List Rec) : Type 0 where
  pub est : (e : ℕ) → count (is_e e) tr ≡ g.est e
  pub leads : (s e : ℕ) → In (E s e) tr → g.owner e ≡ suc s
  pub own : (e : ℕ) → begun_in e tr ≡ map entry (own g e)
  pub led : (s : ℕ) (t : Entry) → In (B s t) tr → Before (E s t.ep) (B s t) tr
  pub prior : (s : ℕ) (t : Entry) → In (B s t) tr → (k : ℕ) → k < g.base t.ep → Before («V» s (entry (get_or (g.log t.ep) k none))) (B s t) tr

-- what further records owe
pub record Tells (g g' : Ghost) (tr more : List Rec) : Type 0 where
  pub est : (e : ℕ) → g.est e + count (is_e e) more ≡ g'.est e
  pub leads : (s e : ℕ) → In (E s e) more → g'.owner e ≡ suc s
  pub own : (e : ℕ) → map entry (own g e) ++ begun_in e more ≡ map entry (own g' e)
  pub led : (s : ℕ) (t : Entry) → In (B s t) more → In (E s t.ep) tr
  pub prior : (s : ℕ) (t : Entry) → In (B s t) more → (k : ℕ) → k < g'.base t.ep → In («V» s (entry (get_or (g'.log t.ep) k none))) tr

module _ (n : ℕ) (g g' : Ghost) (G : Good n g) (W : Grow g g') (tr more : List Rec) (T : Traced g tr) (N : Tells g g' tr more) where
  -- the initial history of an epoch with a B stays
  old-prior : (s : ℕ) (t : Entry) → In (B s t) tr → (k : ℕ) → k < g'.base t.ep → Before («V» s (entry (get_or (g'.log t.ep) k none))) (B s t) (tr ++ more)
  old-prior s t m k l =
      let o : 0 < g.owner t.ep = omega (arith, T.leads s t.ep (before-first (E s t.ep) (B s t) tr (T.led s t m))) in
      let b : k < g.base t.ep = omega (arith, W.base t.ep o) in
      rw (log-at n g g' G W t.ep k o (omega (arith, G.based t.ep))) (before_more («V» s (entry (get_or (g.log t.ep) k none))) (B s t) tr more (T.prior s t m k b))

  -- the trace with them
  pub tells-on : Traced g' (tr ++ more)
  tells-on = record {
    est = λ e. count-append (is_e e) tr more ∙ ap (λ (k : ℕ). k + count (is_e e) more) (T.est e) ∙ N.est e;
    leads = λ s e m. ⊎_elim (λ (l : In (E s e) tr). W.owner e (omega (arith, T.leads s e l)) ∙ T.leads s e l) (N.leads s e) (in-append (E s e) tr more m);
    own = λ e. gather_append (begun_by e) tr more ∙ ap (λ (w : List Entry). w ++ begun_in e more) (T.own e) ∙ N.own e;
    led = λ s t m. ⊎_elim (λ (l : In (B s t) tr). before_more (E s t.ep) (B s t) tr more (T.led s t l)) (λ (r : In (B s t) more). before-both (E s t.ep) (B s t) tr more (N.led s t r) r)
        (in-append (B s t) tr more m);
    prior = λ s t m k l. ⊎_elim (λ (y : In (B s t) tr). old-prior s t y k l)
        (λ (r : In (B s t) more). before-both («V» s (entry (get_or (g'.log t.ep) k none))) (B s t) tr more (N.prior s t r k l) r) (in-append (B s t) tr more m);
  }

-- ---- V and X records, or none: nothing is told of the ghost

-- V or X
abbrev pub QuietRec : Rec → Type 0
QuietRec (E s e) = ⊥
QuietRec (B s t) = ⊥
QuietRec («V» s t) = Unit {0}
QuietRec (X line k) = Unit {0}

quiet-count : (e : ℕ) (l : List Rec) → All QuietRec l → count (is_e e) l ≡ 0
unfolding count is_e pick
quiet-count e [] q = refl
quiet-count e (E s e' ∷ l) q = absurd q.0
quiet-count e (B s t ∷ l) q = absurd q.0
quiet-count e («V» s t ∷ l) q = omega (arith, quiet-count e l q.1)
quiet-count e (X line k ∷ l) q = omega (arith, quiet-count e l q.1)

quiet-begun : (e : ℕ) (l : List Rec) → All QuietRec l → begun_in e l ≡ []
unfolding gather begun_by
quiet-begun e [] q = refl
quiet-begun e (E s e' ∷ l) q = absurd q.0
quiet-begun e (B s t ∷ l) q = absurd q.0
quiet-begun e («V» s t ∷ l) q = quiet-begun e l q.1
quiet-begun e (X line k ∷ l) q = quiet-begun e l q.1

module _ (g g' : Ghost) (tr : List Rec) where
  pub tells-quiet : (q : List Rec) → All QuietRec q → ((e : ℕ) → g'.est e ≡ g.est e) → ((e : ℕ) → own g' e ≡ own g e) → Tells g g' tr q
  tells-quiet q a se so = record {
    est = λ e. omega (arith, se e, quiet-count e q a);
    leads = λ s e m. absurd (all_in QuietRec (E s e) q a m);
    own = λ e. rw (quiet-begun e q a, so e) (append-nil (map entry (own g e)));
    led = λ s t m. absurd (all_in QuietRec (B s t) q a m);
    prior = λ s t m. absurd (all_in QuietRec (B s t) q a m);
  }

  -- E i p: the epoch p is established
  pub tells-E : (i p : ℕ) → g'.owner p ≡ suc i → g.est p ≡ 0 → ((e : ℕ) → g'.est e ≡ upd g.est p 1 e) → ((e : ℕ) → own g' e ≡ own g e) → Tells g g' tr (E i p ∷ [])
  unfolding gather begun_by is_e count
  tells-E i p mine fresh se so = record {
    est = λ e. ⊎_elim
        (λ (y : e ≡ p). rw y (omega (arith, fresh, se p, upd_same g.est p 1, count-pass (is_e p) (E i p) [] (omega passes))))
        (λ (y : e ≢ p). omega (arith, se e, upd_other g.est p 1 e y, count-fail (is_e e) (E i p) [] (omega passes))) (eq-or e p);
    leads = λ s e m. ⊎_elim (λ (w : E s e ≡ E i p). let a : s ≡ i = cc in let b : e ≡ p = cc in rw (a, b) mine) (λ (w : ⊥). absurd w) m;
    own = λ e. rw (so e) (append-nil (map entry (own g e)));
    led = λ s t m. absurd (not-B s t m);
    prior = λ s t m. absurd (not-B s t m);
  }
    where
      not-B : (s : ℕ) (t : Entry) → (B s t ≡ E i p) ⊎ ⊥ → ⊥
      not-B s t (inl w) = let a : ◌≡◌ {A = ℕ} 0 1 = cc in omega arith
      not-B s t (inr w) = w

  -- B i t: its leader, established, with all the initial history delivered, appends t
  pub tells-B : (i : ℕ) (t : Txn) → In (E i (entry t).ep) tr → ((k : ℕ) → k < g'.base (entry t).ep → In («V» i (entry (get_or (g'.log (entry t).ep) k none))) tr)
      → ((e : ℕ) → g'.est e ≡ g.est e) → own g' (entry t).ep ≡ own g (entry t).ep ++ (t ∷ []) → ((e : ℕ) → e ≢ (entry t).ep → own g' e ≡ own g e) → Tells g g' tr (B i (entry t) ∷ [])
  unfolding gather begun_by is_e count
  tells-B i t lead full se here others = record {
    est = λ e. omega (arith, se e, count-fail (is_e e) (B i (entry t)) [] refl);
    leads = λ s e m. ⊎_elim (λ (w : E s e ≡ B i (entry t)). let a : ◌≡◌ {A = ℕ} 0 1 = cc in absurd (omega arith)) (λ (w : ⊥). absurd w) m;
    own = own-B;
    led = λ s u m. ⊎_elim (λ (w : B s u ≡ B i (entry t)). let a : s ≡ i = cc in let b : u ≡ entry t = cc in rw (a, b) lead) (λ (w : ⊥). absurd w) m;
    prior = λ s u m. ⊎_elim (λ (w : B s u ≡ B i (entry t)). let a : s ≡ i = cc in let b : u ≡ entry t = cc in rw (a, b) full) (λ (w : ⊥). absurd w) m;
  }
    where
      own-B : (e : ℕ) → map entry (own g e) ++ (pick (eqb (entry t).ep e) (entry t ∷ []) [] ++ []) ≡ map entry (own g' e)
      own-B e = ⊎_elim
          (λ (y : e ≡ (entry t).ep).
          let p : eqb (entry t).ep e ≡ true = omega passes in
          rw (p, pick_true (entry t ∷ []) [], y, here) (sym (map-append entry (own g (entry t).ep) (t ∷ []))))
          (λ (y : e ≢ (entry t).ep).
          let p : eqb (entry t).ep e ≡ false = omega passes in
          rw (p, pick-false (entry t ∷ []) [], others e y) (append-nil (map entry (own g e))))
          (eq-or e (entry t).ep)

-- an E that passes the test is an E of that epoch
is-E : (e : ℕ) (r : Rec) → is_e e r ≡ true → (s : ℕ) × (r ≡ E s e)
unfolding is_e
is-E e (E s e') q = (s, ap (E s) (omega tests))
is-E e (B s t) q = clash q refl
is-E e («V» s t) q = clash q refl
is-E e (X line k) q = clash q refl

-- the owner of an established epoch has its E in the trace
pub established-in : (g : Ghost) (tr : List Rec) → Traced g tr → (e i : ℕ) → g.est e ≡ 1 → g.owner e ≡ suc i → In (E i e) tr
established-in g tr T e i d o =
    let w = in_count (is_e e) tr (omega (arith, T.est e)) in
    let v = is-E e w.0 w.2 in
    let m : In (E v.0 e) tr = rw v.1 at w.1 in
    let q : v.0 ≡ i = omega (arith, T.leads v.0 e m) in
    rw q at m
