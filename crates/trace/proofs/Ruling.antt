-- What one more record breaks, while the trace so far breaks nothing; and the latest record of an epoch.
use Prim.Native.Nat.{ℕ, zero, suc, ◌+◌, ◌≤◌, ◌<◌}
use mathlib.Core.Path.{◌≡◌, refl, sym, ap, ◌∙◌, subst}
use mathlib.Core.Bool.{Bool, true, false, not}
use mathlib.Core.List.{List, [], ◌∷◌, ◌++◌, map, map-append, append-nil}
use native.Mathlib.Omega.{arith}
use lib.Dec.{eqb, leb, ltb}
use lib.ListN.{length, get_or, length-append, length-map, get_or-append}
use lib.Seq.{get_or_at}
use borrow.Author.Tests.{eqb-true, eqb-false, eq-eqb, ne_eqb, lt-ltb}
use Rattle.base.proofs.Entry.{same_true}
use Rattle.base.specs.Choice.{pick, both, either, upd}
use Rattle.base.specs.Record.{Entry, Rec, E, B, «V», X, same}
use Rattle.base.proofs.Choice.{tests, case, clash, eq-cases, both_true, either-false, either-right, not_is}
use Rattle.trace.specs.Rules.{Past, less, any_e, rule1, has_e, count_b, rule2, any_b, rule3, vs, last_v, lowest, broken, sound}
use Rattle.trace.specs.Fold.{none, mem, st_of, test}
use Rattle.trace.specs.Held.{any_v, Inv}
use Rattle.trace.specs.Words.{kind_of, who_of, epoch_at, counter_at, entry_at, past_at, grown, of_epoch, latest_of}
use Rattle.trace.proofs.Base.{or-false}
use Rattle.trace.proofs.Exact.{nxt-is, bs-is, own_any, own_is, has-any, suc-eqb}
use Rattle.trace.proofs.Main.{step_same}
use Rattle.trace.proofs.Records.{by_kind}

-- ---- every past

pub past-length : (w : List ℕ) (i : ℕ) → length (past_at w i) ≡ i
past-length w zero = refl
past-length w (suc i) = ap suc (past-length w i)

pub cnt-is : (p : Past) (x : ℕ) → (st_of p).cnt x ≡ length (vs x p)
unfolding upd pick
cnt-is [] x = refl
cnt-is (E s e ∷ p) x = cnt-is p x
cnt-is (B s t ∷ p) x = cnt-is p x
cnt-is («V» s t ∷ p) x = eq-cases (λ (b : Bool). pick b (suc ((st_of p).cnt s)) ((st_of p).cnt x) ≡ length (vs x p ++ pick b (t ∷ []) [])) x s
    (λ q. rw q (omega (arith, cnt-is p s, length-append (vs s p) (t ∷ []))))
    (λ _. rw (append-nil (vs x p)) (cnt-is p x))
cnt-is (X l r ∷ p) x = cnt-is p x

pub grown-low : (p : Past) → length (grown p) ≤ length p
unfolding pick
grown-low [] = omega arith
grown-low (E s e ∷ p) = omega (arith, grown-low p)
grown-low (B s t ∷ p) = omega (arith, grown-low p)
grown-low («V» s t ∷ p) = go (grown-low p) (leb (length (grown p)) (length (vs s p)))
  where
    go : length (grown p) ≤ length p → (b : Bool) → length (pick b (grown p ++ (length p ∷ [])) (grown p)) ≤ suc (length p)
    go ih true = omega (arith, length-append (grown p) (length p ∷ []))
    go ih false = omega arith
grown-low (X l r ∷ p) = omega (arith, grown-low p)

pub marks-low : (p : Past) (k : ℕ) → k < length (grown p) → get_or (grown p) k 0 < length p
unfolding pick
marks-low [] k h = absurd (omega arith)
marks-low (E s e ∷ p) k h = omega (arith, marks-low p k h)
marks-low (B s t ∷ p) k h = omega (arith, marks-low p k h)
marks-low («V» s t ∷ p) k h = go (marks-low p k) (leb (length (grown p)) (length (vs s p))) h
  where
    go : (k < length (grown p) → get_or (grown p) k 0 < length p) → (b : Bool) → k < length (pick b (grown p ++ (length p ∷ [])) (grown p))
        → get_or (pick b (grown p ++ (length p ∷ [])) (grown p)) k 0 < suc (length p)
    go ih true l = case (ltb k (length (grown p)))
        (λ q. let m : k < length (grown p) = omega tests in rw (get_or-append (grown p) (length p ∷ []) 0 k m) (omega (arith, ih m)))
        (λ q. let m : length (grown p) ≡ k = omega (tests, length-append (grown p) (length p ∷ [])) in rw (get_or_at (grown p) (length p) [] 0 k m) (omega arith))
    go ih false l = omega (arith, ih l)
marks-low (X l r ∷ p) k h = omega (arith, marks-low p k h)

-- the longest of the fold is the transactions of the records at which it grew
pub grown-is : (w : List ℕ) (i : ℕ) → map (entry_at w) (grown (past_at w i)) ≡ (st_of (past_at w i)).seq
unfolding pick
grown-is w zero = refl
grown-is w (suc i) = by_kind w i (λ r. map (entry_at w) (grown (r ∷ past_at w i)) ≡ (st_of (r ∷ past_at w i)).seq)
    (λ _. grown-is w i) (λ _. grown-is w i) (λ _. go (grown-is w i)) (λ _ _ _. grown-is w i)
  where
    both_ways : (b c : Bool) → b ≡ c → map (entry_at w) (grown (past_at w i)) ≡ (st_of (past_at w i)).seq
        → map (entry_at w) (pick b (grown (past_at w i) ++ (length (past_at w i) ∷ [])) (grown (past_at w i))) ≡ pick c ((st_of (past_at w i)).seq ++ (entry_at w i ∷ [])) (st_of (past_at w i)).seq
    both_ways true true e ih = map-append (entry_at w) (grown (past_at w i)) (length (past_at w i) ∷ []) ∙ rw (ih, past-length w i)
    both_ways false false e ih = ih
    both_ways true false e ih = clash refl e
    both_ways false true e ih = clash refl (sym e)

    go : map (entry_at w) (grown (past_at w i)) ≡ (st_of (past_at w i)).seq
        → map (entry_at w) (grown («V» (who_of w i) (entry_at w i) ∷ past_at w i)) ≡ (st_of («V» (who_of w i) (entry_at w i) ∷ past_at w i)).seq
    go ih = both_ways (leb (length (grown (past_at w i))) (length (vs (who_of w i) (past_at w i)))) (leb (length (st_of (past_at w i)).seq) ((st_of (past_at w i)).cnt (who_of w i)))
        (rw (← ih, length-map (grown (past_at w i)) (entry_at w), cnt-is (past_at w i) (who_of w i))) ih

pub delivered-submitted : (p : Past) (t : Entry) → rule3 p ≡ true → any_v t p ≡ true → any_b t p ≡ true
unfolding either both
delivered-submitted [] t k a = a
delivered-submitted (E s e ∷ p) t k a = delivered-submitted p t k a
delivered-submitted (B s u ∷ p) t k a = either-right (same t u) (any_b t p) (delivered-submitted p t k a)
delivered-submitted («V» s u ∷ p) t k a =
    let z = both_true (any_b u p) (rule3 p) k in
    case (same t u) (λ q. subst (λ (x : Entry). any_b x p ≡ true) (sym (same_true t u q)) z.0) (λ q. delivered-submitted p t z.1 (rw q at a))
delivered-submitted (X l r ∷ p) t k a = delivered-submitted p t k a

pub last_none : (p : Past) (s : ℕ) → length (vs s p) ≡ 0 → last_v s p ≡ none
unfolding pick
last_none [] s h = refl
last_none (E s' e ∷ p) s h = last_none p s h
last_none (B s' t ∷ p) s h = last_none p s h
last_none («V» s' t ∷ p) s h = go (last_none p s) (eqb s s') h
  where
    go : (length (vs s p) ≡ 0 → last_v s p ≡ none) → (b : Bool) → length (vs s p ++ pick b (t ∷ []) []) ≡ 0 → pick b t (last_v s p) ≡ none
    go ih true g = absurd (omega (arith, length-append (vs s p) (t ∷ [])))
    go ih false g = ih (rw (append-nil (vs s p)) at g)
last_none (X l r ∷ p) s h = last_none p s h

pub less_none : (t : Entry) → 1 ≤ t.ep → less none t ≡ true
unfolding less either
less_none t h = rw (lt-ltb 0 t.ep (omega arith))

-- ---- the latest record of an epoch

no-b : (p : Past) (e : ℕ) → rule2 p ≡ true → any_e e p ≡ false → count_b e p ≡ 0
unfolding both either pick
no-b [] e k a = refl
no-b (E s e' ∷ p) e k a = no-b p e k (either-false (eqb e e') (any_e e p) a).1
no-b (B s t ∷ p) e k a =
    let z = both_true (both (has_e s t.ep p) (eqb t.ct (count_b t.ep p + 1))) (rule2 p) k in
    let y = both_true (has_e s t.ep p) (eqb t.ct (count_b t.ep p + 1)) z.0 in
    eq-cases (λ (b : Bool). count_b e p + pick b 1 0 ≡ 0) e t.ep
    (λ q. clash y.0 (has-any p s t.ep (subst (λ (x : ℕ). any_e x p ≡ false) q a)))
    (λ _. omega (arith, no-b p e z.1 a))
no-b («V» s t ∷ p) e k a = no-b p e k a
no-b (X l r ∷ p) e k a = no-b p e k a

-- record j is the latest E or B of epoch e in the past q
pub record Far (w : List ℕ) (e : ℕ) (q : Past) (i j : ℕ) : Type 0 where
  pub low : j < i
  pub any : any_e e q ≡ true
  pub own : (s : ℕ) → has_e s e q ≡ eqb s (who_of w j)
  pub cnt : count_b e q ≡ pick (eqb (kind_of w j) 1) 0 (counter_at w j)

pub record Near (w : List ℕ) (e : ℕ) (q : Past) (i m : ℕ) : Type 0 where
  pub no : m ≡ 0 → any_e e q ≡ false
  pub at : (j : ℕ) → m ≡ suc j → Far w e q i j

module _ (w : List ℕ) (e i : ℕ) where
  skip : (r : Rec) (m : ℕ) → any_e e (r ∷ past_at w i) ≡ any_e e (past_at w i) → ((s : ℕ) → has_e s e (r ∷ past_at w i) ≡ has_e s e (past_at w i)) → count_b e (r ∷ past_at w i) ≡ count_b e (past_at w i)
      → Near w e (past_at w i) i m → Near w e (r ∷ past_at w i) (suc i) m
  skip r m a h c N = record {
    no = λ z. a ∙ N.no z;
    at = λ j z. (let F = N.at j z in record { low = omega (arith, F.low); any = a ∙ F.any; own = λ s. h s ∙ F.own s; cnt = c ∙ F.cnt });
  }

  here : (r : Rec) → any_e e (r ∷ past_at w i) ≡ true → ((s : ℕ) → has_e s e (r ∷ past_at w i) ≡ eqb s (who_of w i)) → count_b e (r ∷ past_at w i) ≡ pick (eqb (kind_of w i) 1) 0 (counter_at w i)
      → Near w e (r ∷ past_at w i) (suc i) (suc i)
  here r a h c = record {
    no = λ z. absurd (omega arith);
    at = λ j z. (let y : i ≡ j = omega arith in subst (λ (x : ℕ). Far w e (r ∷ past_at w i) (suc i) x) y (record { low = omega arith; any = a; own = h; cnt = c }));
  }

pub near : (w : List ℕ) (e i : ℕ) → rule1 (past_at w i) ≡ true → rule2 (past_at w i) ≡ true → Near w e (past_at w i) i (latest_of w e i)
unfolding latest_of of_epoch pick both either
near w e zero a b = record { no = λ _. refl; at = λ j z. absurd (omega arith) }
near w e (suc i) a b = by_kind w i
    (λ r. rule1 (r ∷ past_at w i) ≡ true → rule2 (r ∷ past_at w i) ≡ true → Near w e (r ∷ past_at w i) (suc i) (pick (of_epoch w i e) (suc i) (latest_of w e i)))
    (λ k a b.
    let x = both_true (not (any_e (epoch_at w i) (past_at w i))) (rule1 (past_at w i)) a in
    rw (eq-eqb (kind_of w i) 1 k)
    (case (eqb (epoch_at w i) e)
    (λ q. rw q
    (let y : e ≡ epoch_at w i = sym (eqb-true (epoch_at w i) e q) in
    let z : any_e e (past_at w i) ≡ false = subst (λ (v : ℕ). any_e v (past_at w i) ≡ false) (sym y) (not_is (any_e (epoch_at w i) (past_at w i)) x.0) in
    here w e i (E (who_of w i) (epoch_at w i)) (rw (eq-eqb e (epoch_at w i) y)) (λ s. rw (eq-eqb e (epoch_at w i) y, has-any (past_at w i) s e z) (or-false (eqb s (who_of w i))))
    (no-b (past_at w i) e b z ∙ rw (eq-eqb (kind_of w i) 1 k))))
    (λ q. rw q
    (let n : e ≡ epoch_at w i → ⊥ = λ y. eqb-false (epoch_at w i) e q (sym y) in
    skip w e i (E (who_of w i) (epoch_at w i)) (latest_of w e i) (rw (ne_eqb e (epoch_at w i) n)) (λ s. rw (ne_eqb e (epoch_at w i) n)) refl (near w e i x.1 b)))))
    (λ k a b.
    let x = both_true (both (has_e (who_of w i) (epoch_at w i) (past_at w i)) (eqb (counter_at w i) (count_b (epoch_at w i) (past_at w i) + 1))) (rule2 (past_at w i)) b in
    let y = both_true (has_e (who_of w i) (epoch_at w i) (past_at w i)) (eqb (counter_at w i) (count_b (epoch_at w i) (past_at w i) + 1)) x.0 in
    let n1 : kind_of w i ≡ 1 → ⊥ = λ z. omega arith in
    rw (ne_eqb (kind_of w i) 1 n1, eq-eqb (kind_of w i) 2 k)
    (case (eqb (epoch_at w i) e)
    (λ q. rw q
    (let z : e ≡ epoch_at w i = sym (eqb-true (epoch_at w i) e q) in
    let h : has_e (who_of w i) e (past_at w i) ≡ true = subst (λ (v : ℕ). has_e (who_of w i) v (past_at w i) ≡ true) (sym z) y.0 in
    let c : counter_at w i ≡ count_b e (past_at w i) + 1 = subst (λ (v : ℕ). counter_at w i ≡ count_b v (past_at w i) + 1) (sym z) (eqb-true (counter_at w i) (count_b (epoch_at w i) (past_at w i) + 1) y.1) in
    let o : (st_of (past_at w i)).own e ≡ suc (who_of w i) = eqb-true ((st_of (past_at w i)).own e) (suc (who_of w i)) (sym (own_is (past_at w i) (who_of w i) e a) ∙ h) in
    here w e i (B (who_of w i) (entry_at w i))
    (case (any_e e (past_at w i)) (λ v. v) (λ v. clash h (has-any (past_at w i) (who_of w i) e v)))
    (λ s. own_is (past_at w i) s e a ∙ rw o (suc-eqb (who_of w i) s))
    (rw (eq-eqb e (epoch_at w i) z, ne_eqb (kind_of w i) 1 n1, c))))
    (λ q. rw q
    (let n : e ≡ epoch_at w i → ⊥ = λ y. eqb-false (epoch_at w i) e q (sym y) in
    skip w e i (B (who_of w i) (entry_at w i)) (latest_of w e i) refl (λ s. refl) (rw (ne_eqb e (epoch_at w i) n) (omega arith)) (near w e i a x.1)))))
    (λ k a b.
    let n1 : kind_of w i ≡ 1 → ⊥ = λ z. omega arith in
    let n2 : kind_of w i ≡ 2 → ⊥ = λ z. omega arith in
    rw (ne_eqb (kind_of w i) 1 n1, ne_eqb (kind_of w i) 2 n2) (skip w e i («V» (who_of w i) (entry_at w i)) (latest_of w e i) refl (λ s. refl) refl (near w e i a b)))
    (λ n1 n2 n3 a b. rw (ne_eqb (kind_of w i) 1 n1, ne_eqb (kind_of w i) 2 n2) (skip w e i (X (who_of w i) (epoch_at w i)) (latest_of w e i) refl (λ s. refl) refl (near w e i a b)))
    a b

-- ---- the record's rule

module _ (n : ℕ) (p : Past) (I : Inv n p) where
  pub judge-e : (s e : ℕ) → sound n (E s e) ≡ true → broken n (E s e ∷ p) ≡ pick (any_e e p) 1 0
  unfolding test pick
  judge-e s e g = step_same n p I (E s e) g ∙ go (eqb ((st_of p).own e) 0) (any_e e p) (own_any p e)
    where
      go : (a b : Bool) → b ≡ not a → lowest a true true true true true ≡ pick b 1 0
      go true true h = clash refl h
      go true false h = refl
      go false true h = refl
      go false false h = clash h refl

  pub judge-b : (s : ℕ) (t : Entry) → sound n (B s t) ≡ true → broken n (B s t ∷ p)
      ≡ lowest true (both (has_e s t.ep p) (eqb t.ct (count_b t.ep p + 1))) true true (either (leb (length (st_of p).seq) ((st_of p).cnt s)) (leb t.ep (get_or (st_of p).seq ((st_of p).cnt s) none).ep)) true
  unfolding test
  judge-b s t g = step_same n p I (B s t) g ∙ rw (own_is p s t.ep I.kept.k1, nxt-is p t.ep)

  pub judge-v : (s : ℕ) (t : Entry) → sound n («V» s t) ≡ true → broken n («V» s t ∷ p)
      ≡ lowest true true (any_b t p) (either (leb (length (st_of p).seq) ((st_of p).cnt s)) (same t (get_or (st_of p).seq ((st_of p).cnt s) none)))
      (either (ltb ((st_of p).cnt s) (length (st_of p).seq)) (either (leb (st_of p).top t.ep) (both (not (less ((st_of p).last s) t)) (mem t (st_of p).seq)))) (less ((st_of p).last s) t)
  unfolding test
  judge-v s t g = step_same n p I («V» s t) g ∙ rw (bs-is p t)

  pub judge-x : (l r : ℕ) → broken n (X l r ∷ p) ≡ 0
  unfolding test
  judge-x l r = step_same n p I (X l r) refl
