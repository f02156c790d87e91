-- What the longest sequence and the counts mean while no rule is broken, and the tests of rules 4 and 5.
use Prim.Native.Nat.{ℕ, zero, suc, ◌≤◌, ◌<◌}
use mathlib.Core.Path.{◌≡◌, refl, sym, ap, ◌∙◌, subst}
use mathlib.Core.Logic.{◌≢◌}
use mathlib.Core.Bool.{Bool, true, false, not}
use mathlib.Core.List.{[], ◌∷◌, ◌++◌}
use native.Mathlib.Omega.{arith}
use lib.Dec.{eqb, leb, ltb}
use lib.ListN.{length, take, get_or, length-append}
use lib.Seq.{take-suc, take-append-le, take_all}
use borrow.Author.Tests.{eqb-true, leb-true, leb-false, ltb-true, ltb-false, eq-eqb, ne_eqb, le-leb, lt-leb}
use Rattle.base.proofs.Entry.{same_true}
use Rattle.base.specs.Choice.{pick, both, either, upd}
use Rattle.base.specs.Record.{Entry, «V», same}
use Rattle.base.proofs.Choice.{tests, case, clash, eq-cases, either-right}
use Rattle.trace.specs.Rules.{Past, less, vs, rule4, has_v, had, each_v, rule5}
use Rattle.trace.specs.Fold.{none, mem, st_of}
use Rattle.trace.specs.Held.{Seqs}
use Rattle.trace.proofs.Base.{less-self, less-true, less-trans, less-differs, vs-V, snoc, old-at, new-at}
use Rattle.trace.proofs.Five.{each_v-all, each_v-no, late, late-old, late-new}
use Rattle.trace.proofs.Four.{Seq, mem-append, At, mem-at, at_mem, at_in, not-mem, has-is, four-yes, four-no}

module _ (n : ℕ) (p : Past) (l : Seq) (c : ℕ → ℕ) (z : ℕ → Entry) (Q : Seqs n p l c z) where
  low-mem : (x : ℕ) (t : Entry) (a : At t l) → a.place < c x → has_v x t p ≡ true
  low-mem x t a h = has-is p x t ∙ ap (mem t) (Q.all x) ∙ subst (λ (u : Entry). mem u (take (c x) l) ≡ true) a.here (at_mem l a.place (c x) a.low h)

  ep-rise : (i j : ℕ) → i ≤ j → j < length l → (get_or l i none).ep ≤ (get_or l j none).ep
  ep-rise i j h k = case (eqb i j)
      (λ q. let e : i ≡ j = eqb-true i j q in rw e (omega arith))
      (λ q. (less-true (get_or l i none) (get_or l j none) (Q.rise i j (omega tests) k)).ep)

  pub five-B : (x e : ℕ) → each_v (had x e p) p ≡ either (leb (length l) (c x)) (leb e (get_or l (c x) none).ep)
  unfolding either
  five-B x e = case (leb (length l) (c x))
      (λ q. rw q (each_v-all (had x e p) p (λ t a. let A = mem-at t l (sym (Q.any t) ∙ a) in
      either-right (leb e t.ep) _ (low-mem x t A (omega (tests, A.low, q))))))
      (λ q. rw q (case (leb e (get_or l (c x) none).ep)
      (λ r. rw r (each_v-all (had x e p) p (λ t a. let A = mem-at t l (sym (Q.any t) ∙ a) in case (ltb A.place (c x))
      (λ u. either-right (leb e t.ep) _ (low-mem x t A (ltb-true A.place (c x) u)))
      (λ u. let w : (get_or l (c x) none).ep ≤ (get_or l A.place none).ep = ep-rise (c x) A.place (ltb-false A.place (c x) u) A.low in
      let v : e ≤ t.ep = subst (λ (y : Entry). e ≤ y.ep) A.here (omega tests) in
      rw (le-leb e t.ep v)))))
      (λ r. rw r (each_v-no (had x e p) p (get_or l (c x) none) (Q.any (get_or l (c x) none) ∙ at_in l (c x) (omega tests))
      (rw r (has-is p x (get_or l (c x) none) ∙ ap (mem (get_or l (c x) none)) (Q.all x) ∙ not-mem (get_or l (c x) none) l (c x) (λ k a b. less-differs (get_or l k none) (get_or l (c x) none) (Q.rise k (c x) a (omega tests)))))))))

  module _ (s : ℕ) (t : Entry) where
    all-ext : length l ≤ c s → (x : ℕ) → vs x («V» s t ∷ p) ≡ take (upd c s (suc (c s)) x) (l ++ (t ∷ []))
    unfolding pick upd
    all-ext h x = vs-V x s t p ∙ eq-cases (λ (b : Bool). pick b (vs x p ++ (t ∷ [])) (vs x p) ≡ take (pick b (suc (c s)) (c x)) (l ++ (t ∷ []))) x s
        (λ q. rw (q, Q.all s, take_all (c s) l h) (sym (take_all (suc (c s)) (l ++ (t ∷ [])) (omega (arith, length-append l (t ∷ []))))))
        (λ _. Q.all x ∙ sym (take-append-le (c x) l (t ∷ []) (Q.len x)))

    all_in : c s < length l → t ≡ get_or l (c s) none → (x : ℕ) → vs x («V» s t ∷ p) ≡ take (upd c s (suc (c s)) x) l
    unfolding pick upd
    all_in h e x = vs-V x s t p ∙ eq-cases (λ (b : Bool). pick b (vs x p ++ (t ∷ [])) (vs x p) ≡ take (pick b (suc (c s)) (c x)) l) x s
        (λ q. rw (q, Q.all s, e) (sym (take-suc l (c s) none h)))
        (λ _. Q.all x)

    pub four-V : s < n → rule4 n («V» s t ∷ p) ≡ either (leb (length l) (c s)) (same t (get_or l (c s) none))
    unfolding either pick
    four-V a = case (leb (length l) (c s))
        (λ q. rw q (four-yes n («V» s t ∷ p) (l ++ (t ∷ [])) (upd c s (suc (c s))) (all-ext (leb-true _ _ q))))
        (λ q. let h : c s < length l = leb-false _ _ q in rw q (case (same t (get_or l (c s) none))
        (λ r. rw r (four-yes n («V» s t ∷ p) l (upd c s (suc (c s))) (all_in h (same_true _ _ r))))
        (λ r. let F = Q.full (omega arith) in
        let d : F.who ≢ s = λ e. (let y : c F.who ≡ c s = ap c e in omega (arith, F.holds)) in
        rw r (four-no n («V» s t ∷ p) l s F.who (c s) t a F.low
        (vs-V F.who s t p ∙ rw (ne_eqb F.who s d) (Q.all F.who ∙ take_all (c F.who) l (omega (arith, F.holds))))
        (vs-V s s t p ∙ rw (eq-eqb s s refl) (ap (λ (y : Seq). y ++ (t ∷ [])) (Q.all s))) h r))))

    -- a V that extends the longest and is in it already does not rise
    not-rise : length l ≤ c s → mem t l ≡ true → less (z s) t ≡ false
    not-rise h m = case (less (z s) t)
        (λ q. let A = mem-at t l m in go A (length l) refl q)
        (λ q. q)
      where
        go : (A : At t l) (k : ℕ) → length l ≡ k → less (z s) t ≡ true → less (z s) t ≡ false
        go A zero e q = absurd (omega (arith, A.low))
        go A (suc k) e q =
            let y : z s ≡ get_or l k none = Q.last s k (omega (arith, Q.len s)) in
            let g : less (get_or l k none) (get_or l A.place none) ≡ true = subst (λ (u : Entry). less u (get_or l A.place none) ≡ true) y (subst (λ (u : Entry). less (z s) u ≡ true) (sym A.here) q) in
            case (eqb A.place k)
            (λ r. let i : A.place ≡ k = eqb-true _ _ r in clash (subst (λ (j : ℕ). less (get_or l k none) (get_or l j none) ≡ true) i g) (less-self (get_or l k none)))
            (λ r. clash (less-trans (get_or l k none) (get_or l A.place none) (get_or l k none) g (Q.rise A.place k (omega (tests, A.low, r)) (omega arith))) (less-self (get_or l k none)))

    pub five-V' : rule5 p ≡ true → either (leb (length l) (c s)) (same t (get_or l (c s) none)) ≡ true
        → late t p ≡ either (ltb (c s) (length l)) (either (leb (st_of p).top t.ep) (both (not (less (z s) t)) (mem t l)))
    unfolding both either
    five-V' k f = case (ltb (c s) (length l))
        (λ q. let h : c s < length l = ltb-true _ _ q in
        let e : t ≡ get_or l (c s) none = same_true _ _ (rw (lt-leb (length l) (c s) h) at f) in
        rw q (late-old p t k (Q.any t ∙ ap (λ (u : Entry). mem u l) e ∙ at_in l (c s) h)))
        (λ q. let h : length l ≤ c s = ltb-false _ _ q in rw q (case (mem t l)
        (λ m. rw (m, not-rise h m) (late-old p t k (Q.any t ∙ m) ∙ sym (either-right (leb (st_of p).top t.ep) true refl)))
        (λ m. rw m (late-new p t (Q.any t ∙ m) ∙ tail (leb (st_of p).top t.ep) (not (less (z s) t))))))
      where
        tail : (a b : Bool) → a ≡ either a (both b false)
        tail true b = refl
        tail false true = refl
        tail false false = refl

    len_up : (m : Seq) → length l ≤ length m → suc (c s) ≤ length m → (x : ℕ) → upd c s (suc (c s)) x ≤ length m
    unfolding pick upd
    len_up m a b x = eq-cases (λ (w : Bool). pick w (suc (c s)) (c x) ≤ length m) x s (λ _. b) (λ _. omega (arith, Q.len x))

    pub grow-in : c s < length l → t ≡ get_or l (c s) none → Seqs n («V» s t ∷ p) l (upd c s (suc (c s))) (upd z s t)
    unfolding either pick upd
    grow-in h e = record {
      len = len_up l (omega arith) h;
      all = all_in h e;
      full = λ k. (let F = Q.full k in record { who = F.who; low = F.low; holds = rw (ne_eqb F.who s (λ d. (let y : c F.who ≡ c s = ap c d in omega (arith, F.holds)))) F.holds });
      rise = Q.rise;
      any = λ u. case (same u t) (λ q. rw q (sym (ap (λ (w : Entry). mem w l) (same_true u t q ∙ e) ∙ at_in l (c s) h))) (λ q. rw q (Q.any u));
      last = λ x k. eq-cases (λ (b : Bool). pick b (suc (c s)) (c x) ≡ suc k → pick b t (z x) ≡ get_or l k none) x s (λ _ d. (let y : c s ≡ k = omega arith in rw (← y) e)) (λ _ d. Q.last x k d);
    }

    above : length l ≤ c s → less (z s) t ≡ true → (i : ℕ) → i < length l → less (get_or l i none) t ≡ true
    above h r i k = go (length l) refl
      where
        go : (m : ℕ) → length l ≡ m → less (get_or l i none) t ≡ true
        go zero e = absurd (omega arith)
        go (suc m) e =
            let y : z s ≡ get_or l m none = Q.last s m (omega (arith, Q.len s)) in
            let g : less (get_or l m none) t ≡ true = subst (λ (u : Entry). less u t ≡ true) y r in
            case (eqb i m)
            (λ q. let d : i ≡ m = eqb-true _ _ q in rw d g)
            (λ q. less-trans (get_or l i none) (get_or l m none) t (Q.rise i m (omega tests) (omega arith)) g)

    pub grow-ext : s < n → length l ≤ c s → less (z s) t ≡ true → Seqs n («V» s t ∷ p) (l ++ (t ∷ [])) (upd c s (suc (c s))) (upd z s t)
    unfolding pick upd
    grow-ext a h r = record {
      len = len_up (l ++ (t ∷ [])) (omega (arith, snoc l t)) (omega (arith, snoc l t, Q.len s));
      all = all-ext h;
      full = λ k. record { who = s; low = a; holds = rw (eq-eqb s s refl) (omega (arith, snoc l t, Q.len s)) };
      rise = λ i j d k. case (eqb j (length l))
          (λ q. let e : j ≡ length l = eqb-true _ _ q in rw (e, new-at l t (length l) refl, old-at l t i (omega arith)) (above h r i (omega arith)))
          (λ q. let e : j < length l = omega (tests, snoc l t) in rw (old-at l t j e, old-at l t i (omega arith)) (Q.rise i j d e));
      any = λ u. ap (either (same u t)) (Q.any u) ∙ sym (mem-append u t l);
      last = λ x k. eq-cases (λ (b : Bool). pick b (suc (c s)) (c x) ≡ suc k → pick b t (z x) ≡ get_or (l ++ (t ∷ [])) k none) x s
          (λ _ d. (let y : k ≡ length l = omega (arith, Q.len s) in rw y (sym (new-at l t (length l) refl))))
          (λ _ d. Q.last x k d ∙ sym (old-at l t k (omega (arith, Q.len x))));
    }
