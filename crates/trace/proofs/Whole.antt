-- What the answer says of a trace.
use Prim.Native.Nat.{ℕ, suc, ◌≤◌, ◌<◌}
use mathlib.Core.Path.{◌≡◌, refl, sym, ◌∙◌, subst}
use mathlib.Core.Logic.{◌≢◌, ◌⊎◌, inl, inr, ⊎_elim}
use mathlib.Core.Bool.{Bool, true, false}
use mathlib.Core.List.{List, [], ◌∷◌, ◌++◌}
use native.Mathlib.Omega.{arith}
use lib.Dec.{eqb}
use lib.ListN.{length, take}
use lib.Seq.{take-length}
use Rattle.base.specs.Choice.{pick, both, either}
use Rattle.base.specs.Record.{Entry, Rec, E, B, «V», X, same}
use Rattle.base.proofs.Choice.{tests, case, both_true, either_left, either_true, all_of, all-at}
use Rattle.trace.specs.Rules.{Past, each, new1, rule1, new2, rule2, new3, rule3, vs, begins, rule4, had, each_v, rule5, new6, rule6, lowest, broken, Answer, keeps, breaks, refuses, walk, fit, answer}
use Rattle.trace.specs.Held.{Kept}
use Rattle.trace.proofs.Base.{either-comm, same-comm}
use Rattle.trace.proofs.Four.{Seq}
use Rattle.trace.proofs.Five.{late, each_b-both}
use Rattle.trace.proofs.Main.{all-kept}
use Rattle.trace.proofs.Says.{past, Says, says}

-- ---- every beginning of a trace that keeps the rules keeps them

comparable : (a b u w : Seq) → begins (a ++ u) (b ++ w) ≡ true → either (begins a b) (begins b a) ≡ true
unfolding both either
comparable [] b u w h = refl
comparable (x ∷ a) [] u w h = refl
comparable (x ∷ a) (y ∷ b) u w h =
    let k = both_true (same x y) (begins (a ++ u) (b ++ w)) h in
    rw (k.0, sym (same-comm x y) ∙ k.0) (comparable a b u w k.1)

either-swap : (a b : Bool) → either a b ≡ true → either b a ≡ true
either-swap a b h = either-comm b a ∙ h

-- the V sequences of two servers after a V, and before it
four-back : (n s : ℕ) (t : Entry) (p : Past) → rule4 n («V» s t ∷ p) ≡ true → rule4 n p ≡ true
four-back n s t p h = all_of n _ (λ x lx. all_of n _ (λ y ly.
    ⊎_elim
    (λ (k : begins (vs x («V» s t ∷ p)) (vs y («V» s t ∷ p)) ≡ true). comparable (vs x p) (vs y p) (pick (eqb x s) (t ∷ []) []) (pick (eqb y s) (t ∷ []) []) k)
    (λ (k : begins (vs y («V» s t ∷ p)) (vs x («V» s t ∷ p)) ≡ true). either-swap (begins (vs y p) (vs x p)) (begins (vs x p) (vs y p)) (comparable (vs y p) (vs x p) (pick (eqb y s) (t ∷ []) []) (pick (eqb x s) (t ∷ []) []) k))
    (either_true (begins (vs x («V» s t ∷ p)) (vs y («V» s t ∷ p))) (begins (vs y («V» s t ∷ p)) (vs x («V» s t ∷ p)))
    (all-at n _ (all-at n _ h x lx) y ly))))

five-back : (s : ℕ) (t : Entry) (p : Past) → rule5 («V» s t ∷ p) ≡ true → rule5 p ≡ true
five-back s t p h =
    (both_true (late t p) (rule5 p) (sym (each_b-both (λ x b q. had x b.ep q t) (λ x b q. each_v (had x b.ep q) p) p) ∙ h)).1

pub unbroken : (x i : ℕ) (a : Answer) → x ≡ 0 → ◌≡◌ {A = Answer} (elim (eqb x 0) [ true ↦ a | false ↦ breaks i x ]) a
unbroken x i a h = rw h

module _ (n : ℕ) where
  kept_back : (r : Rec) (p : Past) → Kept n (r ∷ p) → Kept n p
  kept_back r p K = record { k1 = one new1 K.k1; k2 = one new2 K.k2; k3 = one new3 K.k3; k4 = four r K.k4; k5 = five r K.k5; k6 = one new6 K.k6 }
    where
      one : (f : Rec → Past → Bool) → each f (r ∷ p) ≡ true → each f p ≡ true
      one f h = (both_true (f r p) (each f p) h).1

      four : (x : Rec) → rule4 n (x ∷ p) ≡ true → rule4 n p ≡ true
      four (E s e) h = h
      four (B s t) h = h
      four («V» s t) h = four-back n s t p h
      four (X l k) h = h

      five : (x : Rec) → rule5 (x ∷ p) ≡ true → rule5 p ≡ true
      five (E s e) h = h
      five (B s t) h = (both_true (each_v (had s t.ep p) p) (rule5 p) h).1
      five («V» s t) h = five-back s t p h
      five (X l k) h = h

  pub kept-past : (t : List Rec) (p : Past) → Kept n (past p t) → Kept n p
  kept-past [] p K = K
  kept-past (r ∷ t) p K = kept_back r p (kept-past t (r ∷ p) K)

  pub none-broken : (p : Past) → Kept n p → broken n p ≡ 0
  unfolding broken
  none-broken p K = rw (K.k1, K.k2, K.k3, K.k4, K.k5, K.k6)

  kept-start : Kept n []
  kept-start = record { k1 = refl; k2 = refl; k3 = refl; k4 = all_of n _ (λ x _. all_of n _ (λ y _. either_left true true refl)); k5 = refl; k6 = refl }

  walk-keeps : (t : List Rec) (p : Past) → Kept n (past p t) → walk n p t ≡ keeps
  walk-keeps [] p K = refl
  walk-keeps (r ∷ t) p K = unbroken (broken n (r ∷ p)) (length p) (walk n (r ∷ p) t) (none-broken (r ∷ p) (kept-past t (r ∷ p) K)) ∙ walk-keeps t (r ∷ p) K

  walk_more : (t u : List Rec) (p : Past) (i k : ℕ) → walk n p t ≡ breaks i k → walk n p (t ++ u) ≡ breaks i k
  walk_more [] u p i k h = let z : ◌≡◌ {A = ℕ} 0 1 = cc in absurd (omega arith)
  walk_more (r ∷ t) u p i k h = go (walk_more t u (r ∷ p) i k) (eqb (broken n (r ∷ p)) 0) h
    where
      go : (walk n (r ∷ p) t ≡ breaks i k → walk n (r ∷ p) (t ++ u) ≡ breaks i k) → (c : Bool)
          → ◌≡◌ {A = Answer} (elim c [ true ↦ walk n (r ∷ p) t | false ↦ breaks (length p) (broken n (r ∷ p)) ]) (breaks i k)
          → ◌≡◌ {A = Answer} (elim c [ true ↦ walk n (r ∷ p) (t ++ u) | false ↦ breaks (length p) (broken n (r ∷ p)) ]) (breaks i k)
      go ih true e = ih e
      go ih false e = e

  told : (t : List Rec) (a : Answer) → walk n [] t ≡ a → Says n [] t a
  told t a e = subst (Says n [] t) e (says n t [] (none-broken [] kept-start))

-- ---- the rule of a number, and what `lowest` says

abbrev pub nth : ℕ → Bool → Bool → Bool → Bool → Bool → Bool → Bool
nth j a b c d e f = pick (eqb j 1) a (pick (eqb j 2) b (pick (eqb j 3) c (pick (eqb j 4) d (pick (eqb j 5) e f))))

abbrev pub rule : ℕ → ℕ → Past → Bool
rule j n p = nth j (rule1 p) (rule2 p) (rule3 p) (rule4 n p) (rule5 p) (rule6 p)

pub record Lowest (g : ℕ → Bool) (r : ℕ) : Type 0 where
  pub first : 1 ≤ r
  pub last : r ≤ 6
  pub broken : g r ≡ false
  pub lower : (j : ℕ) → 1 ≤ j → j < r → g j ≡ true

below : (a b c d e f : Bool) (r j : ℕ) → (1 < r → a ≡ true) → (2 < r → b ≡ true) → (3 < r → c ≡ true) → (4 < r → d ≡ true) → (5 < r → e ≡ true)
    → r ≤ 6 → 1 ≤ j → j < r → nth j a b c d e f ≡ true
unfolding pick
below a b c d e f r j ha hb hc hd he u l k =
    case (eqb j 1) (λ q. rw q (ha (omega tests))) (λ q1. rw q1 (
    case (eqb j 2) (λ q. rw q (hb (omega tests))) (λ q2. rw q2 (
    case (eqb j 3) (λ q. rw q (hc (omega tests))) (λ q3. rw q3 (
    case (eqb j 4) (λ q. rw q (hd (omega tests))) (λ q4. rw q4 (
    case (eqb j 5) (λ q. rw q (he (omega tests))) (λ q5. absurd (omega tests))))))))))

lowest-is : (a b c d e f : Bool) → lowest a b c d e f ≢ 0 → Lowest (λ j. nth j a b c d e f) (lowest a b c d e f)
unfolding pick
lowest-is false b c d e f h = record { first = omega arith; last = omega arith; broken = refl; lower = λ j. below false b c d e f 1 j (λ k. absurd (omega arith)) (λ k. absurd (omega arith)) (λ k. absurd (omega arith)) (λ k. absurd (omega arith)) (λ k. absurd (omega arith)) (omega arith) }
lowest-is true false c d e f h = record { first = omega arith; last = omega arith; broken = refl; lower = λ j. below true false c d e f 2 j (λ _. refl) (λ k. absurd (omega arith)) (λ k. absurd (omega arith)) (λ k. absurd (omega arith)) (λ k. absurd (omega arith)) (omega arith) }
lowest-is true true false d e f h = record { first = omega arith; last = omega arith; broken = refl; lower = λ j. below true true false d e f 3 j (λ _. refl) (λ _. refl) (λ k. absurd (omega arith)) (λ k. absurd (omega arith)) (λ k. absurd (omega arith)) (omega arith) }
lowest-is true true true false e f h = record { first = omega arith; last = omega arith; broken = refl; lower = λ j. below true true true false e f 4 j (λ _. refl) (λ _. refl) (λ _. refl) (λ k. absurd (omega arith)) (λ k. absurd (omega arith)) (omega arith) }
lowest-is true true true true false f h = record { first = omega arith; last = omega arith; broken = refl; lower = λ j. below true true true true false f 5 j (λ _. refl) (λ _. refl) (λ _. refl) (λ _. refl) (λ k. absurd (omega arith)) (omega arith) }
lowest-is true true true true true false h = record { first = omega arith; last = omega arith; broken = refl; lower = λ j. below true true true true true false 6 j (λ _. refl) (λ _. refl) (λ _. refl) (λ _. refl) (λ _. refl) (omega arith) }
lowest-is true true true true true true h = absurd (h refl)

broken-is : (n : ℕ) (p : Past) (r : ℕ) → broken n p ≡ r → r ≢ 0 → Lowest (λ j. rule j n p) r
unfolding broken
broken-is n p r e h = subst (λ (k : ℕ). Lowest (λ j. rule j n p) k) e (lowest-is (rule1 p) (rule2 p) (rule3 p) (rule4 n p) (rule5 p) (rule6 p) (λ z. h (sym e ∙ z)))

-- ---- what the answer says

fits : (n : ℕ) (t : List Rec) → fit n t ≡ true → answer n t ≡ walk n [] t
unfolding answer pick
fits n t h = rw h

-- TRACE exactly if the trace is not fit
pub unfit : (n : ℕ) (t : List Rec) → fit n t ≡ false → answer n t ≡ refuses
unfolding answer pick
unfit n t h = rw h

pub refuses-unfit : (n : ℕ) (t : List Rec) → answer n t ≡ refuses → fit n t ≡ false
refuses-unfit n t h = case (fit n t) (λ q. absurd (told n t refuses (sym (fits n t q) ∙ h))) (λ q. q)

answers-fit : (n : ℕ) (t : List Rec) → answer n t ≢ refuses → fit n t ≡ true
answers-fit n t h = case (fit n t) (λ q. q) (λ q. absurd (h (unfit n t q)))

-- yes exactly if it is fit and keeps the six rules
pub keeps-all : (n : ℕ) (t : List Rec) → answer n t ≡ keeps → (fit n t ≡ true) × Kept n (past [] t)
keeps-all n t h =
    let q = answers-fit n t (λ e. let z : ◌≡◌ {A = ℕ} 0 1 = cc in omega arith) in
    (q, all-kept n (past [] t) (subst (λ (u : List Rec). broken n (past [] u) ≡ 0) (take-length t) (told n t keeps (sym (fits n t q) ∙ h) (length t))))

pub all-keeps : (n : ℕ) (t : List Rec) → fit n t ≡ true → Kept n (past [] t) → answer n t ≡ keeps
all-keeps n t q K = fits n t q ∙ walk-keeps n t [] K

-- the trace before record k keeps all six; with it, the trace breaks rule r and none lower
pub record Broke (n : ℕ) (t : List Rec) (k r : ℕ) : Type 0 where
  pub here : k < length t
  pub before : Kept n (past [] (take k t))
  pub after : Lowest (λ j. rule j n (past [] (take (suc k) t))) r

pub breaks-first : (n : ℕ) (t : List Rec) (k r : ℕ) → answer n t ≡ breaks k r → Broke n t k r
breaks-first n t k r h =
    let q = answers-fit n t (λ e. let z : ◌≡◌ {A = ℕ} 0 1 = cc in omega arith) in
    let f = told n t (breaks k r) (sym (fits n t q) ∙ h) in
    let e : f.m ≡ k = omega (arith, f.at) in
    subst (λ (i : ℕ). Broke n t i r) e
    (record { here = f.low; before = all-kept n (past [] (take f.m t)) (f.before f.m (omega arith)); after = broken-is n (past [] (take (suc f.m) t)) r f.rule f.bad })

-- more records never turn a break into a yes
pub breaks-more : (n : ℕ) (t u : List Rec) (k r : ℕ) → answer n t ≡ breaks k r → (answer n (t ++ u) ≡ breaks k r) ⊎ (answer n (t ++ u) ≡ refuses)
breaks-more n t u k r h =
    let q = answers-fit n t (λ e. let z : ◌≡◌ {A = ℕ} 0 1 = cc in omega arith) in
    case (fit n (t ++ u)) (λ f. inl (fits n (t ++ u) f ∙ walk_more n t u [] k r (sym (fits n t q) ∙ h))) (λ f. inr (unfit n (t ++ u) f))
