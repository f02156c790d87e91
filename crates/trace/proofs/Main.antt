-- The fold gives the definition's answer.
use Prim.Native.Nat.{ℕ, suc}
use mathlib.Core.Path.{◌≡◌, refl, sym, ap, ◌∙◌, subst}
use mathlib.Core.Bool.{Bool, true, false, not}
use mathlib.Core.List.{List, [], ◌∷◌}
use native.Mathlib.Omega.{arith}
use lib.Dec.{eqb, leb, ltb}
use lib.ListN.{length, get_or}
use borrow.Author.Tests.{eqb-true, leb-true, leb-false, ltb-true}
use Rattle.base.proofs.Entry.{same_true}
use Rattle.base.specs.Choice.{pick, both, either}
use Rattle.base.specs.Record.{Entry, Rec, E, B, «V», X, same}
use Rattle.base.proofs.Choice.{case, both_true, all_of, both_right}
use Rattle.trace.specs.Rules.{Past, less, each, new1, rule1, new2, rule2, new3, rule3, rule4, had, each_v, rule5, new6, rule6, lowest, broken, sound, all_sound, Answer, breaks, walk, fit, answer}
use Rattle.trace.specs.Fold.{none, next, t1, t2, t3, t4, t5, t6, test, fast, check, st_of}
use Rattle.trace.specs.Held.{Seqs, Kept, Inv}
use Rattle.trace.proofs.Exact.{nxt-is, last-is, bs-is, own_any, own_is}
use Rattle.trace.proofs.Five.{five-V}
use Rattle.trace.proofs.Seqs.{five-B, four-V, five-V', grow-in, grow-ext}

not-not : (b : Bool) → not (not b) ≡ b
not-not true = refl
not-not false = refl

one_more : (f : Rec → Past → Bool) (r : Rec) (p : Past) → each f p ≡ true → each f (r ∷ p) ≡ f r p
one_more f r p h = rw h (both_right (f r p))

low-eq : (a₁ a₂ a₃ a₄ a₅ a₆ b₁ b₂ b₃ b₄ b₅ b₆ : Bool) → a₁ ≡ b₁ → a₂ ≡ b₂ → a₃ ≡ b₃ → a₄ ≡ b₄ → (b₄ ≡ true → a₅ ≡ b₅) → a₆ ≡ b₆ → lowest a₁ a₂ a₃ a₄ a₅ a₆ ≡ lowest b₁ b₂ b₃ b₄ b₅ b₆
low-eq a₁ a₂ a₃ a₄ a₅ a₆ b₁ b₂ b₃ b₄ b₅ b₆ e₁ e₂ e₃ e₄ e₅ e₆ = rw (e₁, e₂, e₃, e₄, e₆) (go b₁ b₂ b₃ b₄ e₅)
  where
    go : (b₁ b₂ b₃ b₄ : Bool) → (b₄ ≡ true → a₅ ≡ b₅) → lowest b₁ b₂ b₃ b₄ a₅ b₆ ≡ lowest b₁ b₂ b₃ b₄ b₅ b₆
    go false b c d h = refl
    go true false c d h = refl
    go true true false d h = refl
    go true true true false h = refl
    go true true true true h = rw (h refl)

pub low-zero : (a b c d e f : Bool) → lowest a b c d e f ≡ 0 → (a ≡ true) × (b ≡ true) × (c ≡ true) × (d ≡ true) × (e ≡ true) × (f ≡ true)
low-zero false b c d e f h = absurd (omega arith)
low-zero true false c d e f h = absurd (omega arith)
low-zero true true false d e f h = absurd (omega arith)
low-zero true true true false e f h = absurd (omega arith)
low-zero true true true true false f h = absurd (omega arith)
low-zero true true true true true false h = absurd (omega arith)
low-zero true true true true true true h = (refl, refl, refl, refl, refl, refl)

pub all-kept : (n : ℕ) (p : Past) → broken n p ≡ 0 → Kept n p
unfolding broken
all-kept n p h =
    let k = low-zero (rule1 p) (rule2 p) (rule3 p) (rule4 n p) (rule5 p) (rule6 p) h in
    record { k1 = k.0; k2 = k.1; k3 = k.2; k4 = k.3; k5 = k.4; k6 = k.5 }

module _ (n : ℕ) (p : Past) (I : Inv n p) where
  rule-1 : (r : Rec) → each new1 (r ∷ p) ≡ t1 (st_of p) r
  unfolding both
  rule-1 (E s e) = one_more new1 (E s e) p I.kept.k1 ∙ ap not (own_any p e) ∙ not-not (eqb ((st_of p).own e) 0)
  rule-1 (B s t) = I.kept.k1
  rule-1 («V» s t) = I.kept.k1
  rule-1 (X l r) = I.kept.k1

  rule-2 : (r : Rec) → each new2 (r ∷ p) ≡ t2 (st_of p) r
  unfolding both
  rule-2 (E s e) = I.kept.k2
  rule-2 (B s t) = one_more new2 (B s t) p I.kept.k2 ∙ rw (own_is p s t.ep I.kept.k1, nxt-is p t.ep)
  rule-2 («V» s t) = I.kept.k2
  rule-2 (X l r) = I.kept.k2

  rule-3 : (r : Rec) → each new3 (r ∷ p) ≡ t3 (st_of p) r
  unfolding both
  rule-3 (E s e) = I.kept.k3
  rule-3 (B s t) = I.kept.k3
  rule-3 («V» s t) = one_more new3 («V» s t) p I.kept.k3 ∙ sym (bs-is p t)
  rule-3 (X l r) = I.kept.k3

  rule-4 : (r : Rec) → sound n r ≡ true → rule4 n (r ∷ p) ≡ t4 (st_of p) r
  rule-4 (E s e) h = I.kept.k4
  rule-4 (B s t) h = I.kept.k4
  rule-4 («V» s t) h = four-V n p (st_of p).seq (st_of p).cnt (st_of p).last I.seqs s t (ltb-true s n (both_true (ltb s n) _ h).0)
  rule-4 (X l r) h = I.kept.k4

  rule-5 : (r : Rec) → t4 (st_of p) r ≡ true → rule5 (r ∷ p) ≡ t5 (st_of p) r
  rule-5 (E s e) h = I.kept.k5
  rule-5 (B s t) h = ap (both (each_v (had s t.ep p) p)) I.kept.k5 ∙ both_right (each_v (had s t.ep p) p) ∙ five-B n p (st_of p).seq (st_of p).cnt (st_of p).last I.seqs s t.ep
  rule-5 («V» s t) h = five-V p s t I.kept.k5 ∙ five-V' n p (st_of p).seq (st_of p).cnt (st_of p).last I.seqs s t I.kept.k5 h
  rule-5 (X l r) h = I.kept.k5

  rule-6 : (r : Rec) → each new6 (r ∷ p) ≡ t6 (st_of p) r
  unfolding both
  rule-6 (E s e) = I.kept.k6
  rule-6 (B s t) = I.kept.k6
  rule-6 («V» s t) = one_more new6 («V» s t) p I.kept.k6 ∙ ap (λ (u : Entry). less u t) (sym (last-is p s))
  rule-6 (X l r) = I.kept.k6

  -- the step: the state's tests name the rule that the trace so far breaks
  pub step_same : (r : Rec) → sound n r ≡ true → broken n (r ∷ p) ≡ test (st_of p) r
  unfolding broken test
  step_same r h = low-eq _ _ _ _ _ _ (t1 (st_of p) r) (t2 (st_of p) r) (t3 (st_of p) r) (t4 (st_of p) r) (t5 (st_of p) r) (t6 (st_of p) r) (rule-1 r) (rule-2 r) (rule-3 r) (rule-4 r h) (rule-5 r) (rule-6 r)

  next-seqs : (r : Rec) → sound n r ≡ true → Kept n (r ∷ p) → Seqs n (r ∷ p) (next r (st_of p)).seq (next r (st_of p)).cnt (next r (st_of p)).last
  unfolding either pick
  next-seqs (E s e) h K = let Q = I.seqs in record { len = Q.len; all = Q.all; full = Q.full; rise = Q.rise; any = Q.any; last = Q.last }
  next-seqs (B s t) h K = let Q = I.seqs in record { len = Q.len; all = Q.all; full = Q.full; rise = Q.rise; any = Q.any; last = Q.last }
  next-seqs (X l r) h K = let Q = I.seqs in record { len = Q.len; all = Q.all; full = Q.full; rise = Q.rise; any = Q.any; last = Q.last }
  next-seqs («V» s t) h K =
      let f : either (leb (length (st_of p).seq) ((st_of p).cnt s)) (same t (get_or (st_of p).seq ((st_of p).cnt s) none)) ≡ true = sym (rule-4 («V» s t) h) ∙ K.k4 in
      let g : less ((st_of p).last s) t ≡ true = sym (rule-6 («V» s t)) ∙ K.k6 in
      case (leb (length (st_of p).seq) ((st_of p).cnt s))
      (λ q. rw q (grow-ext n p (st_of p).seq (st_of p).cnt (st_of p).last I.seqs s t (ltb-true s n (both_true (ltb s n) _ h).0) (leb-true _ _ q) g))
      (λ q. rw q (grow-in n p (st_of p).seq (st_of p).cnt (st_of p).last I.seqs s t (leb-false _ _ q) (same_true _ _ (rw q at f))))

  pub step-inv : (r : Rec) → sound n r ≡ true → broken n (r ∷ p) ≡ 0 → Inv n (r ∷ p)
  step-inv r h b = let K = all-kept n (r ∷ p) b in record { kept = K; seqs = next-seqs r h K }

branch : (x y : ℕ) (a b : Answer) (i : ℕ) → x ≡ y → (x ≡ 0 → a ≡ b)
    → ◌≡◌ {A = Answer} (elim (eqb x 0) [ true ↦ a | false ↦ breaks i x ]) (elim (eqb y 0) [ true ↦ b | false ↦ breaks i y ])
branch x y a b i e h = subst (λ (w : ℕ). ◌≡◌ {A = Answer} (elim (eqb x 0) [ true ↦ a | false ↦ breaks i x ]) (elim (eqb w 0) [ true ↦ b | false ↦ breaks i w ])) e
    (case (eqb x 0) (λ q. rw q (h (eqb-true x 0 q))) (λ q. rw q))

pub walk-fast : (n : ℕ) (t : List Rec) (p : Past) → Inv n p → all_sound n t ≡ true → walk n p t ≡ fast (length p) (st_of p) t
walk-fast n [] p I h = refl
walk-fast n (r ∷ t) p I h =
    let k = both_true (sound n r) _ h in
    let e : broken n (r ∷ p) ≡ test (st_of p) r = step_same n p I r k.0 in
    branch (broken n (r ∷ p)) (test (st_of p) r) (walk n (r ∷ p) t) (fast (suc (length p)) (next r (st_of p)) t) (length p) e
    (λ z. walk-fast n t (r ∷ p) (step-inv n p I r k.0 z) k.1)

pub inv-start : (n : ℕ) → Inv n []
unfolding either
inv-start n = record {
  kept = record { k1 = refl; k2 = refl; k3 = refl; k4 = all_of n _ (λ s _. all_of n _ (λ s' _. refl)); k5 = refl; k6 = refl };
  seqs = record { len = λ s. omega arith; all = λ s. refl; full = λ h. absurd (omega arith); rise = λ i j h k. absurd (omega arith); any = λ t. refl; last = λ s k h. absurd (omega arith) };
}

fit-sound : (n : ℕ) (t : List Rec) → fit n t ≡ true → all_sound n t ≡ true
unfolding fit
fit-sound n t q = (both_true (leb (length t) 1024) _ (both_true (leb n 7) _ (both_true (leb 3 n) _ q).1).1).1

-- the one-pass checker gives the answer of the definition
pub check-is : (n : ℕ) (t : List Rec) → check n t ≡ answer n t
unfolding check answer pick
check-is n t = case (fit n t)
    (λ q. rw q (sym (walk-fast n t [] (inv-start n) (fit-sound n t q))))
    (λ q. rw q)
