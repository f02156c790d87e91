-- Rule 4 and the one longest sequence.
use Prim.Native.Nat.{ℕ, zero, suc, ◌≤◌, ◌<◌}
use mathlib.Core.Path.{◌≡◌, refl, sym, ◌∙◌}
use mathlib.Core.Bool.{Bool, true, false}
use mathlib.Core.List.{List, [], ◌∷◌, ◌++◌, append-nil}
use native.Mathlib.Omega.{arith}
use lib.Dec.{eqb, leb}
use lib.ListN.{length, take, get_or}
use borrow.Author.Tests.{eqb-true, leb-true}
use Rattle.base.proofs.Entry.{same_true, same_self}
use Rattle.base.specs.Choice.{pick, both, either, all_below}
use Rattle.base.specs.Record.{Entry, E, B, «V», X, same}
use Rattle.base.proofs.Choice.{tests, case, clash, both-no, either-right, all_of}
use Rattle.trace.specs.Rules.{Past, vs, begins, rule4, has_v}
use Rattle.trace.specs.Fold.{none, mem}
use Rattle.trace.proofs.Base.{same-comm}

abbrev pub Seq : Type 0
Seq = List Entry

-- membership
pub mem-append : (t u : Entry) (l : Seq) → mem t (l ++ (u ∷ [])) ≡ either (same t u) (mem t l)
unfolding either
mem-append t u [] = refl
mem-append t u (x ∷ l) = rw (mem-append t u l) (swap (same t x) (same t u) (mem t l))
  where
    swap : (a b c : Bool) → either a (either b c) ≡ either b (either a c)
    swap true true c = refl
    swap true false c = refl
    swap false b c = refl

pub record At (t : Entry) (l : Seq) : Type 0 where
  pub place : ℕ
  pub low : place < length l
  pub here : get_or l place none ≡ t

pub mem-at : (t : Entry) (l : Seq) → mem t l ≡ true → At t l
unfolding either
mem-at t [] h = clash h refl
mem-at t (x ∷ l) h = case (same t x)
    (λ q. record { place = 0; low = omega arith; here = sym (same_true t x q) })
    (λ q. let a = mem-at t l (rw q at h) in record { place = suc a.place; low = omega (arith, a.low); here = a.here })

pub at_mem : (l : Seq) (k c : ℕ) → k < length l → k < c → mem (get_or l k none) (take c l) ≡ true
unfolding either
at_mem [] k c h g = absurd (omega arith)
at_mem (x ∷ l) k zero h g = absurd (omega arith)
at_mem (x ∷ l) zero (suc c) h g = rw (same_self x)
at_mem (x ∷ l) (suc k) (suc c) h g = either-right (same (get_or l k none) x) _ (at_mem l k c (omega arith) (omega arith))

pub at_in : (l : Seq) (k : ℕ) → k < length l → mem (get_or l k none) l ≡ true
unfolding either
at_in [] k h = absurd (omega arith)
at_in (x ∷ l) zero h = rw (same_self x)
at_in (x ∷ l) (suc k) h = either-right (same (get_or l k none) x) _ (at_in l k (omega arith))

-- not among the first c
pub not-mem : (t : Entry) (l : Seq) (c : ℕ) → ((k : ℕ) → k < c → k < length l → same t (get_or l k none) ≡ false) → mem t (take c l) ≡ false
unfolding either
not-mem t [] zero h = refl
not-mem t [] (suc c) h = refl
not-mem t (x ∷ l) zero h = refl
not-mem t (x ∷ l) (suc c) h = rw (h 0 (omega arith) (omega arith)) (not-mem t l c (λ k a b. h (suc k) (omega arith) (omega arith)))

pub has-is : (p : Past) (x : ℕ) (t : Entry) → has_v x t p ≡ mem t (vs x p)
unfolding both either pick
has-is [] x t = refl
has-is (E s e ∷ p) x t = has-is p x t
has-is (B s u ∷ p) x t = has-is p x t
has-is («V» s u ∷ p) x t = go (has-is p x t) (eqb x s)
  where
    go : has_v x t p ≡ mem t (vs x p) → (b : Bool) → either (both b (same t u)) (has_v x t p) ≡ mem t (vs x p ++ pick b (u ∷ []) [])
    go ih true = rw (mem-append t u (vs x p), ih)
    go ih false = rw (append-nil (vs x p)) ih
has-is (X l r ∷ p) x t = has-is p x t

-- begins
pub begins-take : (i j : ℕ) (l : Seq) → i ≤ j → begins (take i l) (take j l) ≡ true
unfolding both
begins-take zero j l h = refl
begins-take (suc i) zero l h = absurd (omega arith)
begins-take (suc i) (suc j) [] h = refl
begins-take (suc i) (suc j) (x ∷ l) h = rw (same_self x) (begins-take i j l (omega arith))

pub begins-not : (c : ℕ) (l : Seq) (t : Entry) → c < length l → same t (get_or l c none) ≡ false → begins (take c l ++ (t ∷ [])) l ≡ false
unfolding both
begins-not c [] t h n = absurd (omega arith)
begins-not zero (x ∷ l) t h n = rw n
begins-not (suc c) (x ∷ l) t h n = rw (same_self x) (begins-not c l t (omega arith) n)

pub begins-nor : (c : ℕ) (l : Seq) (t : Entry) → c < length l → same (get_or l c none) t ≡ false → begins l (take c l ++ (t ∷ [])) ≡ false
unfolding both
begins-nor c [] t h n = absurd (omega arith)
begins-nor zero (x ∷ l) t h n = rw n
begins-nor (suc c) (x ∷ l) t h n = rw (same_self x) (begins-nor c l t (omega arith) n)

pub below-no : (n : ℕ) (f : ℕ → Bool) (k : ℕ) → k < n → f k ≡ false → all_below n f ≡ false
unfolding both all_below
below-no zero f k h e = absurd (omega arith)
below-no (suc n) f k h e = case (eqb k n)
    (λ q. let z : k ≡ n = eqb-true k n q in rw (← z, e))
    (λ q. both-no (f n) _ (below-no n f k (omega tests) e))

-- all sequences begin l: rule 4 is kept
pub four-yes : (n : ℕ) (p : Past) (l : Seq) (c : ℕ → ℕ) → ((s : ℕ) → vs s p ≡ take (c s) l) → rule4 n p ≡ true
unfolding either
four-yes n p l c h = all_of n _ (λ s _. all_of n _ (λ s' _. rw (h s, h s') (case (leb (c s) (c s'))
    (λ q. rw (begins-take (c s) (c s') l (leb-true (c s) (c s') q)))
    (λ q. either-right (begins (take (c s) l) (take (c s') l)) _ (begins-take (c s') (c s) l (omega tests))))))

-- one server has l, another parts from it
pub four-no : (n : ℕ) (p : Past) (l : Seq) (s s₀ c : ℕ) (t : Entry) → s < n → s₀ < n → vs s₀ p ≡ l → vs s p ≡ take c l ++ (t ∷ []) → c < length l → same t (get_or l c none) ≡ false → rule4 n p ≡ false
unfolding either
four-no n p l s s₀ c t a b e f h k = below-no n _ s a (below-no n _ s₀ b (rw (e, f) (rw (begins-not c l t h k, begins-nor c l t h (same-comm (get_or l c none) t ∙ k)))))
