-- How a round begins: one point for x, one for the others of q, one for those outside.
use Prim.Native.Nat.{ℕ, zero, suc, ◌+◌, ◌*◌, ◌≤◌, ◌<◌}
use native.Mathlib.Nat.{add-zero, mul-zero, mul-add, mul-one}
use native.Mathlib.Omega.{arith}
use mathlib.Core.Path.{◌≡◌, refl, sym}
use mathlib.Core.Logic.{◌≢◌, ◌⊎◌, inl, inr, ⊎_elim}
use mathlib.Core.Bool.{Bool, true, false}
use lib.Dec.{eqb}
use borrow.Author.Tests.{eq-eqb, ne_eqb}
use Rattle.base.specs.Choice.{pick}
use Rattle.base.specs.Quorum.{Set, weight, size}
use Rattle.base.proofs.Choice.{eq-or}
use Rattle.calm.proofs.Engine.{Sys, total}

unfoldable pub spread : {P : Type 0} → P → P → P → ℕ → Set → ℕ → P
spread m a o x q i = pick (eqb i x) m (pick (q i) a o)

pub spread_at : {P : Type 0} (R : P → Type 0) (m a o : P) (x : ℕ) (q : Set) (i : ℕ) → (i ≡ x → R m) → (i ≢ x → q i ≡ true → R a) → (i ≢ x → q i ≡ false → R o) → R (spread m a o x q i)
unfolding spread pick
spread_at R m a o x q i f g h = go (eq-or i x) (q i) refl
  where
    go : (i ≡ x) ⊎ (i ≢ x) → (t : Bool) → q i ≡ t → R (pick (eqb i x) m (pick (q i) a o))
    go (inl y) t e = rw (eq-eqb i x y) (f y)
    go (inr y) true e = rw (ne_eqb i x y, e) (g y e)
    go (inr y) false e = rw (ne_eqb i x y, e) (h y e)

-- how many deliveries are to come then: k for each of q but x
module _ (Y : Sys) {j : Y.K} (m a o : Y.Pt j) (x : ℕ) (q : Set) (k : ℕ) (hm : Y.left m ≡ 0) (ha : Y.left a ≡ k) (ho : Y.left o ≡ 0) where
  one_more : (n : ℕ) → n ≢ x → (s : ℕ) → k * s + Y.left (spread m a o x q n) ≡ k * (s + pick (q n) 1 0)
  unfolding pick
  one_more n ne s = spread_at (λ p. k * s + Y.left p ≡ k * (s + pick (q n) 1 0)) m a o x q n (λ y. absurd (ne y))
      (λ _ e. rw (e, ha, mul-add k s 1, mul-one k)) (λ _ e. rw (e, ho, add-zero s, add-zero (k * s)))

  before : (n : ℕ) → n ≤ x → total Y n (spread m a o x q) ≡ k * size q n
  unfolding weight
  before zero h = sym (mul-zero k)
  before (suc n) h = rw (before n (omega arith)) (one_more n (omega arith) (size q n))

  pub total-spread : q x ≡ true → (n : ℕ) → x < n → total Y n (spread m a o x q) + k ≡ k * size q n
  unfolding weight spread pick
  total-spread hq zero h = absurd (omega arith)
  total-spread hq (suc n) h = ⊎_elim
      (λ (e : n ≡ x). rw (e, eq-eqb x x refl, hm, hq, before x (omega arith), mul-add k (size q x) 1, mul-one k) (omega arith))
      (λ (e : n ≢ x). rw (← one_more n e (size q n), ← total-spread hq n (omega arith)) (omega arith))
      (eq-or n x)
