-- Laws of quorums, once for any n, by weighing: they serve weights too.
use Prim.Native.Nat.{ℕ, zero, suc, ◌+◌, ◌*◌, ◌≤◌, ◌<◌}
use mathlib.Core.Path.{◌≡◌, refl, sym, ◌∙◌}
use mathlib.Core.Logic.{◌≢◌, ◌⊎◌, inl, inr, ⊎_elim}
use mathlib.Core.Bool.{Bool, true, false, false≢true}
use native.Mathlib.Omega.{arith}
use borrow.Author.Tests.{ltb-true, lt-ltb, le-ltb}
use Rattle.base.specs.Choice.{pick, upd}
use Rattle.base.specs.Quorum.{Set, nobody, just, weight, size, quorum}
use Rattle.base.proofs.Choice.{upd-at, upd_same, upd_other, eq-or}

-- a server below n that is in both sets
pub record Shared (n : ℕ) (p q : Set) : Type 0 where
  pub who : ℕ
  pub low : who < n
  pub one : p who ≡ true
  pub two : q who ≡ true

wider : {p q : Set} {n : ℕ} → Shared n p q → Shared (suc n) p q
wider b = record { who = b.who; low = omega arith; one = b.one; two = b.two }

abbrev pub everyone : Set
everyone s = true

-- ---- weights

module _ (w : ℕ → ℕ) where
  -- two sets that together weigh more than all share a server
  pub weigh-meet : (p q : Set) (n : ℕ) → weight w everyone n < weight w p n + weight w q n → Shared n p q
  unfolding weight pick
  weigh-meet p q zero h = absurd (omega arith)
  weigh-meet p q (suc n) h = go (p n) (q n) refl refl h (weigh-meet p q n)
    where
      go : (a b : Bool) → p n ≡ a → q n ≡ b → weight w everyone n + w n < weight w p n + pick a (w n) 0 + (weight w q n + pick b (w n) 0)
          → (weight w everyone n < weight w p n + weight w q n → Shared n p q) → Shared (suc n) p q
      go true true ea eb k ih = record { who = n; low = omega arith; one = ea; two = eb }
      go true false ea eb k ih = wider (ih (omega arith))
      go false true ea eb k ih = wider (ih (omega arith))
      go false false ea eb k ih = wider (ih (omega arith))

  -- a set with more members weighs no less
  pub weigh-more : (p q : Set) (n : ℕ) → ((s : ℕ) → s < n → p s ≡ true → q s ≡ true) → weight w p n ≤ weight w q n
  unfolding weight pick
  weigh-more p q zero f = omega arith
  weigh-more p q (suc n) f = go (p n) (q n) refl refl (weigh-more p q n (λ s h. f s (omega arith)))
    where
      go : (a b : Bool) → p n ≡ a → q n ≡ b → weight w p n ≤ weight w q n → weight w p n + pick a (w n) 0 ≤ weight w q n + pick b (w n) 0
      go true true ea eb ih = omega arith
      go true false ea eb ih = absurd (false≢true (sym eb ∙ f n (omega arith) ea))
      go false true ea eb ih = omega arith
      go false false ea eb ih = omega arith

  pub weigh-nobody : (n : ℕ) → weight w nobody n ≡ 0
  unfolding weight pick
  weigh-nobody zero = refl
  weigh-nobody (suc n) = omega (arith, weigh-nobody n)

  weigh-past : (i n : ℕ) → n ≤ i → weight w (just i) n ≡ 0
  unfolding weight just pick
  weigh-past i zero h = refl
  weigh-past i (suc n) h =
      let x : n ≢ i = omega arith in
      rw (upd_other nobody i true n x) (omega (arith, weigh-past i n (omega arith)))

  -- one server alone weighs what it weighs
  pub weigh-just : (i n : ℕ) → weight w (just i) n ≤ w i
  unfolding weight just pick
  weigh-just i zero = omega arith
  weigh-just i (suc n) = ⊎_elim
      (λ (q : n ≡ i). rw (q, upd_same nobody i true) (omega (arith, weigh-past i i (omega arith))))
      (λ (q : n ≢ i). rw (upd_other nobody i true n q) (omega (arith, weigh-just i n)))
      (eq-or n i)

pub size-all : (n : ℕ) → size everyone n ≡ n
unfolding weight pick
size-all zero = refl
size-all (suc n) = omega (arith, size-all n)

-- ---- quorums

-- two quorums share a member
pub quorum-meet : (n : ℕ) (p q : Set) → quorum n p ≡ true → quorum n q ≡ true → Shared n p q
unfolding quorum
quorum-meet n p q hp hq =
    weigh-meet (λ _. 1) p q n (omega (arith, size-all n, ltb-true n (2 * size p n) hp, ltb-true n (2 * size q n) hq))

-- adding members keeps a quorum
pub quorum-more : (n : ℕ) (p q : Set) → ((s : ℕ) → s < n → p s ≡ true → q s ≡ true) → quorum n p ≡ true → quorum n q ≡ true
unfolding quorum
quorum-more n p q f hp = lt-ltb n (2 * size q n) (omega (arith, weigh-more (λ _. 1) p q n f, ltb-true n (2 * size p n) hp))

-- all is one
pub quorum-all : (n : ℕ) (q : Set) → 1 ≤ n → ((s : ℕ) → s < n → q s ≡ true) → quorum n q ≡ true
unfolding quorum
quorum-all n q h f = lt-ltb n (2 * size q n) (omega (arith, weigh-more (λ _. 1) everyone q n (λ s l _. f s l), size-all n))

-- one server alone is none
pub quorum-alone : (n i : ℕ) → 2 ≤ n → quorum n (just i) ≡ false
unfolding quorum
quorum-alone n i h = le-ltb n (2 * size (just i) n) (omega (arith, weigh-just (λ _. 1) i n))

-- ---- a claim that a quorum shares: a set of servers as the witness, and the claim of each

pub record Most (n : ℕ) (P : ℕ → Type 0) : Type 0 where
  pub who : Set
  pub quo : quorum n who ≡ true
  pub each : (s : ℕ) → who s ≡ true → P s

pub most-map : {n : ℕ} {P R : ℕ → Type 0} → ((s : ℕ) → P s → R s) → Most n P → Most n R
most-map f m = record { who = m.who; quo = m.quo; each = λ s h. f s (m.each s h) }

-- two such claims are made of one server
pub most-meet : {n : ℕ} {P R : ℕ → Type 0} → Most n P → Most n R → (s : ℕ) × P s × R s
most-meet {n} a b = let r = quorum-meet n a.who b.who a.quo b.quo in (r.who, a.each r.who r.one, b.each r.who r.two)

-- ---- sets with one member more or less

pub just-is : (i t : ℕ) → just i t ≡ true → t ≡ i
unfolding just
just-is i t = upd-at (λ (b : Bool). b ≡ true → t ≡ i) nobody i true t (λ q _. q) (λ _ e. absurd (false≢true e))

pub just-has : (i : ℕ) → just i i ≡ true
unfolding just
just-has i = upd_same nobody i true

pub put_is : (q : Set) (f t : ℕ) → upd q f true t ≡ true → (t ≡ f) ⊎ (q t ≡ true)
put_is q f t = upd-at (λ (b : Bool). b ≡ true → (t ≡ f) ⊎ (q t ≡ true)) q f true t (λ e _. inl e) (λ _ e. inr e)

pub put_keeps : (q : Set) (f t : ℕ) → q t ≡ true → upd q f true t ≡ true
put_keeps q f t e = upd-at (λ (b : Bool). b ≡ true) q f true t (λ _. refl) (λ _. e)

pub cut-is : (q : Set) (f t : ℕ) → upd q f false t ≡ true → q t ≡ true
cut-is q f t = upd-at (λ (b : Bool). b ≡ true → q t ≡ true) q f false t (λ _ e. absurd (false≢true e)) (λ _ e. e)
