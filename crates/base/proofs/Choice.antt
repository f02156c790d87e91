-- Laws of tests, of choice, and of functions changed at one place.
use Prim.Native.Nat.{ℕ, zero, suc, ◌≤◌, ◌<◌}
use mathlib.Core.Path.{◌≡◌, refl, sym, ◌∙◌}
use mathlib.Core.Logic.{◌≢◌, ◌⊎◌, inl, inr, ⊎_elim, ⊎_map}
use mathlib.Core.Bool.{Bool, true, false, not, true≢false}
use native.Mathlib.Omega.{arith}
use lib.Dec.{eqb}
use borrow.Author.Tests.{eqb-true, eqb-false, leb-true, leb-false, ltb-true, ltb-false, le-leb, lt-leb, lt-ltb, le-ltb, eq-eqb, ne_eqb}
use Rattle.base.specs.Choice.{pick, both, either, upd, upd₂, all_below}

-- for `omega`: arithmetic, and what tests that passed or failed say
pub ruleset tests = (arith, eqb-true, eqb-false, leb-true, leb-false, ltb-true, ltb-false)

-- for `omega`: arithmetic, and goals that are tests
pub ruleset passes = (arith, le-leb, lt-leb, lt-ltb, le-ltb, eq-eqb, ne_eqb)

-- for `search`: tests that are decided by facts in reach
pub ruleset decide = (le-leb, lt-leb, lt-ltb, le-ltb, eq-eqb, ne_eqb)

-- ---- numbers

pub le-or-lt : (a b : ℕ) → (a ≤ b) ⊎ (b < a)
le-or-lt zero b = inl (omega arith)
le-or-lt (suc a) zero = inr (omega arith)
le-or-lt (suc a) (suc b) = ⊎_map (λ p. omega arith) (λ q. omega arith) (le-or-lt a b)

pub by_contra : (a b : ℕ) → (b < a → ⊥) → a ≤ b
by_contra a b f = ⊎_elim (λ p. p) (λ q. absurd (f q)) (le-or-lt a b)

pub eq-or : (a b : ℕ) → (a ≡ b) ⊎ (a ≢ b)
eq-or a b = ⊎_elim (λ (p : a ≤ b). ⊎_elim (λ (q : b ≤ a). inl (omega arith)) (λ (q : a < b). inr (omega arith)) (le-or-lt b a)) (λ (p : b < a). inr (omega arith)) (le-or-lt a b)

-- ---- tests

pub clash : {P : Type 0} {b : Bool} → b ≡ true → b ≡ false → P
clash {b = b} p q = absurd (true≢false (sym p ∙ q))

-- a test that came out, kept as a fact
pub case : {P : Type 0} (b : Bool) → (b ≡ true → P) → (b ≡ false → P) → P
case true f g = f refl
case false f g = g refl

pub eq-cases : (P : Bool → Type 0) (a b : ℕ) → (a ≡ b → P true) → (a ≢ b → P false) → P (eqb a b)
eq-cases P a b f g = go (eqb a b) refl
  where
    go : (t : Bool) → eqb a b ≡ t → P t
    go true e = f (eqb-true a b e)
    go false e = g (eqb-false a b e)

pub both_true : (a b : Bool) → both a b ≡ true → (a ≡ true) × (b ≡ true)
unfolding both
both_true true b e = (refl, e)
both_true false b e = clash e refl

pub both_yes : (a b : Bool) → a ≡ true → b ≡ true → both a b ≡ true
unfolding both
both_yes a b p q = rw (p, q)

pub both-no : (a b : Bool) → b ≡ false → both a b ≡ false
unfolding both
both-no true b q = q
both-no false b q = refl

pub either_true : (a b : Bool) → either a b ≡ true → (a ≡ true) ⊎ (b ≡ true)
unfolding either
either_true true b e = inl refl
either_true false b e = inr e

pub either-false : (a b : Bool) → either a b ≡ false → (a ≡ false) × (b ≡ false)
unfolding either
either-false true b e = clash refl e
either-false false b e = (refl, e)

pub either_left : (a b : Bool) → a ≡ true → either a b ≡ true
unfolding either
either_left a b p = rw p

pub either-right : (a b : Bool) → b ≡ true → either a b ≡ true
unfolding either
either-right true b q = refl
either-right false b q = q

pub both_first : (a b c : Bool) → both a b ≡ false → both a (both b c) ≡ false
unfolding both
both_first true true c e = clash refl e
both_first true false c e = refl
both_first false b c e = refl

pub both_right : (x : Bool) → both x true ≡ x
unfolding both
both_right true = refl
both_right false = refl

pub not_is : (a : Bool) → not a ≡ true → a ≡ false
not_is true e = clash e refl
not_is false e = refl

pub not-no : (a : Bool) → not a ≡ false → a ≡ true
not-no true e = refl
not-no false e = clash refl e

pub is-not : (a : Bool) → a ≡ false → not a ≡ true
is-not a e = rw e

-- "a implies b", written either (not a) b
pub implied : (a b : Bool) → either (not a) b ≡ true → a ≡ true → b ≡ true
unfolding either
implied a b e p = rw p at e

pub imply : (a b : Bool) → (a ≡ true → b ≡ true) → either (not a) b ≡ true
unfolding either
imply true b f = f refl
imply false b f = refl

-- "a unless b": b, or else a
pub unless : (a b : Bool) → (a ≡ false → b ≡ true) → either a b ≡ true
unfolding either
unless true b f = refl
unless false b f = f refl

pub failed : (a b : Bool) → either a b ≡ true → a ≡ false → b ≡ true
unfolding either
failed a b e p = rw p at e

pub pick_true : {A : Type 0} (a b : A) → pick true a b ≡ a
unfolding pick
pick_true a b = refl

pub pick-false : {A : Type 0} (a b : A) → pick false a b ≡ b
unfolding pick
pick-false a b = refl

-- to prove P of a choice: of each side, with the test that chose it
pub pick_at : {A : Type 0} (P : A → Type 0) (b : Bool) (x y : A) → (b ≡ true → P x) → (b ≡ false → P y) → P (pick b x y)
unfolding pick
pick_at P true x y f g = f refl
pick_at P false x y f g = g refl

-- ---- all_below

pub all-at : (n : ℕ) (f : ℕ → Bool) → all_below n f ≡ true → (i : ℕ) → i < n → f i ≡ true
unfolding all_below
all-at zero f e i h = absurd (omega arith)
all-at (suc n) f e i h =
    let b = both_true (f n) (all_below n f) e in
    ⊎_elim (λ (q : i ≡ n). rw q b.0) (λ (q : i ≢ n). all-at n f b.1 i (omega arith)) (eq-or i n)

pub all_of : (n : ℕ) (f : ℕ → Bool) → ((i : ℕ) → i < n → f i ≡ true) → all_below n f ≡ true
unfolding all_below
all_of zero f g = refl
all_of (suc n) f g = both_yes (f n) (all_below n f) (g n (omega arith)) (all_of n f (λ i h. g i (omega arith)))

-- a rule over a table of m by n, computed once
pub all-at₂ : (m n : ℕ) (f : ℕ → ℕ → Bool) → all_below m (λ i. all_below n (f i)) ≡ true → (i j : ℕ) → i < m → j < n → f i j ≡ true
all-at₂ m n f e i j p q = all-at n (f i) (all-at m (λ k. all_below n (f k)) e i p) j q

-- ---- functions changed at one place

module _ {A : Type 0} where
  pub upd_same : (f : ℕ → A) (i : ℕ) (v : A) → upd f i v i ≡ v
  unfolding upd pick
  upd_same f i v = rw (eq-eqb i i refl)

  pub upd_other : (f : ℕ → A) (i : ℕ) (v : A) (j : ℕ) → j ≢ i → upd f i v j ≡ f j
  unfolding upd pick
  upd_other f i v j h = rw (ne_eqb j i h)

  -- to prove P of the changed function at j: of the new value, and of the old
  pub upd-at : (P : A → Type 0) (f : ℕ → A) (i : ℕ) (v : A) (j : ℕ) → (j ≡ i → P v) → (j ≢ i → P (f j)) → P (upd f i v j)
  unfolding upd pick
  upd-at P f i v j a b = eq-cases (λ (t : Bool). P (pick t v (f j))) j i a b

module _ {A : Type 0} where
  pub upd₂-at : (P : A → Type 0) (f : ℕ → ℕ → A) (i j : ℕ) (v : A) (a b : ℕ) → (a ≡ i → b ≡ j → P v) → ((a ≡ i → b ≢ j) → P (f a b)) → P (upd₂ f i j v a b)
  unfolding upd₂
  upd₂-at P f i j v a b y n =
      upd-at (λ (r : ℕ → A). P (r b)) f i (upd (f i) j v) a
      (λ q. upd-at P (f i) j v b (y q) (λ m. rw q at (n (λ _. m))))
      (λ m. n (λ q. absurd (m q)))

  pub upd₂-other : (f : ℕ → ℕ → A) (i j : ℕ) (v : A) (a b : ℕ) → b ≢ j → upd₂ f i j v a b ≡ f a b
  upd₂-other f i j v a b m = upd₂-at (λ (r : A). r ≡ f a b) f i j v a b (λ _ q. absurd (m q)) (λ _. refl)

  pub upd₂-row : (f : ℕ → ℕ → A) (i j : ℕ) (v : A) (a b : ℕ) → a ≢ i → upd₂ f i j v a b ≡ f a b
  upd₂-row f i j v a b m = upd₂-at (λ (r : A). r ≡ f a b) f i j v a b (λ q _. absurd (m q)) (λ _. refl)

  pub upd₂-same : (f : ℕ → ℕ → A) (i j : ℕ) (v : A) → upd₂ f i j v i j ≡ v
  unfolding upd₂
  upd₂-same f i j v = rw (upd_same f i (upd (f i) j v), upd_same (f i) j v)
