-- What holds of every answer of a tree, and of everything that is sent.
use Prim.Native.Nat.{ℕ, zero, suc, ◌+◌, ◌≤◌, ◌<◌}
use mathlib.Core.Path.{◌≡◌, refl}
use mathlib.Core.Logic.{◌≢◌, ⊎_elim}
use mathlib.Core.Bool.{Bool, true, false, not}
use mathlib.Core.List.{List, [], ◌∷◌, ◌++◌}
use native.Mathlib.Omega.{arith}
use lib.Dec.{eqb}
use lib.ListN.{length, length-append}
use borrow.Author.Tests.{eqb-true, eqb-false, eq-eqb}
use Rattle.base.specs.Choice.{pick, both}
use Rattle.base.specs.Quorum.{Set}
use Rattle.base.proofs.Choice.{both_true, not_is, eq-or, clash, both-no}
use Rattle.rules.specs.Message.{Msg, Send}
use Rattle.rules.specs.Server.{Server}
use Rattle.rules.specs.Table.{TAKEN, cell}
use Rattle.rules.specs.Tree.{Tree, need, fork, deny, took, Res, refused, taken, run, gate, to_all}

-- ---- trees: what is owed at each leaf, from the tests on the way to it

abbrev pub Leaves : (Bool → Server → List Send → Type 0) → Tree → Type 0
Leaves P (need b r t) = b ≡ true → Leaves P t
Leaves P (fork b x y) = (b ≡ true → Leaves P x) × (b ≡ false → Leaves P y)
Leaves P (deny r) = Unit {0}
Leaves P (took b s out) = P b s out

abbrev pub Answers : (Bool → Server → List Send → Type 0) → Res → Type 0
Answers P (refused r) = Unit {0}
Answers P (taken b s out) = P b s out

pub run-leaves : (P : Bool → Server → List Send → Type 0) (t : Tree) → Leaves P t → Answers P (run t)
unfolding run
run-leaves P (need true r t) c = run-leaves P t (c refl)
run-leaves P (need false r t) c = tt
run-leaves P (fork true x y) c = run-leaves P x (c.0 refl)
run-leaves P (fork false x y) c = run-leaves P y (c.1 refl)
run-leaves P (deny r) c = tt
run-leaves P (took b s out) c = c

-- a refusal that stands nowhere in a tree is not its answer
abbrev pub Avoids : ℕ → Tree → Type 0
Avoids k (need b r t) = (r ≢ k) × Avoids k t
Avoids k (fork b x y) = Avoids k x × Avoids k y
Avoids k (deny r) = r ≢ k
Avoids k (took b s out) = Unit {0}

pub run-avoids : (k : ℕ) (t : Tree) → Avoids k t → run t ≢ refused k
unfolding run
run-avoids k (need true r t) c = run-avoids k t c.1
run-avoids k (need false r t) c = λ e. c.0 (code e)
  where
    code : ◌≡◌ {A = Res} (refused r) (refused k) → r ≡ k
    code e = cc
run-avoids k (fork true x y) c = run-avoids k x c.0
run-avoids k (fork false x y) c = run-avoids k y c.1
run-avoids k (deny r) c = λ e. c (code e)
  where
    code : ◌≡◌ {A = Res} (refused r) (refused k) → r ≡ k
    code e = cc
run-avoids k (took b s out) c = λ e. let z : ◌≡◌ {A = ℕ} 0 1 = cc in omega arith

-- past the gate: the sender will do, and the kind is taken in this stage
pub gate-leaves : (P : Bool → Server → List Send → Type 0) (k st : ℕ) (who : Bool) (t : Tree) → (who ≡ true → cell k st ≡ TAKEN → Leaves P t) → Leaves P (gate k st who t)
unfolding gate
gate-leaves P k st who t f _ w e = f w (eqb-true (cell k st) TAKEN e)

-- ---- lists all of whose elements keep a claim

abbrev pub All : {A : Type 0} → (A → Type 0) → List A → Type 0
All P [] = Unit {0}
All P (x ∷ xs) = P x × All P xs

pub all_append : {A : Type 0} (P : A → Type 0) (l r : List A) → All P l → All P r → All P (l ++ r)
all_append P [] r a b = b
all_append P (x ∷ l) r a b = (a.0, all_append P l r a.1 b)

pub all_map : {A : Type 0} (P R : A → Type 0) → ((x : A) → P x → R x) → (l : List A) → All P l → All R l
all_map P R f [] a = tt
all_map P R f (x ∷ l) a = (f x a.0, all_map P R f l a.1)

-- ---- to all others of a set

pub to-all : (P : Send → Type 0) (n i : ℕ) (q : Set) (m : Msg) → ((t : ℕ) → t < n → t ≢ i → q t ≡ true → P (record { to = t; msg = m })) → All P (to_all n i q m)
unfolding to_all pick
to-all P zero i q m f = tt
to-all P (suc n) i q m f = all_append P (to_all n i q m) _ (to-all P n i q m (λ t h. f t (omega arith))) (last (both (q n) (not (eqb n i))) refl)
  where
    last : (b : Bool) → both (q n) (not (eqb n i)) ≡ b → All P (pick b (record { to = n; msg = m } ∷ []) [])
    last true e = let x = both_true (q n) (not (eqb n i)) e in (f n (omega arith) (eqb-false n i (not_is (eqb n i) x.1)) x.0, tt)
    last false e = tt

-- how many: at most one for each server, and none for one that is left out
abbrev pub Skips : ℕ → Set → ℕ → Type 0
Skips i q s = both (q s) (not (eqb s i)) ≡ false

pub skips-self : (i : ℕ) (q : Set) → Skips i q i
skips-self i q = both-no (q i) (not (eqb i i)) (rw (eq-eqb i i refl))

pub skips-out : (i : ℕ) (q : Set) (f : ℕ) → q f ≡ false → Skips i q f
unfolding both
skips-out i q f e = rw e

module _ (i : ℕ) (q : Set) (m : Msg) where
  one_more : (n : ℕ) → (length (to_all (suc n) i q m) ≤ length (to_all n i q m) + 1) × (Skips i q n → length (to_all (suc n) i q m) ≡ length (to_all n i q m))
  unfolding to_all pick
  one_more n = go (both (q n) (not (eqb n i))) refl
    where
      go : (b : Bool) → both (q n) (not (eqb n i)) ≡ b
          → (length (to_all n i q m ++ pick b (record { to = n; msg = m } ∷ []) []) ≤ length (to_all n i q m) + 1) × (b ≡ false → length (to_all n i q m ++ pick b (record { to = n; msg = m } ∷ []) []) ≡ length (to_all n i q m))
      go true e = (omega (arith, length-append (to_all n i q m) (record { to = n; msg = m } ∷ [])), λ x. clash refl x)
      go false e = (omega (arith, length-append (to_all n i q m) []), λ x. omega (arith, length-append (to_all n i q m) []))

  pub few : (n : ℕ) → length (to_all n i q m) ≤ n
  unfolding to_all
  few zero = omega arith
  few (suc n) = omega (arith, few n, (one_more n).0)

  pub few-less : (n s : ℕ) → s < n → Skips i q s → length (to_all n i q m) + 1 ≤ n
  few-less zero s h k = absurd (omega arith)
  few-less (suc n) s h k = ⊎_elim
      (λ (e : s ≡ n). omega (arith, few n, (one_more n).1 (rw e at k)))
      (λ (e : s ≢ n). omega (arith, few-less n s (omega arith) k, (one_more n).0))
      (eq-or s n)

  pub few-less₂ : (n s t : ℕ) → s < n → t < n → s ≢ t → Skips i q s → Skips i q t → length (to_all n i q m) + 2 ≤ n
  few-less₂ zero s t h g x k l = absurd (omega arith)
  few-less₂ (suc n) s t h g x k l = ⊎_elim
      (λ (e : s ≡ n). omega (arith, few-less n t (omega arith) l, (one_more n).1 (rw e at k)))
      (λ (e : s ≢ n). ⊎_elim
      (λ (y : t ≡ n). omega (arith, few-less n s (omega arith) k, (one_more n).1 (rw y at l)))
      (λ (y : t ≢ n). omega (arith, few-less₂ n s t (omega arith) (omega arith) x k l, (one_more n).0))
      (eq-or t n))
      (eq-or s n)
