-- The walk's answer is the first record at which the trace so far breaks a rule, with the lowest such rule.
use Prim.Native.Nat.{ℕ, zero, suc, ◌+◌, ◌≤◌, ◌<◌}
use mathlib.Core.Path.{◌≡◌, refl}
use mathlib.Core.Logic.{◌≢◌}
use mathlib.Core.Bool.{Bool, true, false}
use mathlib.Core.List.{List, [], ◌∷◌}
use native.Mathlib.Omega.{arith}
use lib.Dec.{eqb}
use lib.ListN.{length, take}
use borrow.Author.Tests.{eqb-true, eqb-false}
use Rattle.base.specs.Record.{Rec}
use Rattle.trace.specs.Rules.{Past, broken, Answer, keeps, breaks, refuses, walk}

-- the records of t, in their order, put before p
abbrev pub past : Past → List Rec → Past
past p [] = p
past p (r ∷ t) = past (r ∷ p) t

pub record First (n : ℕ) (p : Past) (t : List Rec) (i k : ℕ) : Type 0 where
  pub m : ℕ
  pub at : i ≡ length p + m
  pub low : m < length t
  pub rule : broken n (past p (take (suc m) t)) ≡ k
  pub bad : k ≢ 0
  pub before : (j : ℕ) → j ≤ m → broken n (past p (take j t)) ≡ 0

abbrev pub Says : ℕ → Past → List Rec → Answer → Type 0
Says n p t keeps = (j : ℕ) → broken n (past p (take j t)) ≡ 0
Says n p t (breaks i k) = First n p t i k
Says n p t refuses = ⊥

more : (n : ℕ) (r : Rec) (t : List Rec) (p : Past) → broken n p ≡ 0 → (a : Answer) → Says n (r ∷ p) t a → Says n p (r ∷ t) a
more n r t p b keeps h = go
  where
    go : (j : ℕ) → broken n (past p (take j (r ∷ t))) ≡ 0
    go zero = b
    go (suc j) = h j
more n r t p b (breaks i k) h = record { m = suc h.m; at = omega (arith, h.at); low = omega (arith, h.low); rule = h.rule; bad = h.bad; before = go }
  where
    go : (j : ℕ) → j ≤ suc h.m → broken n (past p (take j (r ∷ t))) ≡ 0
    go zero l = b
    go (suc j) l = h.before j (omega arith)
more n r t p b refuses h = absurd h

pub says : (n : ℕ) (t : List Rec) (p : Past) → broken n p ≡ 0 → Says n p t (walk n p t)
says n [] p b = go
  where
    go : (j : ℕ) → broken n (past p (take j [])) ≡ 0
    go zero = b
    go (suc j) = b
says n (r ∷ t) p b = go (λ z. more n r t p b (walk n (r ∷ p) t) (says n t (r ∷ p) z)) (eqb (broken n (r ∷ p)) 0) refl
  where
    go : (broken n (r ∷ p) ≡ 0 → Says n p (r ∷ t) (walk n (r ∷ p) t)) → (c : Bool) → eqb (broken n (r ∷ p)) 0 ≡ c
        → Says n p (r ∷ t) (elim c [ true ↦ walk n (r ∷ p) t | false ↦ breaks (length p) (broken n (r ∷ p)) ])
    go h true e = h (eqb-true _ _ e)
    go h false e = record { m = 0; at = omega arith; low = omega arith; rule = refl; bad = eqb-false _ _ e; before = first }
      where
        first : (j : ℕ) → j ≤ 0 → broken n (past p (take j (r ∷ t))) ≡ 0
        first zero l = b
        first (suc j) l = absurd (omega arith)
