-- What the state tells of every past, rules kept or not.
use Prim.Native.Nat.{ℕ, suc, ◌+◌}
use mathlib.Core.Path.{◌≡◌, refl, sym, ap}
use mathlib.Core.Bool.{Bool, true, false, not}
use mathlib.Core.List.{[], ◌∷◌}
use native.Mathlib.Omega.{arith}
use lib.Dec.{eqb}
use borrow.Author.Tests.{eqb-false, eq-eqb, ne_eqb}
use Rattle.base.specs.Choice.{pick, both, either, upd}
use Rattle.base.specs.Record.{Entry, E, B, «V», X, same}
use Rattle.base.proofs.Choice.{tests, case, eq-cases, both_true, either-false, not_is}
use Rattle.trace.specs.Rules.{Past, each, any_e, new1, has_e, count_b, any_b, last_v}
use Rattle.trace.specs.Fold.{mem, st_of}
use Rattle.trace.proofs.Base.{or-false}

pub nxt-is : (p : Past) (e : ℕ) → (st_of p).nxt e ≡ count_b e p
unfolding pick upd
nxt-is [] e = refl
nxt-is (E s e' ∷ p) e = nxt-is p e
nxt-is (B s t ∷ p) e = eq-cases (λ (b : Bool). pick b ((st_of p).nxt t.ep + 1) ((st_of p).nxt e) ≡ count_b e p + pick b 1 0) e t.ep (λ q. rw q (ap (λ (k : ℕ). k + 1) (nxt-is p t.ep))) (λ _. omega (arith, nxt-is p e))
nxt-is («V» s t ∷ p) e = nxt-is p e
nxt-is (X l r ∷ p) e = nxt-is p e

pub last-is : (p : Past) (s : ℕ) → (st_of p).last s ≡ last_v s p
unfolding upd
last-is [] s = refl
last-is (E s' e ∷ p) s = last-is p s
last-is (B s' t ∷ p) s = last-is p s
last-is («V» s' t ∷ p) s = ap (λ (z : Entry). pick (eqb s s') t z) (last-is p s)
last-is (X l r ∷ p) s = last-is p s

pub bs-is : (p : Past) (t : Entry) → mem t (st_of p).bs ≡ any_b t p
bs-is [] t = refl
bs-is (E s e ∷ p) t = bs-is p t
bs-is (B s t' ∷ p) t = ap (either (same t t')) (bs-is p t)
bs-is («V» s t' ∷ p) t = bs-is p t
bs-is (X l r ∷ p) t = bs-is p t

pub own_any : (p : Past) (e : ℕ) → any_e e p ≡ not (eqb ((st_of p).own e) 0)
unfolding either pick upd
own_any [] e = refl
own_any (E s e' ∷ p) e = eq-cases (λ (b : Bool). either b (any_e e p) ≡ not (eqb (pick b (suc s) ((st_of p).own e)) 0)) e e' (λ _. rw (ne_eqb (suc s) 0 (λ q. omega arith))) (λ _. own_any p e)
own_any (B s t ∷ p) e = own_any p e
own_any («V» s t ∷ p) e = own_any p e
own_any (X l r ∷ p) e = own_any p e

pub has-any : (p : Past) (s e : ℕ) → any_e e p ≡ false → has_e s e p ≡ false
unfolding both either
has-any [] s e h = refl
has-any (E s' e' ∷ p) s e h = let z = either-false (eqb e e') _ h in rw z.0 (has-any p s e z.1)
has-any (B s' t ∷ p) s e h = has-any p s e h
has-any («V» s' t ∷ p) s e h = has-any p s e h
has-any (X l r ∷ p) s e h = has-any p s e h

pub suc-eqb : (a b : ℕ) → eqb (suc a) (suc b) ≡ eqb b a
suc-eqb a b = case (eqb b a) (λ p. rw p (eq-eqb (suc a) (suc b) (omega tests))) (λ p. rw p (ne_eqb (suc a) (suc b) (λ q. eqb-false b a p (omega arith))))

-- where rule 1 is kept the owner decides
pub own_is : (p : Past) (s e : ℕ) → each new1 p ≡ true → has_e s e p ≡ eqb ((st_of p).own e) (suc s)
unfolding both either pick upd
own_is [] s e h = sym (ne_eqb 0 (suc s) (λ q. omega arith))
own_is (E s' e' ∷ p) s e h =
    let k = both_true (not (any_e e' p)) _ h in
    eq-cases (λ (b : Bool). either (both b (eqb s s')) (has_e s e p) ≡ eqb (pick b (suc s') ((st_of p).own e)) (suc s)) e e'
    (λ q. let n : has_e s e p ≡ false = has-any p s e (rw q (not_is _ k.0)) in rw (n, suc-eqb s' s) (or-false (eqb s s')))
    (λ _. own_is p s e k.1)
own_is (B s' t ∷ p) s e h = own_is p s e h
own_is («V» s' t ∷ p) s e h = own_is p s e h
own_is (X l r ∷ p) s e h = own_is p s e h
