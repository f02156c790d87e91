-- Rules 1, 2, 3 and 6 as the paper says them of a whole trace.
use Prim.Native.Nat.{ℕ, suc, ◌<◌}
use mathlib.Core.Path.{◌≡◌, refl, sym, ap, subst}
use mathlib.Core.Bool.{Bool, true, false}
use mathlib.Core.List.{List, [], ◌∷◌, ◌++◌, append-nil}
use native.Mathlib.Omega.{arith}
use lib.Dec.{eqb}
use lib.ListN.{length, get_or}
use borrow.Author.Tests.{eqb-true}
use Rattle.base.specs.Choice.{pick, both}
use Rattle.base.specs.Record.{Entry, Rec, E, B, «V», X}
use Rattle.base.proofs.Choice.{tests, case, both_true, both_yes}
use Rattle.trace.specs.Rules.{Past, less, each, vs, last_v, new6}
use Rattle.trace.specs.Fold.{none}
use Rattle.trace.proofs.Base.{snoc, old-at, new-at}

-- every record, with the records before it, keeps f
pub each_of : (f : Rec → Past → Bool) (later : Past) (r : Rec) (p : Past) → each f (later ++ (r ∷ p)) ≡ true → f r p ≡ true
each_of f [] r p h = (both_true (f r p) _ h).0
each_of f (x ∷ q) r p h = each_of f q r p (both_true (f x (q ++ (r ∷ p))) _ h).1

pub of-each : (f : Rec → Past → Bool) (all : Past) → ((later : Past) (r : Rec) (p : Past) → all ≡ later ++ (r ∷ p) → f r p ≡ true) → each f all ≡ true
of-each f [] h = refl
of-each f (r ∷ p) h = both_yes (f r p) _ (h [] r p refl) (of-each f p (λ q x y e. h (r ∷ q) x y (ap (λ (z : Past). r ∷ z) e)))

pub last-at : (p : Past) (s k : ℕ) → length (vs s p) ≡ suc k → last_v s p ≡ get_or (vs s p) k none
unfolding pick
last-at [] s k h = absurd (omega arith)
last-at (E s' e ∷ p) s k h = last-at p s k h
last-at (B s' t ∷ p) s k h = last-at p s k h
last-at («V» s' t ∷ p) s k h = go (last-at p s k) (eqb s s') h
  where
    go : (length (vs s p) ≡ suc k → last_v s p ≡ get_or (vs s p) k none) → (b : Bool) → length (vs s p ++ pick b (t ∷ []) []) ≡ suc k → pick b t (last_v s p) ≡ get_or (vs s p ++ pick b (t ∷ []) []) k none
    go ih true g = sym (new-at (vs s p) t k (omega (arith, snoc (vs s p) t)))
    go ih false g = rw (append-nil (vs s p)) (ih (rw (append-nil (vs s p)) at g))
last-at (X l r ∷ p) s k h = last-at p s k h

abbrev pub Rising : List Entry → Type 0
Rising l = (k : ℕ) → suc k < length l → less (get_or l k none) (get_or l (suc k) none) ≡ true

-- one server's V identifiers rise
pub six-rises : (p : Past) (s : ℕ) → each new6 p ≡ true → Rising (vs s p)
unfolding both pick
six-rises [] s h k g = absurd (omega arith)
six-rises (E s' e ∷ p) s h k g = six-rises p s h k g
six-rises (B s' t ∷ p) s h k g = six-rises p s h k g
six-rises («V» s' t ∷ p) s h k g = go (six-rises p s (both_true (less (last_v s' p) t) _ h).1) (eqb s s') refl g
  where
    go : Rising (vs s p) → (b : Bool) → eqb s s' ≡ b → suc k < length (vs s p ++ pick b (t ∷ []) [])
        → less (get_or (vs s p ++ pick b (t ∷ []) []) k none) (get_or (vs s p ++ pick b (t ∷ []) []) (suc k) none) ≡ true
    go ih true q j = case (eqb (suc k) (length (vs s p)))
        (λ e. let y : suc k ≡ length (vs s p) = eqb-true _ _ e in let x : s ≡ s' = eqb-true _ _ q in
        rw (new-at (vs s p) t (suc k) y, old-at (vs s p) t k (omega arith), ← last-at p s k (sym y))
        (subst (λ (u : ℕ). less (last_v u p) t ≡ true) (sym x) (both_true (less (last_v s' p) t) _ h).0))
        (λ e. let y : suc k < length (vs s p) = omega (tests, snoc (vs s p) t) in
        rw (old-at (vs s p) t k (omega arith), old-at (vs s p) t (suc k) y) (ih k y))
    go ih false q j = rw (append-nil (vs s p)) (ih k (rw (append-nil (vs s p)) at j))
six-rises (X l r ∷ p) s h k g = six-rises p s h k g
