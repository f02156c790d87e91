-- Rule 5 over a past: what one more record does.
use Prim.Native.Nat.{ℕ}
use mathlib.Core.Path.{◌≡◌, refl, sym, ap, ◌∙◌}
use mathlib.Core.Bool.{Bool, true, false}
use mathlib.Core.List.{[], ◌∷◌}
use native.Mathlib.Omega.{arith}
use lib.Dec.{eqb, leb}
use borrow.Author.Tests.{le-leb, lt-leb}
use Rattle.base.proofs.Entry.{same_true, same_self}
use Rattle.base.specs.Choice.{pick, both, either}
use Rattle.base.specs.Record.{Entry, E, B, «V», X, same}
use Rattle.base.proofs.Choice.{tests, case, clash, both_true, both_yes, either-right, either-false, both_right}
use Rattle.trace.specs.Rules.{Past, has_v, had, each_v, each_b, rule5}
use Rattle.trace.specs.Fold.{st_of}
use Rattle.trace.specs.Held.{any_v}
use Rattle.trace.proofs.Base.{or-false}

module _ (f : Entry → Bool) where
  pub each_v-at : (p : Past) (t : Entry) → each_v f p ≡ true → any_v t p ≡ true → f t ≡ true
  unfolding either
  each_v-at [] t h a = clash a refl
  each_v-at (E s e ∷ p) t h a = each_v-at p t h a
  each_v-at (B s t' ∷ p) t h a = each_v-at p t h a
  each_v-at («V» s t' ∷ p) t h a = case (same t t')
      (λ q. let e = same_true t t' q in rw e (both_true (f t') _ h).0)
      (λ q. each_v-at p t (both_true (f t') _ h).1 (rw q at a))
  each_v-at (X l r ∷ p) t h a = each_v-at p t h a

  pub each_v-all : (p : Past) → ((t : Entry) → any_v t p ≡ true → f t ≡ true) → each_v f p ≡ true
  unfolding either
  each_v-all [] h = refl
  each_v-all (E s e ∷ p) h = each_v-all p h
  each_v-all (B s t ∷ p) h = each_v-all p h
  each_v-all («V» s t ∷ p) h = both_yes (f t) _ (h t (rw (same_self t))) (each_v-all p (λ u a. h u (either-right (same u t) _ a)))
  each_v-all (X l r ∷ p) h = each_v-all p h

  pub each_v-no : (p : Past) (t : Entry) → any_v t p ≡ true → f t ≡ false → each_v f p ≡ false
  each_v-no p t a n = case (each_v f p) (λ q. clash (each_v-at p t q a) n) (λ q. q)

pub each_b-both : (f g : ℕ → Entry → Past → Bool) (p : Past) → each_b (λ x b q. both (f x b q) (g x b q)) p ≡ both (each_b f p) (each_b g p)
unfolding both
each_b-both f g [] = refl
each_b-both f g (E s e ∷ p) = each_b-both f g p
each_b-both f g (B s t ∷ p) = rw (each_b-both f g p) (mix (f s t p) (g s t p) (each_b f p) (each_b g p))
  where
    mix : (a b c d : Bool) → both (both a b) (both c d) ≡ both (both a c) (both b d)
    mix true true c d = refl
    mix true false true d = refl
    mix true false false d = refl
    mix false b c d = refl
each_b-both f g («V» s t ∷ p) = each_b-both f g p
each_b-both f g (X l r ∷ p) = each_b-both f g p

pub each_b-map : (f g : ℕ → Entry → Past → Bool) → ((x : ℕ) (b : Entry) (q : Past) → f x b q ≡ true → g x b q ≡ true) → (p : Past) → each_b f p ≡ true → each_b g p ≡ true
each_b-map f g k [] h = refl
each_b-map f g k (E s e ∷ p) h = each_b-map f g k p h
each_b-map f g k (B s t ∷ p) h = let z = both_true (f s t p) _ h in both_yes (g s t p) _ (k s t p z.0) (each_b-map f g k p z.1)
each_b-map f g k («V» s t ∷ p) h = each_b-map f g k p h
each_b-map f g k (X l r ∷ p) h = each_b-map f g k p h

-- no B so far is broken by a V of t now
abbrev pub late : Entry → Past → Bool
late t p = each_b (λ x b q. had x b.ep q t) p

pub five-V : (p : Past) (s : ℕ) (t : Entry) → rule5 p ≡ true → rule5 («V» s t ∷ p) ≡ late t p
unfolding both
five-V p s t h = each_b-both (λ x b q. had x b.ep q t) (λ x b q. each_v (had x b.ep q) p) p ∙ rw h (both_right (late t p))

-- t was delivered before
pub late-old : (p : Past) (t : Entry) → rule5 p ≡ true → any_v t p ≡ true → late t p ≡ true
late-old p t h a = each_b-map (λ x b q. each_v (had x b.ep q) p) (λ x b q. had x b.ep q t) (λ x b q k. each_v-at (had x b.ep q) p t k a) p h

pub has-any : (p : Past) (x : ℕ) (t : Entry) → any_v t p ≡ false → has_v x t p ≡ false
unfolding both either
has-any [] x t h = refl
has-any (E s e ∷ p) x t h = has-any p x t h
has-any (B s t' ∷ p) x t h = has-any p x t h
has-any («V» s t' ∷ p) x t h = let z = either-false (same t t') _ h in rw (z.0, has-any p x t z.1) (go (eqb x s))
  where
    go : (b : Bool) → either (both b false) false ≡ false
    go true = refl
    go false = refl
has-any (X l r ∷ p) x t h = has-any p x t h

leb-top : (a b c : ℕ) → both (leb b c) (leb a c) ≡ leb (pick (leb a b) b a) c
unfolding both pick
leb-top a b c = case (leb a b)
    (λ p. rw p (case (leb b c) (λ q. rw q (le-leb a c (omega tests))) (λ q. rw q)))
    (λ p. rw p (case (leb b c) (λ q. rw q) (λ q. rw q (sym (lt-leb a c (omega tests))))))

-- t is new
pub late-new : (p : Past) (t : Entry) → any_v t p ≡ false → late t p ≡ leb (st_of p).top t.ep
unfolding either
late-new [] t h = sym (le-leb 0 t.ep (omega arith))
late-new (E s e ∷ p) t h = late-new p t h
late-new (B s b ∷ p) t h = rw (has-any p s t h, late-new p t h) (ap (λ (z : Bool). both z (leb (st_of p).top t.ep)) (or-false (leb b.ep t.ep)) ∙ leb-top (st_of p).top b.ep t.ep)
late-new («V» s t' ∷ p) t h = late-new p t (either-false (same t t') _ h).1
late-new (X l r ∷ p) t h = late-new p t h
