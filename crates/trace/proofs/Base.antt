-- Tests joined, transactions compared, lists with one more.
use Prim.Native.Nat.{ℕ, suc, ◌≤◌, ◌<◌}
use mathlib.Core.Path.{◌≡◌, refl, sym, ◌∙◌}
use mathlib.Core.Bool.{Bool, true, false}
use mathlib.Core.List.{List, [], ◌∷◌, ◌++◌, append-nil}
use native.Mathlib.Omega.{arith}
use lib.Dec.{eqb, ltb}
use lib.ListN.{length, get_or, length-append, get_or-append}
use lib.Seq.{get_or_at}
use borrow.Author.Tests.{eqb-true, ltb-true, eq-eqb, lt-ltb, le-ltb}
use Rattle.base.proofs.Entry.{same_true, same_self}
use Rattle.base.specs.Choice.{pick, both, either}
use Rattle.base.specs.Record.{Entry, «V», same}
use Rattle.base.proofs.Choice.{tests, case, clash, both_true}
use Rattle.trace.specs.Rules.{Past, less, vs}
use Rattle.trace.specs.Fold.{none}

pub or-false : (b : Bool) → either b false ≡ b
unfolding either
or-false true = refl
or-false false = refl

pub either-comm : (a b : Bool) → either a b ≡ either b a
unfolding either
either-comm true true = refl
either-comm true false = refl
either-comm false true = refl
either-comm false false = refl

pub same-comm : (a b : Entry) → same a b ≡ same b a
same-comm a b = case (same a b) (λ p. let q = same_true a b p in rw (q, same_self b)) (λ p. case (same b a) (λ r. let q = same_true b a r in rw q) (λ r. p ∙ sym r))

pub less-self : (a : Entry) → less a a ≡ false
unfolding less both either
less-self a = rw (le-ltb a.ep a.ep (omega arith), eq-eqb a.ep a.ep refl, le-ltb a.ct a.ct (omega arith))

-- what `less` says
pub record Less (a b : Entry) : Type 0 where
  pub ep : a.ep ≤ b.ep
  pub ct : b.ep ≤ a.ep → a.ct < b.ct

pub less-true : (a b : Entry) → less a b ≡ true → Less a b
unfolding less either
less-true a b e = case (ltb a.ep b.ep)
    (λ p. record { ep = omega tests; ct = λ h. absurd (omega tests) })
    (λ p. let f : both (eqb a.ep b.ep) (ltb a.ct b.ct) ≡ true = rw p at e in
    let x = both_true (eqb a.ep b.ep) _ f in
    let g : a.ep ≡ b.ep = eqb-true _ _ x.0 in record { ep = omega arith; ct = λ h. ltb-true _ _ x.1 })

pub less-yes : (a b : Entry) → Less a b → less a b ≡ true
unfolding less both either
less-yes a b l = case (ltb a.ep b.ep)
    (λ p. rw p)
    (λ p. let h : b.ep ≤ a.ep = omega tests in let q : a.ep ≡ b.ep = omega arith in
    rw (p, eq-eqb a.ep b.ep q, lt-ltb a.ct b.ct (l.ct h)))

pub less-trans : (a b c : Entry) → less a b ≡ true → less b c ≡ true → less a c ≡ true
less-trans a b c p q = let l = less-true a b p in let m = less-true b c q in
    less-yes a c (record { ep = omega (arith, l.ep, m.ep); ct = λ h. let u : a.ct < b.ct = l.ct (omega (arith, m.ep)) in let w : b.ct < c.ct = m.ct (omega (arith, l.ep)) in omega arith })

pub less-differs : (a b : Entry) → less a b ≡ true → same b a ≡ false
less-differs a b p = case (same b a) (λ q. let e = same_true b a q in clash p (rw e (less-self a))) (λ q. q)

-- the V sequences after a V
pub vs-V : (x s : ℕ) (t : Entry) (p : Past) → vs x («V» s t ∷ p) ≡ pick (eqb x s) (vs x p ++ (t ∷ [])) (vs x p)
unfolding pick
vs-V x s t p = case (eqb x s) (λ q. rw q) (λ q. rw q (append-nil (vs x p)))

module _ (l : List Entry) (t : Entry) where
  pub snoc : length (l ++ (t ∷ [])) ≡ suc (length l)
  snoc = rw (length-append l (t ∷ [])) (omega arith)

  pub old-at : (i : ℕ) → i < length l → get_or (l ++ (t ∷ [])) i none ≡ get_or l i none
  old-at i h = get_or-append l (t ∷ []) none i h

  pub new-at : (i : ℕ) → i ≡ length l → get_or (l ++ (t ∷ [])) i none ≡ t
  new-at i e = get_or_at l t [] none i (sym e)
