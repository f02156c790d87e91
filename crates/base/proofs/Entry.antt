-- Entries of a trace: a test of equality that tells.
use mathlib.Core.Path.{◌≡◌, refl}
use mathlib.Core.Bool.{true}
use lib.Dec.{eqb}
use borrow.Author.Tests.{eqb-true, eq-eqb}
use Rattle.base.specs.Choice.{both}
use Rattle.base.specs.Record.{Entry, same}
use Rattle.base.proofs.Choice.{both_true}

pub same_true : (a b : Entry) → same a b ≡ true → a ≡ b
unfolding same
same_true a b e =
    let x = both_true (eqb a.ep b.ep) _ e in
    let y = both_true (eqb a.ct b.ct) _ x.1 in
    let p : a.ep ≡ b.ep = eqb-true _ _ x.0 in
    let q : a.ct ≡ b.ct = eqb-true _ _ y.0 in
    let r : a.vl ≡ b.vl = eqb-true _ _ y.1 in
    λ i. record { ep = p i; ct = q i; vl = r i }

pub same_self : (a : Entry) → same a a ≡ true
unfolding same both
same_self a = rw (eq-eqb a.ep a.ep refl, eq-eqb a.ct a.ct refl, eq-eqb a.vl a.vl refl)
