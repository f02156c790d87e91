-- Which messages are well formed, as facts.
use Prim.Native.Nat.{ℕ, ◌≤◌, ◌<◌}
use mathlib.Core.Path.{◌≡◌}
use mathlib.Core.Bool.{true}
use lib.Dec.{eqb, leb, ltb}
use borrow.Author.Tests.{eqb-true, leb-true, ltb-true, le-leb, lt-ltb, eq-eqb}
use Rattle.base.specs.Choice.{both}
use Rattle.base.specs.Transaction.{Hist, LAST, epoch_of, counter_of, good_hist}
use Rattle.base.specs.declared.Txn.{Txn}
use Rattle.base.specs.declared.Sizes.{Sizes}
use Rattle.base.proofs.Choice.{both_true, both_yes}
use Rattle.rules.specs.Message.{cepoch, newepoch, acke, newleader, ackld, commitld, propose, ack, commit, positive, formed}

pub positive-says : (x : ℕ) → positive x ≡ true → (1 ≤ x) × (x ≤ LAST)
unfolding positive
positive-says x e = let b = both_true (leb 1 x) (leb x LAST) e in (leb-true _ _ b.0, leb-true _ _ b.1)

pub positive-shown : (x : ℕ) → 1 ≤ x → x ≤ LAST → positive x ≡ true
unfolding positive
positive-shown x p q = both_yes _ _ (le-leb _ _ p) (le-leb _ _ q)

module _ (z : Sizes) where
  -- ---- what a well-formed message says

  pub cepoch-says : (p : ℕ) → formed z (cepoch p) ≡ true → p ≤ LAST
  unfolding formed
  cepoch-says p e = leb-true _ _ e

  pub acke-says : (e a : ℕ) (h : Hist) → formed z (acke e a h) ≡ true → (a < e) × (good_hist z.room.0 a h ≡ true)
  unfolding formed
  acke-says e a h f =
      let x = both_true (positive e) (both (ltb a e) (good_hist z.room.0 a h)) f in
      let y = both_true (ltb a e) (good_hist z.room.0 a h) x.1 in
      (ltb-true _ _ y.0, y.1)

  pub newleader-says : (e : ℕ) (h : Hist) → formed z (newleader e h) ≡ true → good_hist z.room.0 e h ≡ true
  unfolding formed
  newleader-says e h f = (both_true (positive e) (good_hist z.room.0 e h) f).1

  pub propose-says : (e k : ℕ) (t : Txn) → formed z (propose e k t) ≡ true → (epoch_of t.id.0 ≡ e) × (1 ≤ counter_of t.id.0)
  unfolding formed
  propose-says e k t f =
      let x = both_true (positive e) (both (positive k) (both (eqb (epoch_of t.id.0) e) (leb 1 (counter_of t.id.0)))) f in
      let y = both_true (positive k) (both (eqb (epoch_of t.id.0) e) (leb 1 (counter_of t.id.0))) x.1 in
      let w = both_true (eqb (epoch_of t.id.0) e) (leb 1 (counter_of t.id.0)) y.1 in
      (eqb-true _ _ w.0, leb-true _ _ w.1)

  -- ---- what makes a message well formed

  pub cepoch-formed : (p : ℕ) → p ≤ LAST → formed z (cepoch p) ≡ true
  unfolding formed
  cepoch-formed p h = le-leb _ _ h

  pub newepoch-formed : (e : ℕ) → 1 ≤ e → e ≤ LAST → formed z (newepoch e) ≡ true
  unfolding formed
  newepoch-formed e p q = positive-shown e p q

  pub acke-formed : (e a : ℕ) (h : Hist) → 1 ≤ e → e ≤ LAST → a < e → good_hist z.room.0 a h ≡ true → formed z (acke e a h) ≡ true
  unfolding formed
  acke-formed e a h p q l g = both_yes _ _ (positive-shown e p q) (both_yes _ _ (lt-ltb _ _ l) g)

  pub newleader-formed : (e : ℕ) (h : Hist) → 1 ≤ e → e ≤ LAST → good_hist z.room.0 e h ≡ true → formed z (newleader e h) ≡ true
  unfolding formed
  newleader-formed e h p q g = both_yes _ _ (positive-shown e p q) g

  pub ackld-formed : (e c : ℕ) → 1 ≤ e → e ≤ LAST → c ≤ LAST → formed z (ackld e c) ≡ true
  unfolding formed
  ackld-formed e c p q l = both_yes _ _ (positive-shown e p q) (le-leb _ _ l)

  pub commitld-formed : (e c : ℕ) → 1 ≤ e → e ≤ LAST → c ≤ LAST → formed z (commitld e c) ≡ true
  unfolding formed
  commitld-formed e c p q l = both_yes _ _ (positive-shown e p q) (le-leb _ _ l)

  pub propose-formed : (e k : ℕ) (t : Txn) → 1 ≤ e → e ≤ LAST → 1 ≤ k → k ≤ LAST → epoch_of t.id.0 ≡ e → 1 ≤ counter_of t.id.0 → formed z (propose e k t) ≡ true
  unfolding formed
  propose-formed e k t p q r l x c = both_yes _ _ (positive-shown e p q) (both_yes _ _ (positive-shown k r l) (both_yes _ _ (eq-eqb _ _ x) (le-leb _ _ c)))

  pub ack-formed : (e k : ℕ) → 1 ≤ e → e ≤ LAST → 1 ≤ k → k ≤ LAST → formed z (ack e k) ≡ true
  unfolding formed
  ack-formed e k p q r l = both_yes _ _ (positive-shown e p q) (positive-shown k r l)

  pub commit-formed : (e c : ℕ) → 1 ≤ e → e ≤ LAST → 1 ≤ c → c ≤ LAST → formed z (commit e c) ≡ true
  unfolding formed
  commit-formed e c p q r l = both_yes _ _ (positive-shown e p q) (positive-shown c r l)
