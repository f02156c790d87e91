-- Agreement: of what any two servers have delivered, one begins the other.
use Prim.Native.Nat.{ℕ, zero, suc, ◌≤◌, ◌<◌}
use mathlib.Core.Path.{◌≡◌, refl, sym, ap, ◌∙◌}
use mathlib.Core.Logic.{◌⊎◌, inl, inr, ⊎_elim}
use mathlib.Core.List.{List}
use native.Mathlib.Omega.{arith}
use lib.ListN.{length, take}
use lib.Seq.{take-take, length-take-le}
use Rattle.base.specs.Transaction.{Hist, Begins}
use Rattle.base.specs.declared.Sizes.{Sizes}
use Rattle.base.proofs.Choice.{le-or-lt}
use Rattle.base.proofs.History.{agree-low}
use Rattle.rules.specs.Cluster.{Cluster, start, Event, play}
use Rattle.ledger.specs.Delivered.{delivered_of}
use Rattle.ledger.proofs.Ghost.{Ghost, Good}
use Rattle.ledger.proofs.Candidate.{Fit, fit-sym, committed-fit}
use Rattle.ledger.proofs.Claims.{Deliv}
use Rattle.ledger.proofs.Cluster.{Inv, runs-ok}

fit-zero : (x y : Hist) (d : ℕ) → Fit x 0 y d
fit-zero x y d = record { left = λ _. refl; right = λ k. let q : d ≡ 0 = omega arith in rw q refl }

fit-both : (x y l m : Hist) (a b : ℕ) → take a x ≡ take a l → take b y ≡ take b m → Fit l a m b → Fit x a y b
fit-both x y l m a b p q f = record {
  left = λ k. p ∙ f.left k ∙ sym (agree-low a b y m k q);
  right = λ k. agree-low b a x l k p ∙ f.right k ∙ sym q;
}

-- what two servers may deliver fits together
pub deliv-fit : (n : ℕ) (g : Ghost) → Good n g → (x y : Hist) (ax ay dx dy : ℕ) → Deliv n g ax dx x → Deliv n g ay dy y → Fit x dx y dy
deliv-fit n g G x y ax ay zero dy u v = fit-zero x y dy
deliv-fit n g G x y ax ay (suc a) zero u v = fit-sym (fit-zero y x (suc a))
deliv-fit n g G x y ax ay (suc a) (suc b) u v =
    let s = u.safe (omega arith) in
    let t = v.safe (omega arith) in
    fit-both x y (g.log s.0) (g.log t.0) (suc a) (suc b) s.3 t.3 (committed-fit n g G s.0 t.0 (suc a) (suc b) s.2 t.2)

-- the first i of x begin the first j of y
pub fit-pre : (x y : Hist) (i j : ℕ) → i ≤ length x → i ≤ j → take i x ≡ take i y → Begins (take i x) (take j y)
fit-pre x y i j l k q = ap (λ (m : ℕ). take m (take j y)) (length-take-le i x l) ∙ take-take i j y k ∙ sym q

-- of any cluster that keeps the invariant
pub inv-agreement : (n : ℕ) (c : Cluster) → Inv n c → (i j : ℕ)
    → Begins (delivered_of (c.srv i)) (delivered_of (c.srv j)) ⊎ Begins (delivered_of (c.srv j)) (delivered_of (c.srv i))
inv-agreement n c I i j =
    let u = (I.srv i).dur.del in
    let v = (I.srv j).dur.del in
    let f = deliv-fit n I.g I.good (c.srv i).dur.hist (c.srv j).dur.hist (c.srv i).dur.a (c.srv j).dur.a (c.srv i).dur.d (c.srv j).dur.d u v in
    ⊎_elim
    (λ (k : (c.srv i).dur.d ≤ (c.srv j).dur.d). inl (fit-pre (c.srv i).dur.hist (c.srv j).dur.hist (c.srv i).dur.d (c.srv j).dur.d u.fits k (f.left k)))
    (λ (k : (c.srv j).dur.d < (c.srv i).dur.d). inr (fit-pre (c.srv j).dur.hist (c.srv i).dur.hist (c.srv j).dur.d (c.srv i).dur.d v.fits (omega arith) (sym (f.right (omega arith)))))
    (le-or-lt (c.srv i).dur.d (c.srv j).dur.d)

-- AGREEMENT. After any events, from fresh servers, of the delivered sequences of any two servers one begins the other.
pub agreement : (z : Sizes) (depth : ℕ) (es : List Event) (i j : ℕ) → let c = play z depth start es in
    Begins (delivered_of (c.srv i)) (delivered_of (c.srv j)) ⊎ Begins (delivered_of (c.srv j)) (delivered_of (c.srv i))
agreement z depth es i j = inv-agreement z.n (play z depth start es) (runs-ok z depth es) i j
