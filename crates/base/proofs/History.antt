-- Histories: "begins with", "agree up to", rising identifiers; identifiers as numbers and as pairs.
use Prim.Native.Nat.{ℕ, zero, suc, ◌≤◌, ◌<◌}
use mathlib.Core.Path.{◌≡◌, refl, sym, ap, ◌∙◌}
use mathlib.Core.Logic.{⊎_elim}
use mathlib.Core.Bool.{true}
use mathlib.Core.List.{[], ◌∷◌, ◌++◌}
use native.Mathlib.Omega.{arith}
use lib.Dec.{eqb}
use lib.ListN.{length, take, get_or, length-take, length-append}
use lib.Seq.{take-take, get_or-take, take-length, take-append-le, get_or-append_seam, length-take-le, take-suc}
use borrow.Author.Tests.{eqb-true, eq-eqb}
use Rattle.base.specs.Choice.{both}
use Rattle.base.specs.Transaction.{Hist, none, ident, epoch_of, counter_of, id_at, last_id, same_txn, same_hist, Begins}
use Rattle.base.specs.declared.Txn.{Txn}
use Rattle.base.proofs.Choice.{le-or-lt, by_contra, both_true, both_yes, clash}

-- ---- identifiers

pub ident-epoch : (e c : ℕ) → c < 4294967296 → epoch_of (ident e c) ≡ e
ident-epoch e c h = omega arith

pub ident-counter : (e c : ℕ) → c < 4294967296 → counter_of (ident e c) ≡ c
ident-counter e c h = omega arith

pub ident-back : (id : ℕ) → ident (epoch_of id) (counter_of id) ≡ id
ident-back id = omega arith

-- identifiers are ordered as numbers just as they are as pairs, epoch first
pub pair-less : (x y : ℕ) → x < y → (epoch_of x ≤ epoch_of y) × (epoch_of y ≤ epoch_of x → counter_of x < counter_of y)
pair-less x y h = (omega arith, λ k. omega arith)

pub less-pair : (x y : ℕ) → epoch_of x ≤ epoch_of y → (epoch_of y ≤ epoch_of x → counter_of x < counter_of y) → x < y
less-pair x y h f = ⊎_elim (λ (k : epoch_of y ≤ epoch_of x). let c = f k in omega arith) (λ (k : epoch_of x < epoch_of y). omega arith) (le-or-lt (epoch_of y) (epoch_of x))

-- ---- begins with

pub pre-len : (h l : Hist) → Begins h l → length h ≤ length l
pre-len h l p = omega (arith, ap length p, length-take (length h) l)

pub pre-refl : (l : Hist) → Begins l l
pre-refl l = take-length l

-- two histories that are equal up to j are equal up to any i ≤ j
pub agree-low : (i j : ℕ) (x y : Hist) → i ≤ j → take j x ≡ take j y → take i x ≡ take i y
agree-low i j x y h p = sym (take-take i j x h) ∙ ap (take i) p ∙ take-take i j y h

pub pre-take : (h l : Hist) (i : ℕ) → Begins h l → i ≤ length h → take i h ≡ take i l
pre-take h l i p q = ap (take i) (sym p) ∙ take-take i (length h) l q

pub take-pre : (l : Hist) (i : ℕ) → i ≤ length l → Begins (take i l) l
take-pre l i q = ap (λ (k : ℕ). take k l) (length-take-le i l q)

pub pre-trans : (a b c : Hist) → Begins a b → Begins b c → Begins a c
pre-trans a b c p q = sym (pre-take b c (length a) q (pre-len a b p)) ∙ p

pub length-snoc : (h : Hist) (t : Txn) → length (h ++ (t ∷ [])) ≡ suc (length h)
length-snoc h t = omega (arith, length-append h (t ∷ []))

-- one more transaction of l
pub pre-snoc : (h l : Hist) (t : Txn) → Begins h l → length h < length l → get_or l (length h) none ≡ t → Begins (h ++ (t ∷ [])) l
pre-snoc h l t p k q = rw (length-snoc h t, take-suc l (length h) none k, p, q)

-- ---- identifiers at places

pub id-agree : (i : ℕ) (x y : Hist) → take i x ≡ take i y → id_at x i ≡ id_at y i
unfolding id_at
id-agree zero x y p = refl
id-agree (suc k) x y p =
    let q : get_or x k none ≡ get_or y k none = sym (get_or-take (suc k) x k none (omega arith)) ∙ ap (λ (l : Hist). get_or l k none) p ∙ get_or-take (suc k) y k none (omega arith) in
    ap (λ (t : Txn). t.id.0) q

abbrev pub Rising : Hist → Type 0
Rising l = (i j : ℕ) → i < j → j ≤ length l → id_at l i < id_at l j

pub pre-last : (h l : Hist) → Begins h l → last_id h ≡ id_at l (length h)
pre-last h l p = id-agree (length h) h l (take-length h ∙ sym p)

-- of two beginnings of one rising history, the one whose last identifier is not less is not shorter
pub last-longer : (l h k : Hist) → Rising l → Begins h l → Begins k l → last_id h ≤ last_id k → length h ≤ length k
last-longer l h k r ph pk q = by_contra (length h) (length k)
    (λ c. omega (arith, r (length k) (length h) c (pre-len h l ph), pre-last h l ph, pre-last k l pk))

-- the identifiers of a history with one more
pub id-old : (l : Hist) (t : Txn) (k : ℕ) → k ≤ length l → id_at (l ++ (t ∷ [])) k ≡ id_at l k
id-old l t k m = id-agree k (l ++ (t ∷ [])) l (take-append-le k l (t ∷ []) m)

pub id-new : (l : Hist) (t : Txn) → id_at (l ++ (t ∷ [])) (suc (length l)) ≡ t.id.0
unfolding id_at
id-new l t = ap (λ (x : Txn). x.id.0) (get_or-append_seam l t [] none)

pub last_snoc : (l : Hist) (t : Txn) → last_id (l ++ (t ∷ [])) ≡ t.id.0
last_snoc l t = ap (id_at (l ++ (t ∷ []))) (length-snoc l t) ∙ id-new l t

pub rising_snoc : (l : Hist) (t : Txn) → Rising l → last_id l < t.id.0 → Rising (l ++ (t ∷ []))
rising_snoc l t r k i j lt le = ⊎_elim
    (λ (m : j ≤ length l). omega (arith, r i j lt m, id-old l t i (omega arith), id-old l t j m))
    (λ (m : length l < j).
    let q : j ≡ suc (length l) = omega (arith, length-snoc l t) in
    rw q (omega (arith, id-new l t, id-old l t i (omega arith), below i (omega arith))))
    (le-or-lt j (length l))
  where
    below : (n : ℕ) → n ≤ length l → id_at l n ≤ last_id l
    below n m = ⊎_elim (λ (x : length l ≤ n). let q : n ≡ length l = omega arith in rw q (omega arith)) (λ (x : n < length l). omega (arith, r n (length l) x (omega arith))) (le-or-lt (length l) n)

pub rising-pre : (h l : Hist) → Begins h l → Rising l → Rising h
rising-pre h l p r i j lt le = omega (arith, r i j lt (omega (arith, pre-len h l p)), same i (omega arith), same j le)
  where
    same : (n : ℕ) → n ≤ length h → id_at h n ≡ id_at l n
    same n m = id-agree n h l (pre-take h l n p m)

-- a bound on every identifier
pub ids-snoc : (l : Hist) (t : Txn) (b : ℕ) → ((k : ℕ) → k ≤ length l → id_at l k < b) → t.id.0 < b → (k : ℕ) → k ≤ length (l ++ (t ∷ [])) → id_at (l ++ (t ∷ [])) k < b
ids-snoc l t b f m k le = ⊎_elim
    (λ (z : k ≤ length l). omega (arith, f k z, id-old l t k z))
    (λ (z : length l < k). let q : k ≡ suc (length l) = omega (arith, length-snoc l t) in rw q (omega (arith, id-new l t)))
    (le-or-lt k (length l))

-- ---- comparing

pub same-txn : (x y : Txn) → same_txn x y ≡ true → x ≡ y
unfolding same_txn
same-txn x y e =
    let r = both_true (eqb x.id.0 y.id.0) (eqb x.val y.val) e in
    λ k. record { id = record { 0 = eqb-true x.id.0 y.id.0 r.0 k }; val = eqb-true x.val y.val r.1 k }

pub same-hist : (x y : Hist) → same_hist x y ≡ true → x ≡ y
unfolding same_hist
same-hist [] [] p = refl
same-hist [] (y ∷ ys) p = clash p refl
same-hist (x ∷ xs) [] p = clash p refl
same-hist (x ∷ xs) (y ∷ ys) p =
    let q = both_true (same_txn x y) (same_hist xs ys) p in
    let e : x ≡ y = same-txn x y q.0 in
    let t : xs ≡ ys = same-hist xs ys q.1 in
    cc

pub hist-same : (x : Hist) → same_hist x x ≡ true
unfolding same_hist same_txn
hist-same [] = refl
hist-same (x ∷ xs) = both_yes (both (eqb x.id.0 x.id.0) (eqb x.val x.val)) (same_hist xs xs)
    (both_yes (eqb x.id.0 x.id.0) (eqb x.val x.val) (eq-eqb x.id.0 x.id.0 refl) (eq-eqb x.val x.val refl)) (hist-same xs)
