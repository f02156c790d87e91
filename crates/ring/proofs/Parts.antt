-- Parts of words, and tables of what a function gives.
use Prim.Native.Nat.{ℕ, zero, suc, ◌+◌, ◌-◌, ◌*◌, ◌≤◌, ◌<◌}
use mathlib.Core.Path.{◌≡◌, refl, sym, ap, ◌∙◌}
use mathlib.Core.Logic.{◌≢◌, ⊎_elim}
use mathlib.Core.Bool.{Bool, true, false}
use mathlib.Core.List.{List, [], ◌∷◌, ◌++◌, append_assoc}
use native.Mathlib.Omega.{arith}
use native.Mathlib.Nat.{mul-le-mul_left, mul-suc, zero-add}
use lib.ListN.{length, take, drop, length-append}
use lib.Seq.{length-take-le, take_at, drop_at, take-add, drop-drop, take-take, take-append-le}
use Rattle.std.specs.Bool.{MatchBool}
use Rattle.std.specs.List.{range_with_len, AllWithin, HoldsAt}
use Rattle.std.proofs.lemmas.List.FromFn.{length-range_with_len, get_or-range_with_len}
use Rattle.base.specs.Choice.{all_below}
use Rattle.base.proofs.Choice.{eq-or, le-or-lt, case, clash, all-at, all_of}
use Rattle.rules.specs.Words.{tab, put}
use Rattle.rules.proofs.Words.{length-put}

-- ---- tables

module _ {A : Type 0} where
  pub tab-same : (n : ℕ) (f g : ℕ → A) → ((i : ℕ) → i < n → f i ≡ g i) → tab n f ≡ tab n g
  unfolding tab
  tab-same zero f g e = refl
  tab-same (suc n) f g e = rw (tab-same n f g (λ i p. e i (omega arith)), e n (omega arith))

  pub tab-cons : (n : ℕ) (f : ℕ → A) → tab (suc n) f ≡ f 0 ∷ tab n (λ i. f (suc i))
  unfolding tab
  tab-cons zero f = refl
  tab-cons (suc n) f = rw (tab-cons n f)

  pub tab-snoc : (n : ℕ) (f : ℕ → A) → tab (n + 1) f ≡ tab n f ++ (f n ∷ [])
  unfolding tab
  tab-snoc n f = let e : n + 1 ≡ suc n = omega arith in rw e

-- what `(0..n).all(..)` tells, where its test is f
pub all-in-range : (n : ℕ) (f : ℕ → Bool) (b : Bool) → MatchBool b (AllWithin (λ t. f t ≡ true) (range_with_len 0 n) 0 (length (range_with_len 0 n)))
    ((k : ℕ) × (k < length (range_with_len 0 n)) × HoldsAt (λ t. f t ≡ false) (range_with_len 0 n) k) → b ≡ all_below n f
all-in-range n f true m = sym (all_of n f (λ t l. rw (get_or-range_with_len 0 n t 0 l, zero-add t) at (m t 0 (omega arith) (rw (length-range_with_len 0 n) l))))
all-in-range n f false (k, l, h) =
    let i : k < n = rw (length-range_with_len 0 n) at l in
    case (all_below n f)
    (λ (g : all_below n f ≡ true). clash (all-at n f g k i) (rw (get_or-range_with_len 0 n k 0 i, zero-add k) at (h 0)))
    (λ (g : all_below n f ≡ false). sym g)

-- ---- parts of words after others were put in

drop-take : (a k : ℕ) (l : List ℕ) → a ≤ length l → drop a (take (a + k) l) ≡ take k (drop a l)
drop-take a k l h = ap (drop a) (take-add a k l) ∙ drop_at (take a l) (take k (drop a l)) a (length-take-le a l h)

take_put : (q ws : List ℕ) (b k : ℕ) → k ≤ b → b ≤ length q → take k (put q b ws) ≡ take k q
unfolding put
take_put q ws b k h l =
    ap (take k) (append_assoc (take b q) ws (drop (b + length ws) q))
    ∙ take-append-le k (take b q) (ws ++ drop (b + length ws) q) (omega (arith, length-take-le b q l))
    ∙ take-take k b q h

drop-put : (q ws : List ℕ) (b : ℕ) → b ≤ length q → drop (b + length ws) (put q b ws) ≡ drop (b + length ws) q
unfolding put
drop-put q ws b l = drop_at (take b q ++ ws) (drop (b + length ws) q) (b + length ws) (length-append (take b q) ws ∙ omega (arith, length-take-le b q l))

-- a part before them
pub part-before : (q ws : List ℕ) (b a k : ℕ) → a + k ≤ b → b + length ws ≤ length q → take k (drop a (put q b ws)) ≡ take k (drop a q)
part-before q ws b a k h l =
    let m : length (put q b ws) ≡ length q = len in
    sym (drop-take a k (put q b ws) (omega arith)) ∙ ap (drop a) (take_put q ws b (a + k) h (omega arith)) ∙ drop-take a k q (omega arith)
  where
    len : length (put q b ws) ≡ length q
    len = length-put q ws b l

-- a part after them
pub part-after : (q ws : List ℕ) (b a : ℕ) → b + length ws ≤ a → b ≤ length q → drop a (put q b ws) ≡ drop a q
part-after q ws b a h l =
    let e : b + length ws + (a - (b + length ws)) ≡ a = omega arith in
    ap (λ (i : ℕ). drop i (put q b ws)) (sym e) ∙ sym (drop-drop (a - (b + length ws)) (b + length ws) (put q b ws))
    ∙ ap (drop (a - (b + length ws))) (drop-put q ws b l)
    ∙ drop-drop (a - (b + length ws)) (b + length ws) q ∙ ap (λ (i : ℕ). drop i q) e

-- they themselves
pub part_same : (q ws : List ℕ) (b k : ℕ) → length ws ≡ k → b ≤ length q → take k (drop b (put q b ws)) ≡ ws
unfolding put
part_same q ws b k e l =
    ap (λ (x : List ℕ). take k (drop b x)) (append_assoc (take b q) ws (drop (b + length ws) q))
    ∙ ap (take k) (drop_at (take b q) (ws ++ drop (b + length ws) q) b (length-take-le b q l))
    ∙ take_at ws (drop (b + length ws) q) k e

-- ---- places in rows of n

pub row_below : (n f g : ℕ) → f < g → n * f + n ≤ n * g
row_below n f g h = let e : n * suc f ≤ n * g = mul-le-mul_left n h in omega (arith, mul-suc n f)

pub row_in : (n f t m : ℕ) → t < n → f < m → n * f + t < n * m
row_in n f t m h k = omega (arith, row_below n f m k)

-- places in distinct rows are distinct
pub row_apart : (n f t g s : ℕ) → t < n → s < n → f ≢ g → n * f + t ≢ n * g + s
row_apart n f t g s h k d e = ⊎_elim
    (λ (p : g ≤ f). let r = row_below n g f (omega arith) in omega arith)
    (λ (p : f < g). let r = row_below n f g p in omega arith)
    (le-or-lt g f)

pub row-eq : (n f t g s : ℕ) → t < n → s < n → n * f + t ≡ n * g + s → (f ≡ g) × (t ≡ s)
row-eq n f t g s h k e = ⊎_elim
    (λ (p : f ≡ g). (p, let j : n * f ≡ n * g = ap (λ (i : ℕ). n * i) p in omega arith))
    (λ (d : f ≢ g). absurd (row_apart n f t g s h k d e))
    (eq-or f g)
