-- Settling delivers waiting messages alone, and where it stops before its budget nothing waits.
use Prim.Native.Nat.{ℕ, zero, suc, ◌+◌, ◌*◌, ◌/◌, ◌%◌, ◌≤◌, ◌<◌}
use mathlib.Core.Path.{◌≡◌, refl, sym, ap, ◌∙◌, subst}
use mathlib.Core.Logic.{◌≢◌, ⊎_elim}
use mathlib.Core.Bool.{Bool, true, false}
use mathlib.Core.List.{List, [], ◌∷◌}
use native.Mathlib.Omega.{arith}
use native.Mathlib.Nat.{mul-add-div, div-eq_of_lt, div-add-mod}
use lib.Dec.{leb}
use lib.ListN.{length}
use borrow.Author.Tests.{leb-true, leb-false, lt-ltb}
use Rattle.base.specs.Choice.{pick}
use Rattle.base.specs.declared.Sizes.{Sizes}
use Rattle.base.proofs.Choice.{both_true, le-or-lt}
use Rattle.rules.specs.Message.{Msg}
use Rattle.rules.specs.Cluster.{Cluster, Event, event, after, play, is_done}
use Rattle.calm.specs.Calm.{below, all_done, Lively, end, then}
use Rattle.ring.proofs.Parts.{row_in}
use Rattle.runs.specs.Runs.{channel_at, lowest, easings, tally}
use Rattle.runs.proofs.Series.{channel-in, ease-more, ease-none}

-- ---- the lowest channel in which a message waits

abbrev Waits : Sizes → Cluster → ℕ → ℕ
Waits z c j = length (c.chan (j / z.n) (j % z.n))

-- in the one that is found a message waits
low-busy : (z : Sizes) (c : Cluster) (j k : ℕ) → lowest z c j k < j + k → 1 ≤ Waits z c (lowest z c j k)
unfolding lowest pick
low-busy z c j zero l = absurd (omega arith)
low-busy z c j (suc k) l = go (λ m. low-busy z c (suc j) k m) (leb 1 (Waits z c j)) refl l
  where
    go : (lowest z c (suc j) k < suc j + k → 1 ≤ Waits z c (lowest z c (suc j) k)) → (b : Bool) → leb 1 (Waits z c j) ≡ b
        → pick b j (lowest z c (suc j) k) < j + suc k → 1 ≤ Waits z c (pick b j (lowest z c (suc j) k))
    go rest true e m = leb-true 1 (Waits z c j) e
    go rest false e m = rest (omega arith)

-- in those before it none does
low-none : (z : Sizes) (c : Cluster) (j k : ℕ) → j + k ≤ lowest z c j k → (i : ℕ) → j ≤ i → i < j + k → Waits z c i ≡ 0
unfolding lowest pick
low-none z c j zero l i a b = absurd (omega arith)
low-none z c j (suc k) l i a b = go (λ m p q. low-none z c (suc j) k m i p q) (leb 1 (Waits z c j)) refl l
  where
    go : (suc j + k ≤ lowest z c (suc j) k → suc j ≤ i → i < suc j + k → Waits z c i ≡ 0) → (t : Bool) → leb 1 (Waits z c j) ≡ t
        → j + suc k ≤ pick t j (lowest z c (suc j) k) → Waits z c i ≡ 0
    go rest true e m = absurd (omega arith)
    go rest false e m = ⊎_elim
        (λ (p : i ≤ j). let q : i ≡ j = omega arith in let h = leb-false 1 (Waits z c j) e in rw q (omega arith))
        (λ (p : j < i). rest (omega arith) p (omega arith))
        (le-or-lt i j)

some_of : (n j : ℕ) → j < n * n → 1 ≤ n
some_of zero j l = absurd (omega arith)
some_of (suc n) j l = omega arith

full : (xs : List Msg) → 1 ≤ length xs → xs ≢ []
full xs l e = let q : length xs ≡ 0 = ap length e in omega arith

none : (xs : List Msg) → length xs ≡ 0 → xs ≡ []
none [] e = refl
none (x ∷ xs) e = absurd (omega arith)

-- ---- settling: es = easings z depth budget c

-- it delivers waiting messages between servers, and does no other event
pub eased-lively : (z : Sizes) (depth budget : ℕ) (c : Cluster) → Lively z depth (below z.n) c (easings z depth budget c)
unfolding easings
eased-lively z depth zero c = end
eased-lively z depth (suc b) c = ⊎_elim
    (λ (p : z.n * z.n ≤ lowest z c 0 (z.n * z.n)).
    subst (Lively z depth (below z.n) c) (sym (ease-none z depth (suc b) (lowest z c 0 (z.n * z.n)) c refl p)) end)
    (λ (p : lowest z c 0 (z.n * z.n) < z.n * z.n).
    let j = lowest z c 0 (z.n * z.n) in
    let i = channel-in z (lowest z c 0 (z.n * z.n)) (some_of z.n (lowest z c 0 (z.n * z.n)) p) p in
    subst (Lively z depth (below z.n) c) (sym (ease-more z depth b j c refl p))
    (then (lt-ltb _ _ i.sender) (lt-ltb _ _ i.receiver) (full (c.chan (j / z.n) (j % z.n)) (low-busy z c 0 (z.n * z.n) (omega arith)))
    (eased-lively z depth b (after (event z depth c (channel_at z j))))))
    (le-or-lt (z.n * z.n) (lowest z c 0 (z.n * z.n)))

-- the number of a channel names it
row_of : (n f t : ℕ) → t < n → (n * f + t) / n ≡ f
row_of n f t l =
    let a : 0 < n = omega arith in
    mul-add-div a f t ∙ (let e : t / n ≡ 0 = div-eq_of_lt l in omega arith)

place_of : (n f t : ℕ) → t < n → (n * f + t) % n ≡ t
place_of n f t l =
    let e = div-add-mod (n * f + t) n in
    let r : n * ((n * f + t) / n) ≡ n * f = ap (λ (x : ℕ). n * x) (row_of n f t l) in
    omega arith

-- none waits in any channel
silent : (z : Sizes) (c : Cluster) → z.n * z.n ≤ lowest z c 0 (z.n * z.n) → (f t : ℕ) → f < z.n → t < z.n → c.chan f t ≡ []
silent z c p f t a b =
    let l = row_in z.n f t z.n b a in
    let e : length (c.chan ((z.n * f + t) / z.n) ((z.n * f + t) % z.n)) ≡ 0 = low-none z c 0 (z.n * z.n) (omega arith) (z.n * f + t) (omega arith) (omega arith) in
    none (c.chan f t) (ap (λ (x : ℕ). length (c.chan x t)) (sym (row_of z.n f t b)) ∙ ap (λ (x : ℕ). length (c.chan ((z.n * f + t) / z.n) x)) (sym (place_of z.n f t b)) ∙ e)

-- where it stops before the budget is spent, nothing waits
pub eased-stops : (z : Sizes) (depth budget : ℕ) (c : Cluster) → length (easings z depth budget c) < budget
    → (f t : ℕ) → f < z.n → t < z.n → (play z depth c (easings z depth budget c)).chan f t ≡ []
unfolding play
eased-stops z depth zero c l f t a b = absurd (omega arith)
eased-stops z depth (suc k) c l f t a b = ⊎_elim
    (λ (p : z.n * z.n ≤ lowest z c 0 (z.n * z.n)).
    subst (λ (es : List Event). (play z depth c es).chan f t ≡ []) (sym (ease-none z depth (suc k) (lowest z c 0 (z.n * z.n)) c refl p)) (silent z c p f t a b))
    (λ (p : lowest z c 0 (z.n * z.n) < z.n * z.n).
    let j = lowest z c 0 (z.n * z.n) in
    let d = after (event z depth c (channel_at z j)) in
    let q = ease-more z depth k j c refl p in
    let m : length (easings z depth (suc k) c) ≡ suc (length (easings z depth k d)) = ap length q in
    subst (λ (es : List Event). (play z depth c es).chan f t ≡ []) (sym q) (eased-stops z depth k d (omega arith) f t a b))
    (le-or-lt (z.n * z.n) (lowest z c 0 (z.n * z.n)))

-- where none of some events is refused, they are all counted
pub all-counted : (z : Sizes) (depth : ℕ) (c : Cluster) (es : List Event) → all_done z depth c es ≡ true → tally z depth c es ≡ length es
unfolding all_done tally pick
all-counted z depth c [] e = refl
all-counted z depth c (x ∷ es) e =
    let b = both_true (is_done (event z depth c x)) _ e in
    let r = all-counted z depth (after (event z depth c x)) es b.1 in
    rw b.0 (omega arith)

pub eased-counts : (z : Sizes) (depth budget : ℕ) (c : Cluster) → all_done z depth c (easings z depth budget c) ≡ true
    → tally z depth c (easings z depth budget c) ≡ length (easings z depth budget c)
eased-counts z depth budget c e = all-counted z depth c (easings z depth budget c) e
