-- What the library answers of slices, in the words of the contracts; a turn of each loop.
use Prim.Native.Nat.{ℕ, zero, suc, ◌+◌, ◌-◌, ◌*◌, ◌≤◌, ◌<◌}
use mathlib.Core.Path.{◌≡◌, refl, sym, ap, subst, ◌∙◌}
use mathlib.Core.Bool.{Bool, true, false, ◌&&◌}
use mathlib.Core.List.{List, [], ◌∷◌, ◌++◌, append-nil}
use native.Mathlib.Omega.{arith}
use native.Mathlib.Numerals.{add-one}
use lib.Dec.{eqb}
use lib.ListN.{length, take, drop, get_or, set, replicate, drop_of_length-le, length-append, length-drop}
use lib.Pointwise.{pointwise}
use lib.Seq.{take-suc, take-suc-set, drop-drop, get_or-drop, take-append_seam, length-take-le}
use borrow.Rule.Slice.PartMut.{mid_of, put_mid}
use Rattle.base.specs.Choice.{both, pick}
use Rattle.base.specs.Quorum.{Set, weight, size}
use Rattle.base.specs.Transaction.{same_hist, same_txn, rising, follows}
use Rattle.base.specs.declared.Txn.{Txn}
use Rattle.rules.proofs.Words.{last-at}
use Rattle.rules.specs.Words.{txns, zeros, all_zero}
use Rattle.std.specs.List.{list_all, range_with_len}

-- ---- slices compared, cleared and copied

and-both : (a b : Bool) → (a && b) ≡ both a b
unfolding both
and-both true b = refl
and-both false b = refl

and_two : (a b c : Bool) → (a && (b && c)) ≡ both (both a b) c
unfolding both
and_two true b c = and-both b c
and_two false b c = refl

pub same_words : (d : ℕ) (a b : List ℕ) → 2 * d ≤ length a → 2 * d ≤ length b → pointwise eqb (take (2 * d) a) (take (2 * d) b) ≡ same_hist (txns d a) (txns d b)
unfolding same_hist same_txn txns
same_words zero a b h k = refl
same_words (suc d) [] b h k = absurd (omega arith)
same_words (suc d) (x ∷ []) b h k = absurd (omega arith)
same_words (suc d) (x ∷ (u ∷ a)) [] h k = absurd (omega arith)
same_words (suc d) (x ∷ (u ∷ a)) (y ∷ []) h k = absurd (omega arith)
same_words (suc d) (x ∷ (u ∷ a)) (y ∷ (v ∷ b)) h k =
    let e : 2 * suc d ≡ suc (suc (2 * d)) = omega arith in
    rw (e, same_words d a b (omega arith) (omega arith)) (and_two (eqb x y) (eqb u v) (same_hist (txns d a) (txns d b)))

pub zero_words : (w : List ℕ) → list_all (λ x. eqb x 0) w ≡ all_zero w
unfolding all_zero
zero_words [] = refl
zero_words (x ∷ w) = rw (zero_words w) (and-both (eqb x 0) (all_zero w))

pub zeros_replicate : (n : ℕ) → zeros n ≡ replicate n 0
unfolding zeros
zeros_replicate zero = refl
zeros_replicate (suc n) = ap (λ (z : List ℕ). 0 ∷ z) (zeros_replicate n)

-- what `fill` of zero leaves from word n on
pub filled : (d r : List ℕ) (n : ℕ) → n ≤ length d → r ≡ replicate (length (mid_of n (length d - n) d)) 0 → put_mid n (length d - n) d r ≡ take n d ++ zeros (length d - n)
filled d r n h e =
    let k : length (take (length d - n) (drop n d)) ≡ length d - n = length-take-le (length d - n) (drop n d) (omega (arith, length-drop n d)) in
    let o : drop (length d - n) (drop n d) ≡ [] = drop_of_length-le (drop n d) (omega (arith, length-drop n d)) in
    rw (e, k, o, append-nil, zeros_replicate (length d - n))

-- one word more of s copied over q
pub copy-on : (q s : List ℕ) (i : ℕ) → i < length q → i < length s → take i q ≡ take i s → take (i + 1) (set q i (get_or s i 0)) ≡ take (i + 1) s
copy-on q s i l m e = rw (add-one i, take-suc-set q i (get_or s i 0) l, take-suc s i 0 m, e)

-- the first n words copied over d, and then cleared past them
pub copied : (d s r w : List ℕ) (n : ℕ) → n ≤ length d → n ≤ length s → r ≡ take n s → w ≡ take n (r ++ drop n d) ++ zeros (length (r ++ drop n d) - n) → w ≡ take n s ++ zeros (length d - n)
copied d s r w n h k e f =
    let l : length r ≡ n = ap length e ∙ length-take-le n s k in
    let t : take n (r ++ drop n d) ≡ r = subst (λ (i : ℕ). take i (r ++ drop n d) ≡ r) l (take-append_seam r (drop n d)) in
    let m : length (r ++ drop n d) ≡ length d = length-append r (drop n d) ∙ omega (arith, l, length-drop n d) in
    f ∙ rw (t, m, e)

-- ---- a turn of a loop over transactions

abbrev pub txn_of : ℕ → ℕ → Txn
txn_of x y = record { id = record { 0 = x }; val = y }

pub txns-step : (n i : ℕ) (w : List ℕ) → i < n → txns (n - i) (drop (2 * i) w) ≡ txn_of (get_or w (2 * i) 0) (get_or w (2 * i + 1) 0) ∷ txns (n - (i + 1)) (drop (2 * (i + 1)) w)
unfolding txns
txns-step n i w l =
    let e : n - i ≡ suc (n - (i + 1)) = omega arith in
    let f : 2 * i + 0 ≡ 2 * i = omega arith in
    let g : 2 * i + 2 ≡ 2 * (i + 1) = omega arith in
    rw (e, get_or-drop (2 * i) w 0 0, get_or-drop (2 * i) w 1 0, f, drop-drop 2 (2 * i) w, g)

pub txns-end : (n i : ℕ) (w : List ℕ) → n ≤ i → txns (n - i) (drop (2 * i) w) ≡ []
unfolding txns
txns-end n i w l = let e : n - i ≡ 0 = omega arith in rw e

pub txns-start : (n : ℕ) (w : List ℕ) → txns (n - 0) (drop (2 * 0) w) ≡ txns n w
txns-start n w = let e : n - 0 ≡ n = omega arith in rw e

unfoldable pub rise_rest : ℕ → List ℕ → ℕ → ℕ → ℕ → Bool
rise_rest a w n i last = rising a last (txns (n - i) (drop (2 * i) w))

pub rise_start : (a : ℕ) (w : List ℕ) (n : ℕ) → rise_rest a w n 0 0 ≡ rising a 0 (txns n w)
unfolding rise_rest
rise_start a w n = rw (txns-start n w)

pub rise_end : (a : ℕ) (w : List ℕ) (n i last : ℕ) → n ≤ i → rise_rest a w n i last ≡ true
unfolding rise_rest rising
rise_end a w n i last l = rw (txns-end n i w l)

pub rise_step : (a : ℕ) (w : List ℕ) (n i last : ℕ) → i < n → rise_rest a w n i last ≡ both (follows a last (get_or w (2 * i) 0)) (rise_rest a w n (i + 1) (get_or w (2 * i) 0))
unfolding rise_rest rising
rise_step a w n i last l = rw (txns-step n i w l)

pub ruleset turns = (rise_start, rise_end, rise_step)

-- ---- members counted

pub size_none : (q : Set) → size q 0 ≡ 0
unfolding weight
size_none q = refl

pub size_more : (q : Set) (i : ℕ) → size q (i + 1) ≡ size q i + pick (q i) 1 0
unfolding weight
size_more q i = rw add-one

pub ruleset counted = (size_none, size_more)

pub ruleset last = (last-at)

-- the same, transaction after transaction
abbrev pub same_at : List ℕ → List ℕ → ℕ → Bool
same_at a b j = eqb (get_or a (2 * j) 0) (get_or b (2 * j) 0) && eqb (get_or a (2 * j + 1) 0) (get_or b (2 * j + 1) 0)

pub each_same : (d i : ℕ) (a b : List ℕ) → list_all (same_at a b) (range_with_len i d) ≡ same_hist (txns d (drop (2 * i) a)) (txns d (drop (2 * i) b))
unfolding same_hist same_txn txns
each_same zero i a b = refl
each_same (suc d) i a b =
    let e : i + suc d - i ≡ suc d = omega arith in
    let f : i + suc d - (i + 1) ≡ d = omega arith in
    let s : (w : List ℕ) → txns (suc d) (drop (2 * i) w) ≡ txn_of (get_or w (2 * i) 0) (get_or w (2 * i + 1) 0) ∷ txns d (drop (2 * (i + 1)) w) = λ w. rw (e, f) at (txns-step (i + suc d) i w (omega arith)) in
    let x = eqb (get_or a (2 * i) 0) (get_or b (2 * i) 0) in
    let y = eqb (get_or a (2 * i + 1) 0) (get_or b (2 * i + 1) 0) in
    let r = same_hist (txns d (drop (2 * (i + 1)) a)) (txns d (drop (2 * (i + 1)) b)) in
    (ap (λ (z : Bool). (x && y) && z) (each_same d (i + 1) a b) ∙ (and-both (x && y) r ∙ ap (λ (z : Bool). both z r) (and-both x y)))
    ∙ sym (ap (λ (h : List Txn). same_hist h (txns (suc d) (drop (2 * i) b))) (s a) ∙ ap (λ (h : List Txn). same_hist (txn_of (get_or a (2 * i) 0) (get_or a (2 * i + 1) 0) ∷ txns d (drop (2 * (i + 1)) a)) h) (s b))
