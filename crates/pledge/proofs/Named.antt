-- The servers other than x in rising number, and the words of the events that name x.
use Prim.Native.Nat.{ℕ, zero, suc, ◌+◌, ◌-◌, ◌*◌, ◌≤◌, ◌<◌}
use mathlib.Core.Path.{◌≡◌, refl, sym, ap, ◌∙◌}
use mathlib.Core.Logic.{◌≢◌, ⊎_elim}
use mathlib.Core.Bool.{Bool, true, false, not}
use native.Mathlib.Omega.{arith}
use lib.Dec.{eqb, ltb}
use mathlib.Core.List.{List, [], ◌∷◌, ◌++◌}
use borrow.Rule.Slice.PartMut.{put_mid}
use lib.ListN.{length, length-map, take, replicate}
use borrow.Author.Tests.{eq-eqb, ne_eqb, lt-ltb, le-ltb, ltb-true}
use Rattle.base.specs.Choice.{pick, both, either}
use Rattle.base.specs.declared.Sizes.{Sizes}
use Rattle.base.proofs.Choice.{le-or-lt, eq-or, clash, both_yes, both_true, either_left, either-right, not_is}
use Rattle.rules.specs.Cluster.{O}
use Rattle.calm.specs.Calm.{below, among, Others, naming}
use Rattle.runs.specs.Runs.{named, event_at, events_from, within, events_of}
use Rattle.pledge.specs.Moves.{other_at, others_from, names, name_words}

-- ---- every server but x is one of them

pub other-low : (x j : ℕ) → j < x → other_at x j ≡ j
unfolding other_at pick
other-low x j l = rw (lt-ltb j x l)

pub other-high : (x j : ℕ) → x ≤ j → other_at x j ≡ j + 1
unfolding other_at pick
other-high x j l = rw (le-ltb j x l)

-- it is not x, and at most the next number
other_fits : (x j : ℕ) → (other_at x j ≢ x) × (other_at x j < j + 2)
other_fits x j = ⊎_elim
    (λ (l : x ≤ j). let e = other-high x j l in ((λ p. omega arith), omega arith))
    (λ (l : j < x). let e = other-low x j l in ((λ p. omega arith), omega arith))
    (le-or-lt x j)

-- the other of two
only : (a b : Bool) → a ≡ false → either a b ≡ true → b ≡ true
unfolding either
only true b p q = clash refl p
only false b p q = q

-- those that are listed
listed : (x i j m : ℕ) → among i (others_from x j m) ≡ true → (i ≢ x) × (i < j + m + 1)
unfolding others_from among
listed x i j zero e = clash e refl
listed x i j (suc m) e = ⊎_elim
    (λ (p : i ≡ other_at x j). let f = other_fits x j in let l = f.1 in ((λ q. f.0 (sym p ∙ q)), omega arith))
    (λ (p : i ≢ other_at x j). let r = listed x i (suc j) m (only (eqb i (other_at x j)) (among i (others_from x (suc j) m)) (ne_eqb i (other_at x j) p) e) in let l = r.1 in (r.0, omega arith))
    (eq-or i (other_at x j))

-- the one of number k is
lists : (x k j m : ℕ) → j ≤ k → k < j + m → among (other_at x k) (others_from x j m) ≡ true
unfolding others_from among
lists x k j zero a b = absurd (omega arith)
lists x k j (suc m) a b = ⊎_elim
    (λ (p : k ≡ j). either_left (eqb (other_at x k) (other_at x j)) (among (other_at x k) (others_from x (suc j) m)) (eq-eqb _ _ (ap (other_at x) p)))
    (λ (p : k ≢ j). either-right (eqb (other_at x k) (other_at x j)) (among (other_at x k) (others_from x (suc j) m)) (lists x k (suc j) m (omega arith) (omega arith)))
    (eq-or k j)

-- a server other than x has such a number
lists-all : (n x i : ℕ) → x < n → i < n → i ≢ x → among i (others_from x 0 (n - 1)) ≡ true
lists-all n x i a b d = ⊎_elim
    (λ (l : i ≤ x). ap (λ (f : ℕ). among f (others_from x 0 (n - 1))) (sym (other-low x i (omega arith))) ∙ lists x i 0 (n - 1) (omega arith) (omega arith))
    (λ (l : x < i).
    let e : i ≡ i - 1 + 1 = omega arith in
    ap (λ (f : ℕ). among f (others_from x 0 (n - 1))) (e ∙ sym (other-high x (i - 1) (omega arith))) ∙ lists x (i - 1) 0 (n - 1) (omega arith) (omega arith))
    (le-or-lt i x)

same_bool : (a b : Bool) → (a ≡ true → b ≡ true) → (b ≡ true → a ≡ true) → a ≡ b
same_bool true b f g = sym (f refl)
same_bool false true f g = g refl
same_bool false false f g = refl

not-eq : (i x : ℕ) → not (eqb i x) ≡ true → i ≢ x
not-eq i x e p = clash (eq-eqb i x p) (not_is (eqb i x) e)

pub all_others : (n x : ℕ) → x < n → Others (below n) x (others_from x 0 (n - 1))
all_others n x a i = same_bool (among i (others_from x 0 (n - 1))) (both (ltb i n) (not (eqb i x)))
    (λ e. let l = listed x i 0 (n - 1) e in let b = l.1 in both_yes (ltb i n) (not (eqb i x)) (lt-ltb i n (omega arith)) (ap not (ne_eqb i x l.0)))
    (λ e. let b = both_true (ltb i n) (not (eqb i x)) e in lists-all n x i a (ltb-true i n b.0) (not-eq i x b.1))

-- ---- there are n events

length-others : (x j m : ℕ) → length (others_from x j m) ≡ m
unfolding others_from
length-others x j zero = refl
length-others x j (suc m) = ap suc (length-others x (suc j) m)

pub length-names : (z : Sizes) (x : ℕ) → 1 ≤ z.n → length (names z x) ≡ z.n
unfolding naming
length-names z x l = let e = length-map (others_from x 0 (z.n - 1)) (λ (f : ℕ). O f x) in let m = length-others x 0 (z.n - 1) in omega arith

-- ---- and these are their words

from-three : (P : ℕ → Type 0) → P 3 → P 4 → P 5 → P 6 → P 7 → (n : ℕ) → 3 ≤ n → n ≤ 7 → P n
from-three P a b c d e zero l m = absurd (omega arith)
from-three P a b c d e (suc zero) l m = absurd (omega arith)
from-three P a b c d e (suc (suc zero)) l m = absurd (omega arith)
from-three P a b c d e (suc (suc (suc zero))) l m = a
from-three P a b c d e (suc (suc (suc (suc zero)))) l m = b
from-three P a b c d e (suc (suc (suc (suc (suc zero))))) l m = c
from-three P a b c d e (suc (suc (suc (suc (suc (suc zero)))))) l m = d
from-three P a b c d e (suc (suc (suc (suc (suc (suc (suc zero))))))) l m = e
from-three P a b c d e (suc (suc (suc (suc (suc (suc (suc (suc n)))))))) l m = absurd (omega arith)

below-six : (P : ℕ → Type 0) → P 0 → P 1 → P 2 → P 3 → P 4 → P 5 → (n : ℕ) → n < 6 → P n
below-six P a b c d e f zero l = a
below-six P a b c d e f (suc zero) l = b
below-six P a b c d e f (suc (suc zero)) l = c
below-six P a b c d e f (suc (suc (suc zero))) l = d
below-six P a b c d e f (suc (suc (suc (suc zero)))) l = e
below-six P a b c d e f (suc (suc (suc (suc (suc zero))))) l = f
below-six P a b c d e f (suc (suc (suc (suc (suc (suc n)))))) l = absurd (omega arith)

names-read : (z : Sizes) (x n : ℕ) → 3 ≤ n → n ≤ 7 → events_from z (name_words x) 0 (within n 7) ≡ naming x (others_from x 0 (n - 1))
unfolding events_from event_at named within pick naming others_from
names-read z x n a b = from-three (λ (m : ℕ). events_from z (name_words x) 0 (within m 7) ≡ naming x (others_from x 0 (m - 1))) refl refl refl refl refl n a b

pub names-are : (z : Sizes) (x : ℕ) → 3 ≤ z.n → z.n ≤ 7 → events_of z (name_words x) z.n ≡ names z x
names-are z x a b = names-read z x z.n a b

-- ---- the words as they are written

-- the first j + 1 events' words, and zeros
abbrev pub written : ℕ → ℕ → List ℕ
written x j = take (3 * j + 3) (name_words x) ++ replicate (18 - 3 * j) 0

-- the next event's words are written
pub write-next : (x j : ℕ) (ws new : List ℕ) → j < 6 → ws ≡ written x j → new ≡ 1 ∷ other_at x j ∷ x ∷ [] → put_mid (3 * j + 3) (3 * j + 3 + 3 - (3 * j + 3)) ws new ≡ written x (j + 1)
write-next x j ws new l e f = rw (e, f) (below-six (λ (i : ℕ). put_mid (3 * i + 3) (3 * i + 3 + 3 - (3 * i + 3)) (written x i) (1 ∷ other_at x i ∷ x ∷ []) ≡ written x (i + 1)) refl refl refl refl refl refl j l)
