-- The tests of the rules as code has them, the seven servers as the library walks them, and the laws of each clause.
use Prim.Native.Nat.{ℕ, zero, suc, ◌+◌, ◌-◌, ◌≤◌, ◌<◌}
use mathlib.Core.Path.{◌≡◌, refl, sym, ap, ◌∙◌}
use mathlib.Core.Logic.{⊎_elim}
use mathlib.Core.Bool.{Bool, true, false, not, ◌&&◌, ◌||◌}
use mathlib.Core.List.{List, [], ◌∷◌}
use lib.ListN.{length, take, drop, length-drop}
use lib.Seq.{take_all}
use Rattle.std.specs.List.{list_all, list_any, zip, enumerate_from}
use native.Mathlib.Omega.{arith}
use lib.Dec.{eqb, leb, ltb}
use borrow.Author.Tests.{le-leb, lt-ltb, le-ltb}
use Rattle.base.specs.Choice.{both, either, all_below}
use Rattle.base.specs.Transaction.{Hist, rising, good_hist}
use Rattle.base.specs.declared.Sizes.{Sizes}
use Rattle.base.proofs.Choice.{le-or-lt, either-right}
use Rattle.rules.specs.declared.State.{State}
use Rattle.rules.specs.Server.{good_sizes, during, empty, inside, good_epochs, good_counts}
use Rattle.rules.specs.Words.{has, num, txns, good_words}
use Rattle.rules.proofs.Words.{length-txns, words-good}
use Rattle.rules.proofs.WellFormed.{sized}
use Rattle.sound.specs.Parts.{dur_of, vol_of, accepted, promised, count_fits, Lent}

-- ---- the tests of the rules as tests of code

pub both_is : (a b : Bool) → both a b ≡ (a && b)
unfolding both
both_is true b = refl
both_is false b = refl

pub either_is : (a b : Bool) → either a b ≡ (a || b)
unfolding either
either_is true b = refl
either_is false b = refl

pub during_is : (lo hi stage : ℕ) → during lo hi stage ≡ (leb lo stage && leb stage hi)
unfolding during
during_is lo hi stage = both_is (leb lo stage) (leb stage hi)

pub ruleset plain = (both_is, either_is, during_is)

pub epochs : (st p a d : ℕ) (h : Hist) → good_epochs st (dur_of p a d h) ≡ both (accepted st p a) (promised st p)
unfolding good_epochs accepted promised
epochs st p a d h = refl

-- ---- the seven, counted down by the rules and up by the library

both-swap : (a b c : Bool) → both a (both b c) ≡ both b (both a c)
unfolding both
both-swap true true c = refl
both-swap true false c = refl
both-swap false true c = refl
both-swap false false c = refl

all-front : (n : ℕ) (f : ℕ → Bool) → all_below (suc n) f ≡ both (f 0) (all_below n (λ s. f (suc s)))
unfolding all_below
all-front zero f = refl
all-front (suc n) f = rw (all-front n f) (both-swap (f (suc n)) (f 0) (all_below n (λ s. f (suc s))))

all-same : (n : ℕ) (f g : ℕ → Bool) → ((s : ℕ) → f s ≡ g s) → all_below n f ≡ all_below n g
unfolding all_below
all-same zero f g h = refl
all-same (suc n) f g h = rw (h n, all-same n f g h)

either_none : (a : Bool) → a ≡ either a false
unfolding either
either_none true = refl
either_none false = refl

ltb_suc : (a b : ℕ) → ltb (suc a) (suc b) ≡ ltb a b
ltb_suc a b =
    ⊎_elim (λ (h : b ≤ a). le-ltb (suc a) (suc b) (omega arith) ∙ sym (le-ltb a b h)) (λ (h : a < b). lt-ltb (suc a) (suc b) (omega arith) ∙ sym (lt-ltb a b h)) (le-or-lt b a)

module _ (e : Bool → Bool) (yes : e true ≡ true) (no : e false ≡ false) where
  none-of : (q : List Bool) → not (list_any e q) ≡ all_below (length q) (λ s. not (has q s))
  unfolding all_below both
  none-of [] = refl
  none-of (true ∷ q) = rw (yes, all-front (length q) (λ s. not (has (true ∷ q) s)))
  none-of (false ∷ q) = rw (no, all-front (length q) (λ s. not (has (false ∷ q) s))) (none-of q)

  none-past : (n : ℕ) (q : List Bool) → not (list_any e (drop n q)) ≡ all_below (length q) (λ s. either (not (has q s)) (ltb s n))
  unfolding all_below both
  none-past zero q = none-of q ∙ all-same (length q) _ _ (λ s. rw (le-ltb s 0 (omega arith)) (either_none (not (has q s))))
  none-past (suc n) [] = refl
  none-past (suc n) (x ∷ q) =
      rw (all-front (length q) (λ s. either (not (has (x ∷ q) s)) (ltb s (suc n))), either-right (not x) (ltb 0 (suc n)) (lt-ltb 0 (suc n) (omega arith)))
      (none-past n q ∙ all-same (length q) _ _ (λ s. ap (either (not (has q s))) (sym (ltb_suc s n))))

  pub none : (q : List Bool) → length q ≡ 7 → not (list_any e q) ≡ empty (has q)
  unfolding empty
  none q l = rw (← l) (none-of q)

  pub below : (m n : ℕ) (q : List Bool) → m ≡ n → n ≤ 7 → length q ≡ 7 → not (list_any e (take (7 - m) (drop m q))) ≡ inside (has q) (λ s. ltb s n)
  unfolding inside
  below m n q i h l =
      let k : take (7 - n) (drop n q) ≡ drop n q = take_all (7 - n) (drop n q) (omega (arith, length-drop n q, l)) in
      rw (i, k, ← l) (none-past n q)

inside-pairs : (q p : List Bool) → length q ≡ length p → list_all (λ (t : Bool × Bool). either (not t.0) t.1) (zip q p) ≡ all_below (length q) (λ s. either (not (has q s)) (has p s))
unfolding all_below
inside-pairs [] p l = refl
inside-pairs (x ∷ q) [] l = absurd (omega arith)
inside-pairs (x ∷ q) (y ∷ p) l =
    rw (all-front (length q) (λ s. either (not (has (x ∷ q) s)) (has (y ∷ p) s)), inside-pairs q p (omega arith)) (sym (both_is _ _))

pub pairs : (q p : List Bool) → length q ≡ 7 → length p ≡ 7 → list_all (λ (t : Bool × Bool). either (not t.0) t.1) (zip q p) ≡ inside (has q) (has p)
unfolding inside
pairs q p l m = inside-pairs q p (omega arith) ∙ rw l

all-places : (f : ℕ → ℕ → Bool) (q : List ℕ) (k : ℕ) → list_all (λ (t : ℕ × ℕ). f t.0 t.1) (enumerate_from k q) ≡ all_below (length q) (λ s. f (k + s) (num q s))
unfolding all_below
all-places f [] k = refl
all-places f (x ∷ q) k =
    let e : k + 0 ≡ k = omega arith in
    rw (all-front (length q) (λ s. f (k + s) (num (x ∷ q) s)), e, all-places f q (k + 1))
    (sym (both_is _ _) ∙ ap (both (f k x)) (all-same (length q) _ _ (λ s. ap (λ (i : ℕ). f i (num q s)) (omega arith))))

pub places : (z : Sizes) (st len p a d : ℕ) (w c : List ℕ) (j k y : List Bool) (g b : ℕ) (h : Hist) (live : Bool) → live ≡ during 7 8 st → length c ≡ 7
    → list_all (λ (t : ℕ × ℕ). count_fits t.1 len (both (ltb t.0 z.n) live)) (enumerate_from 0 c) ≡ good_counts z st (dur_of p a d (txns len w)) (vol_of j k y g b h c)
unfolding good_counts count_fits
places z st len p a d w c j k y g b h live e l =
    all-places (λ (s x : ℕ). both (leb x len) (either (both (ltb s z.n) live) (eqb x 0))) c 0
    ∙ rw (l, e, length-txns len w) (all-same 7 _ _ (λ s. ap (λ (i : ℕ). both (leb (num c s) len) (either (both (ltb i z.n) (during 7 8 st)) (eqb (num c s) 0))) (omega arith)))

-- ---- clauses

-- a history within the room
pub good-txns : (H a n : ℕ) (w : List ℕ) → n ≤ H → good_hist H a (txns n w) ≡ rising a 0 (txns n w)
unfolding good_hist both
good-txns H a n w h = rw (length-txns n w, le-leb n H h)

pub good_none : (H a : ℕ) (w : List ℕ) → good_hist H a (txns 0 w) ≡ true
unfolding txns rising
good_none H a w = rw (good-txns H a 0 w (omega arith))

pub ruleset histories = (plain, good-txns, good_none, length-txns)

-- ---- the whole

pub sizes_room : (z : Sizes) → good_sizes z ≡ true → z.room.0 ≤ 64
sizes_room z e = (sized z e).room

pub lent : (z : Sizes) (s : State) (h k : List ℕ) → good_sizes z ≡ true → good_words z.room.0 s.len.0 h ≡ true → good_words z.room.0 s.cand_len.0 k ≡ true → Lent z s h k
lent z s h k e f g =
    let v = words-good z.room.0 s.len.0 h f in
    let w = words-good z.room.0 s.cand_len.0 k g in
    record { most = (sized z e).seven; len = v.1; cand = w.1; hist = omega (arith, v.0, v.1); words = omega (arith, w.0, w.1) }

pub ruleset whole = (plain, sizes_room, lent)
