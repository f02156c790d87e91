-- What is read, in the words of the rules.
use Prim.Native.Nat.{ℕ, ◌+◌, ◌-◌, ◌*◌, ◌≤◌, ◌<◌}
use mathlib.Core.Path.{◌≡◌, refl}
use mathlib.Core.Bool.{true, false}
use mathlib.Core.List.{List}
use native.Mathlib.Omega.{arith}
use lib.Dec.{eqb, leb}
use lib.ListN.{length, take, drop, get_or, length-drop}
use lib.Seq.{get_or-drop, take_all}
use borrow.Author.Tests.{leb-true, le-leb, lt-leb}
use Rattle.std.proofs.Common.{Option, Some, None}
use Rattle.base.specs.Choice.{pick, both, either}
use Rattle.base.specs.Transaction.{LAST, small, rising, good_hist}
use Rattle.base.specs.declared.Sizes.{Sizes}
use Rattle.base.proofs.Choice.{both_true, both-no}
use Rattle.rules.specs.Message.{Msg, positive, formed}
use Rattle.rules.specs.Words.{txns, txn_at, word, all_zero, laden, tidy, said, read_msg}
use Rattle.rules.proofs.Words.{length-txns}
use Rattle.plan.specs.declared.Message.{Message}
use Rattle.plan.specs.Plans.{meant, held}
use Rattle.message.specs.Reads.{well_read, placed, counted, Told, Reads}

-- ---- words past the fields

pub count_is : (k n : ℕ) → counted k n ≡ either (either (eqb k 3) (eqb k 4)) (eqb n (pick (eqb k 7) 1 0))
unfolding counted laden
count_is k n = refl

pub tidy_is : (H : ℕ) (w : List ℕ) → tidy H w ≡ both (leb (word w 3) H) (both (placed (word w 0) (word w 2)) (both (counted (word w 0) (word w 3)) (all_zero (drop (4 + 2 * word w 3) w))))
unfolding tidy placed counted
tidy_is H w = refl

-- ---- the fields

-- a message that was read, and none
module _ (z : Sizes) (w : List ℕ) (x : Msg) where
  pub told : (m : Message) → formed z x ≡ true → meant m w ≡ x → held m ≤ z.room.0 → Told z x w (Some m)
  unfolding well_read pick
  told m f e h = record { means = rw f e; fits = h }

  pub not_told : (r : Option Message) → r ≡ None → formed z x ≡ false → Told z x w r
  unfolding well_read pick
  not_told r e f = rw e (record { means = rw f; fits = omega arith })

-- a history within the room
pub good : (H a n : ℕ) (w : List ℕ) → n ≤ H → good_hist H a (txns n w) ≡ rising a 0 (txns n w)
unfolding good_hist both
good H a n w h = rw (length-txns n w, le-leb n H h)

pub positive_is : (x : ℕ) → 1 ≤ x → x ≤ LAST → positive x ≡ true
unfolding positive both
positive_is x p q = rw (le-leb 1 x p, le-leb x LAST q)

pub zero_not : positive 0 ≡ false
unfolding positive both
zero_not = refl

pub wide_not : (x : ℕ) → LAST < x → positive x ≡ false
unfolding positive
wide_not x h = both-no (leb 1 x) (small x) (lt-leb x LAST h)

-- the part of a slice from word n on
pub part-all : (n : ℕ) (v : List ℕ) → take (length v - n) (drop n v) ≡ drop n v
part-all n v = take_all (length v - n) (drop n v) (omega (arith, length-drop n v))

pub ruleset numbers = (positive_is, zero_not, wide_not)

-- PROPOSE, its transaction in the words v from word 4 on
pub txn-at : (v : List ℕ) → txn_at (drop 4 v) ≡ record { id = record { 0 = get_or v 4 0 }; val = get_or v 5 0 }
txn-at v = rw (get_or-drop 4 v 0 0, get_or-drop 4 v 1 0)

-- ---- the kinds

-- what is told of a message is told of the same message in other words
pub told_as : {z : Sizes} {v : List ℕ} {r : Option Message} {x y : Msg} → x ≡ y → Told z y v r → Told z x v r
told_as e t = rw e t

-- ---- the slot

module _ (z : Sizes) (w : List ℕ) where
  pub tidy_room : tidy z.room.0 w ≡ true → word w 3 ≤ z.room.0
  unfolding tidy
  tidy_room e = leb-true (word w 3) z.room.0 (both_true (leb (word w 3) z.room.0) _ e).0

  pub reads : (r : Option Message) → tidy z.room.0 w ≡ true → ((z : Sizes) → word w 3 ≤ z.room.0 → Told z (said w) (drop 4 w) r) → Reads z w r
  unfolding read_msg pick
  reads r f t = let u = t z (tidy_room f) in record { means = rw f u.means; fits = u.fits }

  pub unread : tidy z.room.0 w ≡ false → Reads z w None
  unfolding read_msg pick well_read formed
  unread f = record { means = rw f; fits = omega arith }
