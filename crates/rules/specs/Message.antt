-- The nine messages, and which are malformed.
use Rattle.std.specs.Prelude.{ℕ, Bool, false, eqb, leb, ltb}
use Rattle.base.specs.Choice.{both}
use Rattle.base.specs.Transaction.{Hist, small, epoch_of, counter_of, good_hist}
use Rattle.base.specs.declared.Txn.{Txn}
use Rattle.base.specs.declared.Sizes.{Sizes}

pub data Msg : Type 0 where
  cepoch : (p : ℕ) → Msg
  newepoch : (e : ℕ) → Msg
  acke : (e a : ℕ) (h : Hist) → Msg
  newleader : (e : ℕ) (h : Hist) → Msg
  ackld : (e c : ℕ) → Msg
  commitld : (e c : ℕ) → Msg
  propose : (e k : ℕ) (t : Txn) → Msg
  ack : (e k : ℕ) → Msg
  commit : (e c : ℕ) → Msg
  junk : Msg  -- words that are no message

-- the kinds, 1 to 9 in the paper's order
abbrev pub kind : Msg → ℕ
kind (cepoch p) = 1
kind (newepoch e) = 2
kind (acke e a h) = 3
kind (newleader e h) = 4
kind (ackld e c) = 5
kind (commitld e c) = 6
kind (propose e k t) = 7
kind (ack e k) = 8
kind (commit e c) = 9
kind junk = 0

-- an epoch, a place or a COMMIT count: 32 bits and not zero
unfoldable pub positive : ℕ → Bool
positive x = both (leb 1 x) (small x)

-- is it well formed? (Words of an unknown kind, or with a word past its fields that is not zero, are junk.)
unfoldable pub formed : Sizes → Msg → Bool
formed z (cepoch p) = small p
formed z (newepoch e) = positive e
formed z (acke e a h) = both (positive e) (both (ltb a e) (good_hist z.room.0 a h))
formed z (newleader e h) = both (positive e) (good_hist z.room.0 e h)
formed z (ackld e c) = both (positive e) (small c)
formed z (commitld e c) = both (positive e) (small c)
formed z (propose e k t) = both (positive e) (both (positive k) (both (eqb (epoch_of t.id.0) e) (leb 1 (counter_of t.id.0))))
formed z (ack e k) = both (positive e) (positive k)
formed z (commit e c) = both (positive e) (positive c)
formed z junk = false

-- a message and its receiver
pub record Send : Type 0 where
  pub to : ℕ
  pub msg : Msg
