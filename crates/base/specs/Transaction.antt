-- Identifiers, transactions and histories.
use Rattle.std.specs.Prelude.{ℕ, zero, suc, ◌+◌, ◌*◌, ◌/◌, ◌%◌, ◌≡◌, Bool, true, false, List, [], ◌∷◌, eqb, leb, ltb, length, get_or, take}
use Rattle.base.specs.Choice.{pick, both}
use Rattle.base.specs.declared.Txn.{Txn}

-- the last number of 32 bits
abbrev pub LAST : ℕ
LAST = 4294967295

abbrev pub small : ℕ → Bool
small x = leb x LAST

-- epoch × 2^32 + counter
abbrev pub ident : ℕ → ℕ → ℕ
ident e c = e * 4294967296 + c

abbrev pub epoch_of : ℕ → ℕ
epoch_of id = id / 4294967296

abbrev pub counter_of : ℕ → ℕ
counter_of id = id % 4294967296

abbrev pub Hist : Type 0
Hist = List Txn

abbrev pub none : Txn
none = record { id = record { 0 = 0 }; val = 0 }

-- l begins with h
abbrev pub Begins : Hist → Hist → Type 0
Begins h l = take (length h) l ≡ h

-- the identifier at a place of a history, places counted from 1; 0 at place 0
unfoldable pub id_at : Hist → ℕ → ℕ
id_at h zero = 0
id_at h (suc k) = (get_or h k none).id.0

-- the last identifier, 0 if empty
abbrev pub last_id : Hist → ℕ
last_id h = id_at h (length h)

-- the next counter of epoch e: 1, or one more than the last if that has epoch e
unfoldable pub next_counter : ℕ → ℕ → ℕ
next_counter e last = pick (eqb (epoch_of last) e) (counter_of last + 1) 1

-- the history rules for an epoch a: identifiers strictly rising, epochs 1 to a, counters at least 1
unfoldable pub follows : ℕ → ℕ → ℕ → Bool
follows a last id = both (ltb last id) (both (leb 1 (epoch_of id)) (both (leb (epoch_of id) a) (leb 1 (counter_of id))))

unfoldable pub rising : ℕ → ℕ → Hist → Bool
rising a last [] = true
rising a last (t ∷ h) = both (follows a last t.id.0) (rising a t.id.0 h)

-- and a length within the room H
unfoldable pub good_hist : ℕ → ℕ → Hist → Bool
good_hist H a h = both (leb (length h) H) (rising a 0 h)

-- whole transactions are compared
unfoldable pub same_txn : Txn → Txn → Bool
same_txn x y = both (eqb x.id.0 y.id.0) (eqb x.val y.val)

unfoldable pub same_hist : Hist → Hist → Bool
same_hist [] [] = true
same_hist [] (y ∷ ys) = false
same_hist (x ∷ xs) [] = false
same_hist (x ∷ xs) (y ∷ ys) = both (same_txn x y) (same_hist xs ys)
