-- The records of a trace as words, and what is looked for among them.
use Rattle.std.specs.Prelude.{ℕ, zero, suc, ◌+◌, ◌-◌, ◌*◌, ◌/◌, ◌%◌, ◌≤◌, ◌<◌, Bool, true, List, [], ◌∷◌, ◌++◌, eqb, leb, length, get_or, drop}
use Rattle.std.specs.List.{range_with_len}
use Rattle.base.specs.Choice.{pick, both, either}
use Rattle.base.specs.Record.{Entry, Rec, E, B, «V», X, same}
use Rattle.trace.specs.Rules.{Past, vs}

-- the words of a record: kind, server (of an X the line), epoch (of an X the refusal), counter, value
abbrev pub WORDS : ℕ
WORDS = 5

abbrev pub kind_of : List ℕ → ℕ → ℕ
kind_of w i = get_or w (WORDS * i) 0

abbrev pub who_of : List ℕ → ℕ → ℕ
who_of w i = get_or w (WORDS * i + 1) 0

abbrev pub epoch_at : List ℕ → ℕ → ℕ
epoch_at w i = get_or w (WORDS * i + 2) 0

abbrev pub counter_at : List ℕ → ℕ → ℕ
counter_at w i = get_or w (WORDS * i + 3) 0

abbrev pub value_at : List ℕ → ℕ → ℕ
value_at w i = get_or w (WORDS * i + 4) 0

abbrev pub entry_at : List ℕ → ℕ → Entry
entry_at w i = record { ep = epoch_at w i; ct = counter_at w i; vl = value_at w i }

-- record i: kind 1 is E, 2 is B, 3 is V, 4 is X
unfoldable pub rec_at : List ℕ → ℕ → Rec
rec_at w i =
    pick (eqb (kind_of w i) 1) (E (who_of w i) (epoch_at w i))
    (pick (eqb (kind_of w i) 2) (B (who_of w i) (entry_at w i))
    (pick (eqb (kind_of w i) 3) («V» (who_of w i) (entry_at w i))
    (X (who_of w i) (epoch_at w i))))

-- k records from record i on
abbrev pub recs_from : List ℕ → ℕ → ℕ → List Rec
recs_from w i zero = []
recs_from w i (suc k) = rec_at w i ∷ recs_from w (suc i) k

-- the records before record i, the newest first
abbrev pub past_at : List ℕ → ℕ → Past
past_at w zero = []
past_at w (suc i) = rec_at w i ∷ past_at w i

abbrev pub count_of : List ℕ → ℕ
count_of w = length w / WORDS

abbrev pub recs_of : List ℕ → List Rec
recs_of w = recs_from w 0 (count_of w)

unfoldable pub known_at : List ℕ → ℕ → Bool
known_at w i = both (leb 1 (kind_of w i)) (leb (kind_of w i) 4)

abbrev pub all_known : List ℕ → ℕ → ℕ → Bool
all_known w i zero = true
all_known w i (suc k) = both (known_at w i) (all_known w (suc i) k)

-- whole records, none of an unknown kind
unfoldable pub readable : List ℕ → Bool
readable w = both (eqb (length w % WORDS) 0) (all_known w 0 (count_of w))

-- record i's words lie in w
abbrev pub Within : List ℕ → ℕ → Type 0
Within w i = WORDS * i + WORDS ≤ length w

-- and the first len words of sp are numbers of records before it
abbrev pub Marked : List ℕ → List ℕ → ℕ → ℕ → Type 0
Marked w sp i len = Within w i × (len ≤ length sp) × ((k : ℕ) → k < len → get_or sp k 0 < i)

-- ---- the longest delivered sequence, by the numbers of the records at which it grew

abbrev pub grown : Past → List ℕ
grown [] = []
grown (E s e ∷ p) = grown p
grown (B s t ∷ p) = grown p
grown («V» s t ∷ p) = pick (leb (length (grown p)) (length (vs s p))) (grown p ++ (length p ∷ [])) (grown p)
grown (X l r ∷ p) = grown p

-- the words m, and then those of sp
unfoldable pub laid : List ℕ → List ℕ → List ℕ
laid m sp = m ++ drop (length m) sp

-- ---- what is looked for

-- is record j an E or a B of epoch e?
unfoldable pub of_epoch : List ℕ → ℕ → ℕ → Bool
of_epoch w j e = both (either (eqb (kind_of w j) 1) (eqb (kind_of w j) 2)) (eqb (epoch_at w j) e)

-- the latest such before record i, counted from 1; 0 if there is none
unfoldable pub latest_of : List ℕ → ℕ → ℕ → ℕ
latest_of w e zero = 0
latest_of w e (suc i) = pick (of_epoch w i e) (suc i) (latest_of w e i)

-- is record j a B of the transaction of record i?
unfoldable pub submits : List ℕ → ℕ → ℕ → Bool
submits w i j = both (eqb (kind_of w j) 2) (same (entry_at w i) (entry_at w j))

-- the records before record i, those from record `seen` on first
abbrev pub road : ℕ → ℕ → List ℕ
road i seen = range_with_len seen (i - seen) ++ range_with_len 0 seen
