-- What stands in the outbox, and the rings and words after it was put behind what waits.
use Rattle.std.specs.Prelude.{ℕ, zero, suc, ◌+◌, ◌*◌, ◌≤◌, ◌<◌, ◌≡◌, true, List, length, take, drop, get_or}
use Rattle.base.specs.declared.Sizes.{Sizes}
use Rattle.rules.specs.Message.{Send}
use Rattle.rules.specs.Cluster.{post, roomy}
use Rattle.rules.specs.Words.{msg_size, slot_size, read_msg, tab}
use Rattle.ring.specs.declared.Rings.{Rings}
use Rattle.ring.specs.Queue.{cell, count, slot_no, longer, filled, chans, Ringed, Left}

-- the receiver and the message's words in slot k of the outbox
abbrev pub to_at : ℕ → List ℕ → ℕ → ℕ
to_at H o k = get_or o (slot_size H * k) 0

abbrev pub words_at : ℕ → List ℕ → ℕ → List ℕ
words_at H o k = take (msg_size H) (drop (slot_size H * k + 1) o)

-- what stands in slot k
abbrev pub send_at : ℕ → List ℕ → ℕ → Send
send_at H o k = record { to = to_at H o k; msg = read_msg H (words_at H o k) }

-- what stands in the first n slots
unfoldable pub sends_at : ℕ → List ℕ → ℕ → List Send
sends_at H o n = tab n (send_at H o)

-- the rings after the first k were put behind what waits from i
unfoldable pub rungs : Sizes → Rings → ℕ → List ℕ → ℕ → Rings
rungs z r i o zero = r
rungs z r i o (suc k) = longer (cell z.n i (to_at z.room.0 o k)) (rungs z r i o k)

abbrev pub ring_of : Sizes → ℕ → List ℕ → ℕ → ℕ
ring_of z i o k = cell z.n i (to_at z.room.0 o k)

-- and the words of the queue
unfoldable pub strewn : Sizes → ℕ → Rings → List ℕ → ℕ → List ℕ → ℕ → List ℕ
strewn z depth r q i o zero = q
strewn z depth r q i o (suc k) =
    filled z.room.0 (strewn z depth r q i o k)
    (slot_no depth (rungs z r i o k) (ring_of z i o k) (count (rungs z r i o k) (ring_of z i o k)))
    (words_at z.room.0 o k)

-- an outbox of six slots, whose first n have receivers, for whose messages there is room
pub record Ready (z : Sizes) (depth : ℕ) (r : Rings) (q : List ℕ) (i : ℕ) (o : List ℕ) (n : ℕ) : Type 0 where
  pub good : Ringed z depth r q
  pub sender : i < z.n
  pub box : 6 * slot_size z.room.0 ≤ length o
  pub few : n ≤ 6
  pub to : (k : ℕ) → k < n → to_at z.room.0 o k < z.n
  pub room : roomy z.n depth i (post i (sends_at z.room.0 o n) (chans z depth r q)) ≡ true

abbrev pub Posted : Sizes → ℕ → Rings → List ℕ → ℕ → List ℕ → ℕ → Rings → List ℕ → Type 0
Posted z depth r q i o n r' q' = Left z depth r' q' (rungs z r i o n) (strewn z depth r q i o n) (post i (sends_at z.room.0 o n) (chans z depth r q))
