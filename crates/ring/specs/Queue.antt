-- The queue: for each channel a ring of slots in one lent slice of words, and what waits in it.
use Rattle.std.specs.Prelude.{ℕ, zero, suc, ◌+◌, ◌-◌, ◌*◌, ◌≤◌, ◌<◌, ◌≡◌, Bool, true, List, [], ◌∷◌, ◌++◌, leb, ltb, length, take, drop, get_or, set}
use Rattle.base.specs.Choice.{pick, both, upd₂, all_below}
use Rattle.base.specs.declared.Sizes.{Sizes}
use Rattle.rules.specs.Message.{Msg}
use Rattle.rules.specs.Cluster.{Channels, emptied}
use Rattle.rules.specs.Words.{msg_size, read_msg, tab, zeros, put}
use Rattle.ring.specs.declared.Rings.{Rings}

-- as many rings as seven servers have channels
abbrev pub RINGS : ℕ
RINGS = 49

-- the ring of the channel from f to t
abbrev pub cell : ℕ → ℕ → ℕ → ℕ
cell n f t = n * f + t

abbrev pub head : Rings → ℕ → ℕ
head r c = get_or r.heads c 0

abbrev pub count : Rings → ℕ → ℕ
count r c = get_or r.counts c 0

-- past the last slot of a ring comes its first
unfoldable pub wrap : ℕ → ℕ → ℕ
wrap depth k = pick (ltb k depth) k (k - depth)

-- the slot of what waits in place j of ring c
abbrev pub slot_no : ℕ → Rings → ℕ → ℕ → ℕ
slot_no depth r c j = depth * c + wrap depth (head r c + j)

-- the words of slot s
abbrev pub slot_words : ℕ → ℕ → List ℕ → List ℕ
slot_words H s q = take (msg_size H) (drop (msg_size H * s) q)

-- what waits in ring c, the first to be delivered first
unfoldable pub waiting : ℕ → ℕ → Rings → List ℕ → ℕ → List Msg
waiting H depth r q c = tab (count r c) (λ j. read_msg H (slot_words H (slot_no depth r c j) q))

-- the channels that rings and words stand for
unfoldable pub chans : Sizes → ℕ → Rings → List ℕ → Channels
chans z depth r q f t = pick (both (ltb f z.n) (ltb t z.n)) (waiting z.room.0 depth r q (cell z.n f t)) []

-- ---- rings that are well formed; what lies in a slot is of no matter

-- how many words the queue has
abbrev pub queue_size : Sizes → ℕ → ℕ
queue_size z depth = msg_size z.room.0 * (depth * (z.n * z.n))

unfoldable pub good_ring : ℕ → Rings → ℕ → Bool
good_ring depth r c = both (ltb (head r c) depth) (leb (count r c) depth)

unfoldable pub good_rings : ℕ → Rings → Bool
good_rings depth r = all_below RINGS (good_ring depth r)

pub record Ringed (z : Sizes) (depth : ℕ) (r : Rings) (q : List ℕ) : Type 0 where
  pub few : z.n ≤ 7
  pub room : z.room.0 ≤ 64
  pub some : 1 ≤ depth
  pub deep : depth ≤ 16
  pub size : length q ≡ queue_size z depth
  pub rings : good_rings depth r ≡ true
  pub heads : length r.heads ≡ RINGS
  pub counts : length r.counts ≡ RINGS

-- a channel between two servers
pub record Chan (z : Sizes) (f t : ℕ) : Type 0 where
  pub sender : f < z.n
  pub receiver : t < z.n

-- ---- a message put behind the last, the first taken, channels emptied

abbrev pub longer : ℕ → Rings → Rings
longer c r = record { heads = r.heads; counts = set r.counts c (count r c + 1) }

abbrev pub shorter : ℕ → ℕ → Rings → Rings
shorter depth c r = record { heads = set r.heads c (wrap depth (head r c + 1)); counts = set r.counts c (count r c - 1) }

abbrev pub vacant : ℕ → Rings → Rings
vacant c r = record { heads = set r.heads c 0; counts = set r.counts c 0 }

-- the words ws in slot s
abbrev pub filled : ℕ → List ℕ → ℕ → List ℕ → List ℕ
filled H q s ws = put q (msg_size H * s) ws

-- a ring's slots all zero
abbrev pub bare : ℕ → ℕ → List ℕ → ℕ → List ℕ
bare H depth q c = put q (msg_size H * (depth * c)) (zeros (msg_size H * depth))

-- the rings between i and each server below k are vacant
unfoldable pub vacated : ℕ → ℕ → ℕ → Rings → Rings
vacated n i zero r = r
vacated n i (suc k) r = vacant (cell n k i) (vacant (cell n i k) (vacated n i k r))

-- and their slots zero
unfoldable pub bared : ℕ → ℕ → ℕ → ℕ → ℕ → List ℕ → List ℕ
bared H depth n i zero q = q
bared H depth n i (suc k) q = bare H depth (bare H depth (bared H depth n i k q) (cell n i k)) (cell n k i)

-- what is left: the rings, every word, and the channels that they stand for
pub record Left (z : Sizes) (depth : ℕ) (r' : Rings) (q' : List ℕ) (x : Rings) (w : List ℕ) (c : Channels) : Type 0 where
  pub rings : r' ≡ x
  pub words : q' ≡ w
  pub chans : chans z depth r' q' ≡ c
  pub good : Ringed z depth r' q'

-- ws put behind what waits from f to t
abbrev pub Pushed : Sizes → ℕ → Rings → List ℕ → ℕ → ℕ → List ℕ → Rings → List ℕ → Type 0
Pushed z depth r q f t ws r' q' =
    Left z depth r' q'
    (longer (cell z.n f t) r)
    (filled z.room.0 q (slot_no depth r (cell z.n f t) (count r (cell z.n f t))) ws)
    (upd₂ (chans z depth r q) f t (chans z depth r q f t ++ (read_msg z.room.0 ws ∷ [])))

-- the first from f to t taken, its slot zero
abbrev pub Popped : Sizes → ℕ → Rings → List ℕ → ℕ → ℕ → Rings → List ℕ → Type 0
Popped z depth r q f t r' q' =
    Left z depth r' q'
    (shorter depth (cell z.n f t) r)
    (filled z.room.0 q (slot_no depth r (cell z.n f t) 0) (zeros (msg_size z.room.0)))
    (upd₂ (chans z depth r q) f t (drop 1 (chans z depth r q f t)))

-- a channel emptied, its slots zero
abbrev pub Cleared : Sizes → ℕ → Rings → List ℕ → ℕ → ℕ → Rings → List ℕ → Type 0
Cleared z depth r q f t r' q' =
    Left z depth r' q'
    (vacant (cell z.n f t) r)
    (bare z.room.0 depth q (cell z.n f t))
    (upd₂ (chans z depth r q) f t [])

-- and the one the other way
abbrev pub Parted : Sizes → ℕ → Rings → List ℕ → ℕ → ℕ → Rings → List ℕ → Type 0
Parted z depth r q i k r' q' =
    Left z depth r' q'
    (vacant (cell z.n k i) (vacant (cell z.n i k) r))
    (bare z.room.0 depth (bare z.room.0 depth q (cell z.n i k)) (cell z.n k i))
    (upd₂ (upd₂ (chans z depth r q) i k []) k i [])

-- all channels to and from i emptied, their slots zero
abbrev pub Emptied : Sizes → ℕ → Rings → List ℕ → ℕ → Rings → List ℕ → Type 0
Emptied z depth r q i r' q' =
    Left z depth r' q'
    (vacated z.n i z.n r)
    (bared z.room.0 depth z.n i z.n q)
    (emptied i (chans z depth r q))
