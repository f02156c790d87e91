-- What the hands ask of a plan and of the lent words, and what they leave.
use Rattle.std.specs.Prelude.{ℕ, ◌+◌, ◌-◌, ◌*◌, ◌≤◌, ◌≡◌, Bool, true, not, List, eqb, length, drop}
use Rattle.base.specs.Choice.{pick, both}
use Rattle.base.specs.Quorum.{Set, size}
use Rattle.base.specs.declared.Sizes.{Sizes}
use Rattle.rules.specs.Message.{Msg, Send}
use Rattle.rules.specs.Tree.{to_all}
use Rattle.rules.specs.Words.{WORDS, all_zero, hist_words, has, encode, slot_size, put, boxed}
use Rattle.plan.specs.declared.Cast.{Cast}
use Rattle.plan.specs.declared.Plan.{Plan}
use Rattle.plan.specs.Plans.{fine, sends, hist_of, cand_of}

-- ---- the history and the candidate after a step

-- room for H transactions, and where the history lies: `len` of them
pub record HistReady (H from len : ℕ) (h k m : List ℕ) : Type 0 where
  pub words : length h ≡ WORDS * H
  pub most : H ≤ 64
  pub fits : len ≤ H
  pub known : from ≤ 3
  -- nothing is written where it stays
  pub stays : from ≡ 0 → all_zero (drop (WORDS * len) h) ≡ true
  pub told : from ≡ 1 → WORDS * len ≤ length m
  pub chosen : from ≡ 2 → WORDS * len ≤ length k
  -- one transaction is written where one is appended
  pub some : from ≡ 3 → 1 ≤ len
  pub free : from ≡ 3 → all_zero (drop (WORDS * (len - 1)) h) ≡ true

-- the same for the candidate, of which `old` transactions stood before the step
pub record CandReady (H from len old : ℕ) (h k m : List ℕ) : Type 0 where
  pub words : length k ≡ WORDS * H
  pub most : H ≤ 64
  pub fits : len ≤ H
  pub held : old ≤ H
  pub known : from ≤ 2
  -- at most those are cleared that stood before
  pub stays : from ≡ 0 → len ≤ old
  pub free : from ≡ 0 → all_zero (drop (WORDS * old) k) ≡ true
  pub told : from ≡ 1 → WORDS * len ≤ length m
  pub copied : from ≡ 2 → WORDS * len ≤ length h

-- ---- messages

-- the others of a set, and how many of the servers below n they are
unfoldable pub other : ℕ → Set → Set
other me q j = both (q j) (not (eqb j me))

abbrev pub others : ℕ → ℕ → Set → ℕ
others n me q = size (other me q) n

-- n transactions lie in the words w
pub record Load (H n : ℕ) (w : List ℕ) : Type 0 where
  pub fits : n ≤ H
  pub words : WORDS * n ≤ length w

-- k of six slots are written, and `more` are asked
pub record Slots (H k more : ℕ) (o : List ℕ) : Type 0 where
  pub most : H ≤ 64
  pub words : 6 * slot_size H ≤ length o
  pub few : k + more ≤ 6

-- the words `ws` into slot k, where `one` is asked
pub record Sent (H : ℕ) (o : List ℕ) (k : ℕ) (one : Bool) (ws o' : List ℕ) (k' : ℕ) : Type 0 where
  pub box : o' ≡ pick one (put o (slot_size H * k) ws) o
  pub count : k' ≡ k + pick one 1 0

-- the message of the words `ws` to all others of a set, from slot k on
pub record Spread (H : ℕ) (o : List ℕ) (k n me : ℕ) (q : Set) (ws o' : List ℕ) (k' : ℕ) : Type 0 where
  pub box : (m : Msg) → encode H m ≡ ws → o' ≡ boxed H o k (to_all n me q m)
  pub count : k' ≡ k + others n me q

-- these messages, from slot k on
pub record Boxed (H : ℕ) (o : List ℕ) (k : ℕ) (xs : List Send) (o' : List ℕ) (k' : ℕ) : Type 0 where
  pub box : o' ≡ boxed H o k xs
  pub count : k' ≡ k + length xs

-- a cast that carries at most `len` transactions of the words h, or the plan's one
pub record CastReady (z : Sizes) (k me : ℕ) (c : Cast) (h : List ℕ) (len : ℕ) (o : List ℕ) : Type 0 where
  pub servers : z.n ≤ 7
  pub some : 1 ≤ z.room.0
  pub kind : fine c.kind c.x.0 ≡ true
  pub load : Load z.room.0 len h
  pub slots : Slots z.room.0 k (others z.n me (has c.to)) o

-- ---- the whole

pub record Ready (z : Sizes) (r : Plan) (old : ℕ) (h k m o : List ℕ) : Type 0 where
  pub servers : z.n ≤ 7
  pub some : 1 ≤ z.room.0
  pub hist : HistReady z.room.0 r.hist r.state.len.0 h k m
  pub cand : CandReady z.room.0 r.cand r.state.cand_len.0 old h k m
  -- the candidate is copied from a history that stays
  pub order : r.cand ≡ 2 → r.hist ≡ 0
  pub one : fine r.one.kind r.one.x.0 ≡ true
  pub two : fine r.two.kind r.two.x.0 ≡ true
  pub slots : 6 * slot_size z.room.0 ≤ length o
  pub few : length (sends z r (hist_of r h k m)) ≤ 6

pub record Performed (z : Sizes) (r : Plan) (h k m o : List ℕ) (n : ℕ) (h' k' o' : List ℕ) : Type 0 where
  pub hist : h' ≡ hist_words z.room.0 (hist_of r h k m)
  pub cand : k' ≡ hist_words z.room.0 (cand_of r h k m)
  pub box : o' ≡ boxed z.room.0 o 0 (sends z r (hist_of r h k m))
  pub sent : n ≡ length (sends z r (hist_of r h k m))
