-- The whole answer of the exported step, over bytes: built of the server's step and of words as bytes.
use Rattle.std.specs.Prelude.{ℕ, ◌*◌, ◌%◌, ◌≤◌, ◌≡◌, Bool, true, List, [], ◌∷◌, eqb, leb, length}
use Rattle.base.specs.Choice.{pick, both}
use Rattle.base.specs.Refusals.{STATE}
use Rattle.base.specs.declared.Sizes.{Sizes}
use Rattle.rules.specs.declared.State.{State}
use Rattle.rules.specs.Words.{WORDS, msg_size, slot_size, put}
use Rattle.octets.specs.Bytes.{words_of, bytes_of}
use Rattle.octets.specs.Record.{RECORD, bit, state_words, state_at, fits}
use Rattle.server.specs.declared.Event.{Event}
use Rattle.server.specs.declared.Event.TheVariants.{Oracle, Restart, Deliver, Submit, Unknown}
use Rattle.server.specs.Whole.{Out, step_of, Reply}

-- the words of a history, and of the outbox that is looked at: six slots
abbrev pub hist_size : ℕ → ℕ
hist_size room = WORDS * room

abbrev pub box_size : ℕ → ℕ
box_size room = 6 * slot_size room

unfoldable pub event_of : ℕ → ℕ → ℕ → Event
event_of event who value =
    pick (eqb event 1) (Oracle who)
    (pick (eqb event 2) Restart
    (pick (eqb event 3) (Deliver who)
    (pick (eqb event 4) (Submit value)
    Unknown)))

-- how many words of the message the event reads
unfoldable pub lent_words : ℕ → ℕ → ℕ
lent_words event room = pick (eqb event 3) (msg_size room) 0

-- the lengths in bytes: of the record, the history, the candidate, the outbox and what is told
unfoldable pub sized : ℕ → ℕ → ℕ → ℕ → ℕ → ℕ → Bool
sized room b h k o t =
    both (leb room 64)
    (both (eqb b (8 * RECORD))
    (both (eqb h (8 * hist_size room))
    (both (eqb k (8 * hist_size room))
    (both (leb (8 * box_size room) o)
    (both (eqb (o % 8) 0)
    (eqb t 2))))))

-- and of a delivered message; other events look at none
unfoldable pub slotted : ℕ → ℕ → ℕ → Bool
slotted event room m = pick (eqb event 3) (eqb m (8 * msg_size room)) true

-- the server's step on the words of the bytes
abbrev pub word_step : Sizes → State → Event → ℕ → List ℕ → List ℕ → List ℕ → List ℕ → Out
word_step z s ev lent h k m o =
    step_of z s ev (words_of (hist_size z.room.0) h) (words_of (hist_size z.room.0) k) (words_of lent m) (words_of (box_size z.room.0) o)

-- all that the exported step leaves
pub record After : Type 0 where
  pub code : ℕ
  pub rec : List ℕ
  pub hist : List ℕ
  pub cand : List ℕ
  pub box : List ℕ
  pub told : List ℕ

-- a refusal: every byte stands
abbrev pub stays : ℕ → List ℕ → List ℕ → List ℕ → List ℕ → List ℕ → After
stays c b h k o t = record { code = c; rec = b; hist = h; cand = k; box = o; told = t }

-- the bytes after the server's step x: the outbox past its six slots stands
unfoldable pub answered : Out → List ℕ → List ℕ → List ℕ → List ℕ → List ℕ → After
answered x b h k o t = pick (eqb x.code 0)
    (record {
      code = 0;
      rec = bytes_of (state_words x.state);
      hist = bytes_of x.hist;
      cand = bytes_of x.cand;
      box = put o 0 (bytes_of x.box);
      told = x.sent ∷ bit x.empties ∷ [];
    })
    (stays x.code b h k o t)

abbrev pub sizes : ℕ → ℕ → Sizes
sizes n room = record { n = n; room = record { 0 = room } }

-- THE EXPORTED STEP: STATE where a length is not right or a word of the record is over its field, else what the server does
unfoldable pub zab_of : ℕ → ℕ → ℕ → ℕ → ℕ → List ℕ → List ℕ → List ℕ → List ℕ → List ℕ → List ℕ → After
zab_of n room event who value b h k m o t = pick
    (both (sized room (length b) (length h) (length k) (length o) (length t)) (both (slotted event room (length m)) (fits (words_of RECORD b))))
    (answered (word_step (sizes n room) (state_at (words_of RECORD b)) (event_of event who value) (lent_words event room) h k m o) b h k o t)
    (stays STATE b h k o t)

-- the result r, with the bytes after it, is x
pub record Does (x : After) (r : ℕ) (b h k o t : List ℕ) : Type 0 where
  pub code : r ≡ x.code
  pub rec : b ≡ x.rec
  pub hist : h ≡ x.hist
  pub cand : k ≡ x.cand
  pub box : o ≡ x.box
  pub told : t ≡ x.told

-- ---- the step between its bytes

-- what is lent has the right lengths
pub record Lent (room lent : ℕ) (h k m o : List ℕ) : Type 0 where
  pub most : room ≤ 64
  pub hist : length h ≡ 8 * hist_size room
  pub cand : length k ≡ 8 * hist_size room
  pub msg : 8 * lent ≤ length m
  pub few : lent ≤ 132
  pub box : 8 * box_size room ≤ length o

-- the answer of the server's step x, and the bytes after it
pub record Steps (x : Out) (a : Reply) (h k o h' k' o' : List ℕ) : Type 0 where
  pub code : a.code ≡ x.code
  pub sent : a.sent ≡ x.sent
  pub empties : a.empties ≡ x.empties
  pub state : a.state ≡ x.state
  pub hist : h' ≡ pick (eqb x.code 0) (bytes_of x.hist) h
  pub cand : k' ≡ pick (eqb x.code 0) (bytes_of x.cand) k
  pub box : o' ≡ pick (eqb x.code 0) (put o 0 (bytes_of x.box)) o
