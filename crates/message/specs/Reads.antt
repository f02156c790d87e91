-- What a message read from its words means: the message that they say, or junk where it is malformed.
use Rattle.std.specs.Prelude.{ℕ, ◌≤◌, ◌≡◌, Bool, List, eqb, drop, Option, Some, None}
use Rattle.base.specs.Choice.{pick, either}
use Rattle.base.specs.declared.Sizes.{Sizes}
use Rattle.rules.specs.Message.{Msg, junk, formed}
use Rattle.rules.specs.Words.{second, laden, read_msg}
use Rattle.plan.specs.declared.Message.{Message}
use Rattle.plan.specs.Plans.{meant, held}

unfoldable pub well_read : Sizes → Msg → Msg
well_read z x = pick (formed z x) x junk

-- may x be the second number of a message of kind k? (where k has none, zero)
unfoldable pub placed : ℕ → ℕ → Bool
placed k x = either (second k) (eqb x 0)

-- is n the count of a message of kind k? (where k carries a history, any)
unfoldable pub counted : ℕ → ℕ → Bool
counted k n = either (laden k) (eqb n (pick (eqb k 7) 1 0))

-- what was read, its history in the words w: junk where it is no message
abbrev pub meant_by : Option Message → List ℕ → Msg
meant_by None w = junk
meant_by (Some r) w = meant r w

-- how many transactions lie in its words
abbrev pub held_by : Option Message → ℕ
held_by None = 0
held_by (Some r) = held r

-- r stands for the message x, its history in the words w
pub record Told (z : Sizes) (x : Msg) (w : List ℕ) (r : Option Message) : Type 0 where
  pub means : meant_by r w ≡ well_read z x
  pub fits : held_by r ≤ z.room.0

-- r is what the words w of a slot say
pub record Reads (z : Sizes) (w : List ℕ) (r : Option Message) : Type 0 where
  pub means : meant_by r (drop 4 w) ≡ well_read z (read_msg z.room.0 w)
  pub fits : held_by r ≤ z.room.0
