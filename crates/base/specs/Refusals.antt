-- The paper's number of each refusal.
use Rattle.std.specs.Prelude.{ℕ, Option, Some, None, Result, Ok, Err}
use Rattle.base.specs.declared.Refusal.{Refusal}
use Rattle.base.specs.declared.Refusal.TheVariants.{State, Event, Message, Role, Sender, Phase, Epoch, Gap, Undo, Full, Spent, Room, Trace}

abbrev pub number : Refusal → ℕ
number State = 1
number Event = 2
number Message = 3
number Role = 4
number Sender = 5
number Phase = 6
number Epoch = 7
number Gap = 8
number Undo = 9
number Full = 10
number Spent = 11
number Room = 12
number Trace = 13

-- 0 where nothing is refused, else the refusal's number
abbrev pub number_of : Option Refusal → ℕ
number_of None = 0
number_of (Some r) = number r

-- the same of an answer
abbrev pub code_of : {A : Type 0} → Result A Refusal → ℕ
code_of (Ok a) = 0
code_of (Err r) = number r

abbrev pub STATE : ℕ
STATE = number State

abbrev pub EVENT : ℕ
EVENT = number Event

abbrev pub MESSAGE : ℕ
MESSAGE = number Message

abbrev pub ROLE : ℕ
ROLE = number Role

abbrev pub SENDER : ℕ
SENDER = number Sender

abbrev pub PHASE : ℕ
PHASE = number Phase

abbrev pub EPOCH : ℕ
EPOCH = number Epoch

abbrev pub GAP : ℕ
GAP = number Gap

abbrev pub UNDO : ℕ
UNDO = number Undo

abbrev pub FULL : ℕ
FULL = number Full

abbrev pub SPENT : ℕ
SPENT = number Spent

abbrev pub ROOM : ℕ
ROOM = number Room

abbrev pub TRACE : ℕ
TRACE = number Trace
