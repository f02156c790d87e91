-- The whole answer of a step on lent words: the record, every word of the history, of the candidate and of the outbox.
use Rattle.std.specs.Prelude.{ℕ, ◌*◌, ◌≤◌, ◌≡◌, Bool, true, false, List, eqb, leb, length, drop, Result, Ok, Err, IfOk}
use Rattle.base.specs.Choice.{pick, both}
use Rattle.base.specs.Refusals.{number, STATE, EVENT}
use Rattle.base.specs.declared.Refusal.{Refusal}
use Rattle.base.specs.declared.Sizes.{Sizes}
use Rattle.rules.specs.declared.State.{State}
use Rattle.rules.specs.Message.{Send}
use Rattle.rules.specs.Server.{Server, good_sizes}
use Rattle.rules.specs.Tree.{Res, refused, taken, run}
use Rattle.rules.specs.Step.{step, oracle, restart, message, submit}
use Rattle.rules.specs.Words.{WORDS, msg_size, slot_size, read_msg, server_of, state_of, hist_words, good_state, boxed}
use Rattle.plan.specs.declared.Plan.{Plan}
use Rattle.plan.specs.Plans.{Plans}
use Rattle.server.specs.declared.Event.{Event}
use Rattle.server.specs.declared.Event.TheVariants.{Oracle, Restart, Deliver, Submit, Unknown}
use Rattle.server.specs.declared.Answer.{Answer}

-- what the rules answer to an event, where h, k and m are the words of the history, of the candidate and of the message
unfoldable pub answer_of : Sizes → State → Event → List ℕ → List ℕ → List ℕ → Res
answer_of z s (Oracle x) h k m = run (step z s.me (oracle x) (server_of s h k))
answer_of z s Restart h k m = run (step z s.me restart (server_of s h k))
answer_of z s (Deliver f) h k m = run (step z s.me (message f (read_msg z.room.0 m)) (server_of s h k))
answer_of z s (Submit v) h k m = run (step z s.me (submit v) (server_of s h k))
answer_of z s Unknown h k m = refused EVENT

-- a delivered message has the words of a slot; other events read none
unfoldable pub lent_len : Sizes → Event → ℕ → Bool
lent_len z (Oracle x) l = true
lent_len z Restart l = true
lent_len z (Deliver f) l = eqb l (msg_size z.room.0)
lent_len z (Submit v) l = true
lent_len z Unknown l = true

abbrev pub lent : Sizes → Event → List ℕ → Bool
lent z ev m = lent_len z ev (length m)

-- where a delivered message's history begins
unfoldable pub load_at : Event → ℕ
load_at (Oracle x) = 0
load_at Restart = 0
load_at (Deliver f) = 4
load_at (Submit v) = 0
load_at Unknown = 0

-- sizes, record and lent words are well formed
unfoldable pub can : Sizes → State → Event → List ℕ → List ℕ → List ℕ → Bool
can z s ev h k m = both (good_sizes z) (both (good_state z s h k) (lent z ev m))

pub record Can (z : Sizes) (s : State) (ev : Event) (h k m : List ℕ) : Type 0 where
  pub sizes : good_sizes z ≡ true
  pub state : good_state z s h k ≡ true
  pub words : lent z ev m ≡ true

-- and the outbox has six slots
unfoldable pub six : Sizes → List ℕ → Bool
six z o = leb (6 * slot_size z.room.0) (length o)

pub record Known (z : Sizes) (s : State) (ev : Event) (h k m o : List ℕ) : Type 0 where
  pub can : Can z s ev h k m
  pub box : six z o ≡ true

-- all that a step leaves
pub record Out : Type 0 where
  pub code : ℕ
  pub sent : ℕ
  pub empties : Bool
  pub state : State
  pub hist : List ℕ
  pub cand : List ℕ
  pub box : List ℕ

-- a refusal leaves every word as it was
abbrev pub stay : ℕ → State → List ℕ → List ℕ → List ℕ → Out
stay c s h k o = record { code = c; sent = 0; empties = false; state = s; hist = h; cand = k; box = o }

unfoldable pub written : Sizes → State → List ℕ → List ℕ → List ℕ → Res → Out
written z s h k o (refused c) = stay c s h k o
written z s h k o (taken b t out) = record {
  code = 0;
  sent = length out;
  empties = b;
  state = state_of s.me t;
  hist = hist_words z.room.0 t.dur.hist;
  cand = hist_words z.room.0 t.vol.cand_hist;
  box = boxed z.room.0 o 0 out;
}

-- THE STEP: STATE where something lent is not well formed or the outbox is too small, else what the rules say
unfoldable pub step_of : Sizes → State → Event → List ℕ → List ℕ → List ℕ → List ℕ → Out
step_of z s ev h k m o = pick (both (can z s ev h k m) (six z o)) (written z s h k o (answer_of z s ev h k m)) (stay STATE s h k o)

-- an answer of the code in these terms: a refusal sends nothing and leaves the record s
pub record Reply : Type 0 where
  pub code : ℕ
  pub sent : ℕ
  pub empties : Bool
  pub state : State

abbrev pub reply : State → Result Answer Refusal → Reply
reply s (Ok a) = record { code = 0; sent = a.sent; empties = a.empties; state = a.state }
reply s (Err c) = record { code = number c; sent = 0; empties = false; state = s }

-- the answer r, with the words h, k and o after it, is x
pub record Does (x : Out) (r : Reply) (h k o : List ℕ) : Type 0 where
  pub code : r.code ≡ x.code
  pub sent : r.sent ≡ x.sent
  pub empties : r.empties ≡ x.empties
  pub state : r.state ≡ x.state
  pub hist : h ≡ x.hist
  pub cand : k ≡ x.cand
  pub box : o ≡ x.box

-- ---- the plan of an event, and the step of a record known to be well formed

-- what the plan says it reads of the message is there
pub record Loads (r : Plan) (m : List ℕ) : Type 0 where
  pub hist : r.hist ≡ 1 → WORDS * r.state.len.0 ≤ length m
  pub cand : r.cand ≡ 1 → WORDS * r.state.cand_len.0 ≤ length m

pub record Decides (z : Sizes) (s : State) (ev : Event) (r : Result Plan Refusal) (h k m : List ℕ) : Type 0 where
  pub plans : Plans z s r h k (drop (load_at ev) m) (answer_of z s ev h k m)
  pub loads : IfOk r (λ p. Loads p (drop (load_at ev) m))

-- the answer x takes the event, and leaves the server t
pub record Took (x : Res) (t : Server) : Type 0 where
  pub empties : Bool
  pub out : List Send
  pub is : x ≡ taken empties t out

-- all that it leaves, well formed; the record and words of a step taken stand for the server that the rules leave
pub record Steps (z : Sizes) (s : State) (ev : Event) (h k m o : List ℕ) (a : Reply) (h' k' o' : List ℕ) : Type 0 where
  pub does : Does (written z s h k o (answer_of z s ev h k m)) a h' k' o'
  pub kept : good_state z a.state h' k' ≡ true
  pub took : a.code ≡ 0 → Took (answer_of z s ev h k m) (server_of a.state h' k')
