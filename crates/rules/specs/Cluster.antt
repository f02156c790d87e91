-- Servers and the first-in first-out channels between them, an event, a run, and the records that an event leaves.
use Rattle.std.specs.Prelude.{ℕ, suc, Bool, true, false, not, List, [], ◌∷◌, ◌++◌, map, eqb, leb, ltb, length, take, drop}
use Rattle.base.specs.Choice.{pick, both, either, upd, upd₂, all_below}
use Rattle.base.specs.Refusals.{EVENT, MESSAGE, SPENT, ROOM}
use Rattle.base.specs.Record.{Rec, E, B, «V», X, entry}
use Rattle.base.specs.declared.Sizes.{Sizes}
use Rattle.rules.specs.Message.{Msg, Send}
use Rattle.rules.specs.Server.{Server, fresh, L4}
use Rattle.rules.specs.Tree.{Res, refused, taken, run}
use Rattle.rules.specs.Step.{step, Input, oracle, restart, message, submit}

abbrev pub Channels : Type 0
Channels = ℕ → ℕ → List Msg

-- chan f t is what waits from f to t, the first to be delivered first
pub record Cluster : Type 0 where
  pub srv : ℕ → Server
  pub chan : Channels

-- fresh servers, nothing waiting
unfoldable pub start : Cluster
start = record { srv = λ _. fresh; chan = λ _ _. [] }

-- the script's events: O s x, R s, D from to, S s v
pub data Event : Type 0 where
  O : (s x : ℕ) → Event
  R : (s : ℕ) → Event
  D : (f t : ℕ) → Event
  S : (s v : ℕ) → Event

-- all channels to and from i emptied
unfoldable pub emptied : ℕ → Channels → Channels
emptied i c f t = pick (either (eqb f i) (eqb t i)) [] (c f t)

-- what i sends, put behind what waits
unfoldable pub post : ℕ → List Send → Channels → Channels
post i [] c = c
post i (x ∷ xs) c = post i xs (upd₂ c i x.to (c i x.to ++ (x.msg ∷ [])))

-- no channel from i holds more than its depth D
unfoldable pub roomy : ℕ → ℕ → ℕ → Channels → Bool
roomy n depth i c = all_below n (λ t. leb (length (c i t)) depth)

-- an event is told a refusal, or done by server i, which was s and is now s'; `asked` if it was a submission
pub data Outcome : Type 0 where
  told : (refusal : ℕ) (after : Cluster) → Outcome
  done : (i : ℕ) (s s' : Server) (asked : Bool) (after : Cluster) → Outcome

-- a refusal from 3 to 11 drops the message handed over
unfoldable pub drops : ℕ → Bool
drops k = both (leb MESSAGE k) (leb k SPENT)

-- server i's answer, where `rest` is what waits besides the message handed over
unfoldable pub answer : Sizes → ℕ → Cluster → ℕ → Bool → Channels → Res → Outcome
answer z depth c i asked rest (refused k) = told k (pick (drops k) (record { srv = c.srv; chan = rest }) c)
answer z depth c i asked rest (taken empties s out) =
    let q = post i out (pick empties (emptied i rest) rest) in
    pick (roomy z.n depth i q) (done i (c.srv i) s asked (record { srv = upd c.srv i s; chan = q })) (told ROOM c)

-- an event at server i, if there is such a server
unfoldable pub at : Sizes → ℕ → Cluster → ℕ → Bool → Channels → Input → Outcome
at z depth c i asked rest e = pick (ltb i z.n) (answer z depth c i asked rest (run (step z i e (c.srv i)))) (told EVENT c)

-- the delivery of what waits from f to t
unfoldable pub hand : Sizes → ℕ → Cluster → ℕ → ℕ → List Msg → Outcome
hand z depth c f t [] = told EVENT c
hand z depth c f t (m ∷ q) = at z depth c t false (upd₂ c.chan f t q) (message f m)

unfoldable pub event : Sizes → ℕ → Cluster → Event → Outcome
event z depth c (O s x) = at z depth c s false c.chan (oracle x)
event z depth c (R s) = at z depth c s false c.chan restart
event z depth c (D f t) = hand z depth c f t (c.chan f t)
event z depth c (S s v) = at z depth c s true c.chan (submit v)

unfoldable pub after : Outcome → Cluster
after (told k c) = c
after (done i s s' asked c) = c

-- was it taken?
unfoldable pub is_done : Outcome → Bool
is_done (told k c) = false
is_done (done i s s' asked c) = true

-- ---- the records of an event, in the order E, B, V

unfoldable pub enters : ℕ → Server → Server → List Rec
enters i s s' = pick (both (not (eqb s.stage L4)) (eqb s'.stage L4)) (E i s'.dur.p ∷ []) []

unfoldable pub begun : ℕ → Bool → Server → Server → List Rec
begun i asked s s' = pick asked (map (λ t. B i (entry t)) (drop (length s.dur.hist) s'.dur.hist)) []

unfoldable pub newly : ℕ → Server → Server → List Rec
newly i s s' = map (λ t. «V» i (entry t)) (drop s.dur.d (take s'.dur.d s'.dur.hist))

unfoldable pub records : ℕ → Outcome → List Rec
records line (told k c) = X line k ∷ []
records line (done i s s' asked c) = enters i s s' ++ (begun i asked s s' ++ newly i s s')

-- ---- many events

-- the cluster after them
unfoldable pub play : Sizes → ℕ → Cluster → List Event → Cluster
play z depth c [] = c
play z depth c (e ∷ es) = play z depth (after (event z depth c e)) es

-- what they leave in the trace, the first of them being line `line` of the script
unfoldable pub trace : Sizes → ℕ → Cluster → ℕ → List Event → List Rec
trace z depth c line [] = []
trace z depth c line (e ∷ es) = records line (event z depth c e) ++ trace z depth (after (event z depth c e)) (suc line) es
