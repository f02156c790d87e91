-- An event at one server of the cluster: the rules' answer, unless a channel would pass its depth.
use Rattle.std.specs.Prelude.{ℕ, ◌+◌, ◌*◌, ◌≤◌, ◌<◌, ◌≡◌, Bool, true, List, leb, length, Result, Ok, Err}
use Rattle.base.specs.Choice.{pick, all_below}
use Rattle.base.specs.Refusals.{ROOM}
use Rattle.base.specs.declared.Refusal.{Refusal}
use Rattle.base.specs.declared.Sizes.{Sizes}
use Rattle.rules.specs.declared.State.{State}
use Rattle.rules.specs.Tree.{Res, refused, taken}
use Rattle.rules.specs.Words.{server_of, good_state, put}
use Rattle.ring.specs.declared.Rings.{Rings}
use Rattle.ring.specs.Queue.{cell, count, good_rings}
use Rattle.post.specs.Room.{fits}
use Rattle.plan.specs.declared.Plan.{Plan}
use Rattle.server.specs.declared.Event.{Event}
use Rattle.server.specs.Whole.{answer_of, Known, Out, Reply, stay, written, Does, Took}
use Rattle.post.specs.Room.{how_many}
use Rattle.site.specs.Parts.{share, part}

-- is there room for what is sent? a refusal sends nothing
unfoldable pub room_for : Sizes → ℕ → Rings → ℕ → Res → Bool
room_for z depth r i (refused k) = true
room_for z depth r i (taken b s out) = all_below z.n (λ t. leb (pick b 0 (count r (cell z.n i t)) + how_many out t) depth)

-- the same of a plan
unfoldable pub may_send : Sizes → ℕ → Rings → ℕ → Result Plan Refusal → Bool
may_send z depth r i (Ok p) = fits z depth r i p.empties p.one.to p.two.to
may_send z depth r i (Err k) = true

-- all that it leaves: ROOM leaves every word as it was
unfoldable pub acted : Sizes → ℕ → Rings → State → List ℕ → List ℕ → List ℕ → Res → Out
acted z depth r s h k o x = pick (room_for z depth r s.me x) (written z s h k o x) (stay ROOM s h k o)

pub record Set (z : Sizes) (depth : ℕ) (r : Rings) (s : State) : Type 0 where
  pub few : z.n ≤ 7
  pub deep : depth ≤ 16
  pub rings : good_rings depth r ≡ true
  pub me : s.me < z.n

pub record Acts (z : Sizes) (depth : ℕ) (r : Rings) (s : State) (ev : Event) (h k m o : List ℕ) (a : Reply) (h' k' o' : List ℕ) : Type 0 where
  pub does : Does (acted z depth r s h k o (answer_of z s ev h k m)) a h' k' o'
  pub kept : good_state z a.state h' k' ≡ true
  pub took : a.code ≡ 0 → Took (answer_of z s ev h k m) (server_of a.state h' k')

-- ---- the same, on the server's part of the lent words of all

pub record Seat (z : Sizes) (depth : ℕ) (r : Rings) (s : State) (ev : Event) (h k m o : List ℕ) : Type 0 where
  pub set : Set z depth r s
  pub known : Known z s ev (part z s.me h) (part z s.me k) m o
  pub room : z.room.0 ≤ 64
  pub hists : share z * s.me + share z ≤ length h
  pub cands : share z * s.me + share z ≤ length k

abbrev pub acted_at : Sizes → ℕ → Rings → State → Event → List ℕ → List ℕ → List ℕ → List ℕ → Out
acted_at z depth r s ev h k m o = acted z depth r s (part z s.me h) (part z s.me k) o (answer_of z s ev (part z s.me h) (part z s.me k) m)

pub record Enacts (z : Sizes) (depth : ℕ) (r : Rings) (s : State) (ev : Event) (h k m o : List ℕ) (a : Reply) (h' k' o' : List ℕ) : Type 0 where
  pub acts : Acts z depth r s ev (part z s.me h) (part z s.me k) m o a (acted_at z depth r s ev h k m o).hist (acted_at z depth r s ev h k m o).cand o'
  pub hists : h' ≡ put h (share z * s.me) (acted_at z depth r s ev h k m o).hist
  pub cands : k' ≡ put k (share z * s.me) (acted_at z depth r s ev h k m o).cand
