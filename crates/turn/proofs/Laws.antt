-- The test of room before the hands is the rules'.
use mathlib.Core.Logic.{◌⊎◌, inl, inr}
use Rattle.base.specs.Refusals.{number}
use Rattle.base.specs.declared.Refusal.TheVariants.{State as StateR, Event as EventR, Message, Role, Sender, Phase, Epoch, Gap, Undo, Full, Spent, Room as RoomR, Trace as TraceR}
use Rattle.rules.specs.Cluster.{drops}
use Rattle.std.specs.Prelude.{Result, Ok, Err}
use Rattle.base.specs.declared.Refusal.{Refusal}
use Prim.Native.Nat.{ℕ, ◌+◌}
use mathlib.Core.Path.{◌≡◌, refl, sym, ◌∙◌}
use mathlib.Core.Bool.{Bool, true, false}
use mathlib.Core.List.{List, ◌++◌}
use native.Mathlib.Omega.{arith}
use lib.Dec.{leb}
use Rattle.base.specs.Choice.{pick, both, all_below}
use Rattle.base.specs.declared.Sizes.{Sizes}
use Rattle.rules.specs.declared.State.{State}
use Rattle.rules.specs.Message.{Msg}
use Rattle.rules.specs.Tree.{Res, to_all}
use Rattle.rules.specs.Words.{has}
use Rattle.ring.specs.declared.Rings.{Rings}
use Rattle.ring.specs.Queue.{cell, count}
use Rattle.post.specs.Room.{fits, how_many}
use Rattle.post.proofs.Rooms.{many-append, many-all, all_same}
use Rattle.plan.specs.declared.Plan.{Plan}
use Rattle.plan.specs.Plans.{Plans, meaning, sends, cast_of}
use Rattle.server.specs.declared.Event.{Event}
use Rattle.server.specs.Whole.{Reply, answer_of, Known, Decides, Steps}
use Rattle.turn.specs.Act.{room_for, may_send, acted, Acts}

fits-sends : (z : Sizes) (depth : ℕ) (r : Rings) (i : ℕ) (b : Bool) (one two : List Bool) (x y : Msg)
    → fits z depth r i b one two ≡ all_below z.n (λ t. leb (pick b 0 (count r (cell z.n i t)) + how_many (to_all z.n i (has one) x ++ to_all z.n i (has two) y) t) depth)
unfolding fits
fits-sends z depth r i b one two x y = all_same z.n _ _ (λ t l. rw (many-append (to_all z.n i (has one) x) (to_all z.n i (has two) y) t, many-all z.n i (has one) x t l, many-all z.n i (has two) y t l))

-- the plan's test is that of its meaning
pub room-is : (z : Sizes) (depth : ℕ) (r : Rings) (s : State) (p : Result Plan Refusal) (h k m : List ℕ) (x : Res) → Plans z s p h k m x → may_send z depth r s.me p ≡ room_for z depth r s.me x
unfolding may_send meaning room_for sends cast_of
room-is z depth r s (Ok p) h k m x d = rw (← d.means, d.fit.me) (fits-sends z depth r s.me p.empties p.one.to p.two.to _ _)
room-is z depth r s (Err c) h k m x d = rw (← d.means)

module _ (z : Sizes) (depth : ℕ) (r : Rings) (s : State) (ev : Event) (p : Result Plan Refusal) (h k m o : List ℕ) (d : Decides z s ev p h k m) where
  room_of : (b : Bool) → b ≡ may_send z depth r s.me p → room_for z depth r s.me (answer_of z s ev h k m) ≡ b
  room_of b e = sym (room-is z depth r s p h k _ (answer_of z s ev h k m) d.plans) ∙ sym e

  pub act-room : (a : Reply) (b : Bool) → Known z s ev h k m o → b ≡ may_send z depth r s.me p → b ≡ false
      → a ≡ record { code = 12; sent = 0; empties = false; state = s } → Acts z depth r s ev h k m o a h k o
  unfolding acted pick
  act-room a b w e f g =
      let x : room_for z depth r s.me (answer_of z s ev h k m) ≡ false = room_of b e ∙ f in
      rw g (record {
        does = rw x (record { code = refl; sent = refl; empties = refl; state = refl; hist = refl; cand = refl; box = refl });
        kept = w.can.state;
        took = λ q. absurd (omega arith);
      })

  pub act-done : (a : Reply) (h' k' o' : List ℕ) (b : Bool) → b ≡ may_send z depth r s.me p → b ≡ true → Steps z s ev h k m o a h' k' o' → Acts z depth r s ev h k m o a h' k' o'
  unfolding acted pick
  act-done a h' k' o' b e f g =
      let x : room_for z depth r s.me (answer_of z s ev h k m) ≡ true = room_of b e ∙ f in
      record { does = rw x g.does; kept = g.kept; took = g.took }

-- ---- what a refused delivery drops

pub kept-back : (why : Refusal) → why ≡ StateR ⊎ why ≡ EventR ⊎ why ≡ RoomR ⊎ why ≡ TraceR → drops (number why) ≡ false
unfolding drops both
kept-back why (inl e) = rw e refl
kept-back why (inr (inl e)) = rw e refl
kept-back why (inr (inr (inl e))) = rw e refl
kept-back why (inr (inr (inr e))) = rw e refl

pub dropped : (why : Refusal) → (why ≡ StateR → ⊥) → (why ≡ EventR → ⊥) → (why ≡ RoomR → ⊥) → (why ≡ TraceR → ⊥) → drops (number why) ≡ true
unfolding drops both
dropped StateR a b c d = absurd (a refl)
dropped EventR a b c d = absurd (b refl)
dropped Message a b c d = refl
dropped Role a b c d = refl
dropped Sender a b c d = refl
dropped Phase a b c d = refl
dropped Epoch a b c d = refl
dropped Gap a b c d = refl
dropped Undo a b c d = refl
dropped Full a b c d = refl
dropped Spent a b c d = refl
dropped RoomR a b c d = absurd (c refl)
dropped TraceR a b c d = absurd (d refl)
