-- A step sends at most eight messages, so their number is a byte.
use Prim.Native.Nat.{ℕ, zero, suc, ◌≤◌}
use mathlib.Core.Bool.{Bool, true, false, not}
use mathlib.Core.List.{List, [], ◌∷◌, ◌++◌}
use native.Mathlib.Omega.{arith}
use lib.Dec.{eqb, leb}
use lib.ListN.{length, length-append}
use borrow.Author.Tests.{leb-true}
use Rattle.base.specs.Choice.{pick, both}
use Rattle.base.specs.Quorum.{Set}
use Rattle.base.specs.declared.Sizes.{Sizes}
use Rattle.base.proofs.Choice.{both_true, pick_at}
use Rattle.rules.specs.declared.State.{State}
use Rattle.rules.specs.Message.{Msg, cepoch, newepoch, acke, newleader, ackld, commitld, propose, ack, commit, junk, Send}
use Rattle.rules.specs.Server.{Server, good_sizes}
use Rattle.rules.specs.Tree.{Tree, need, fork, deny, took, Res, refused, taken, run, gate, to_all}
use Rattle.rules.specs.Step.{step, oracle, restart, message, submit, Input, keeps, on_oracle, on_restart, l1_join, l2_join, l34_join, on_cepoch, l2_count, on_acke, l3_sync, l4_advance, on_ackld, on_ack, on_newepoch, on_newleader, on_propose, on_commit, receive, on_submit}
use Rattle.rules.specs.Words.{read_msg, server_of}
use Rattle.server.specs.declared.Event.{Event}
use Rattle.server.specs.declared.Event.TheVariants.{Oracle, Restart, Deliver, Submit, Unknown}
use Rattle.server.specs.Whole.{Out, answer_of, can, six, written, step_of}

Few : Tree → Type 0
Few (need b r t) = Few t
Few (fork b x y) = Few x × Few y
Few (deny r) = Unit
Few (took b s out) = length out ≤ 8

Answers : Res → Type 0
Answers (refused r) = Unit
Answers (taken b s out) = length out ≤ 8

run-few : (t : Tree) → Few t → Answers (run t)
unfolding Few Answers run
run-few (need true r t) f = run-few t f
run-few (need false r t) f = tt
run-few (fork true x y) f = run-few x f.0
run-few (fork false x y) f = run-few y f.1
run-few (deny r) f = tt
run-few (took b s out) f = f

one-or-none : (b : Bool) (x : Send) → length (pick b (x ∷ []) []) ≤ 1
unfolding pick
one-or-none true x = omega arith
one-or-none false x = omega arith

all-few : (n i : ℕ) (q : Set) (m : Msg) → length (to_all n i q m) ≤ n
unfolding to_all
all-few zero i q m = omega arith
all-few (suc n) i q m =
    let x : Send = record { to = n; msg = m } in
    let b = both (q n) (not (eqb n i)) in
    omega (arith, length-append (to_all n i q m) (pick b (x ∷ []) []), all-few n i q m, one-or-none b x)

module _ (z : Sizes) (seven : z.n ≤ 7) (i : ℕ) (s : Server) where
  cast : (q : Set) (m : Msg) → length (to_all z.n i q m) ≤ 8
  cast q m = omega (arith, all-few z.n i q m)

  -- COMMIT to some, and what more follows
  advance-few : (b : Bool) (q : Set) (m : Msg) (more : List Send) → length more ≤ 1 → length (pick b (to_all z.n i q m) [] ++ more) ≤ 8
  unfolding pick
  advance-few true q m more h = omega (arith, length-append (to_all z.n i q m) more, all-few z.n i q m)
  advance-few false q m more h = omega arith

  receive-few : (f : ℕ) (m : Msg) → Few (receive z i f m s)
  unfolding Few receive gate keeps on_cepoch l1_join l2_join l34_join on_acke l2_count on_ackld l3_sync l4_advance on_ack on_newepoch on_newleader on_propose on_commit
  receive-few f (cepoch e) = ((cast _ _, omega arith), (omega arith, omega arith))
  receive-few f (newepoch e) = (omega arith, omega arith)
  receive-few f (acke e a h) = (((cast _ _, omega arith), (cast _ _, omega arith)), omega arith)
  receive-few f (newleader e h) = omega arith
  receive-few f (ackld e c) = ((cast _ _, omega arith), advance-few _ _ _ _ (omega arith))
  receive-few f (commitld e c) = omega arith
  receive-few f (propose e k t) = omega arith
  receive-few f (ack e k) = advance-few _ _ _ _ (omega arith)
  receive-few f (commit e c) = omega arith
  receive-few f junk = tt

  step-few : (e : Input) → Few (step z i e s)
  unfolding Few step on_oracle on_restart on_submit
  step-few (oracle x) = (omega arith, omega arith)
  step-few restart = omega arith
  step-few (message f m) = receive-few f m
  step-few (submit v) = cast _ _

module _ (z : Sizes) (s : State) (ev : Event) (h k m o : List ℕ) where
  answer-few : z.n ≤ 7 → (e : Event) → Answers (answer_of z s e h k m)
  unfolding Answers answer_of
  answer-few n (Oracle x) = run-few _ (step-few z n s.me (server_of s h k) (oracle x))
  answer-few n Restart = run-few _ (step-few z n s.me (server_of s h k) restart)
  answer-few n (Deliver f) = run-few _ (step-few z n s.me (server_of s h k) (message f (read_msg z.room.0 m)))
  answer-few n (Submit v) = run-few _ (step-few z n s.me (server_of s h k) (submit v))
  answer-few n Unknown = tt

  written-few : (r : Res) → Answers r → (written z s h k o r).sent ≤ 8
  unfolding Answers written
  written-few (refused c) f = omega arith
  written-few (taken b t out) f = f

  pub sent-few : (step_of z s ev h k m o).sent ≤ 8
  unfolding step_of can good_sizes
  sent-few = pick_at (λ (x : Out). x.sent ≤ 8) (both (can z s ev h k m) (six z o)) _ _
      (λ e.
      let c = (both_true (can z s ev h k m) (six z o) e).0 in
      let g = (both_true (good_sizes z) _ c).0 in
      let n = (both_true (leb 3 z.n) _ g).1 in
      written-few _ (answer-few (leb-true z.n 7 (both_true (leb z.n 7) _ n).0) ev))
      (λ e. omega arith)
