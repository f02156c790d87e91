-- What a follower and the leader answer at the points of the recovery.
use Prim.Native.Nat.{ℕ, ◌+◌, ◌≤◌, ◌<◌, max}
use native.Mathlib.Omega.{arith}
use mathlib.Core.Path.{◌≡◌, refl}
use mathlib.Core.Bool.{Bool, true, false}
use mathlib.Core.List.{[], ◌∷◌}
use lib.Dec.{eqb, leb}
use lib.ListN.{length, take}
use borrow.Author.Tests.{leb-true, eq-eqb}
use Rattle.base.specs.Transaction.{Hist, same_hist}
use Rattle.base.specs.Refusals.{UNDO}
use Rattle.base.specs.declared.Sizes.{Sizes}
use Rattle.base.proofs.Choice.{passes}
use Rattle.rules.specs.Message.{newepoch, acke, newleader, ackld, commitld}
use Rattle.rules.specs.Server.{Dur, Server, F1, F2, F3, F4}
use Rattle.rules.specs.Table.{cell, table}
use Rattle.rules.specs.Tree.{Tree, took, Res, refused, taken}
use Rattle.rules.specs.Step.{receive, keeps, on_newepoch, on_newleader, on_commit}
use Rattle.calm.proofs.Laws.{Runs, pass, stop, two, leaf, gated, each}
use Rattle.calm.proofs.Points.{in_f, dur_f2, dur_f3, dur_f4}

-- a new history keeps what was delivered, or the step is refused
pub kept-or : {P : Type 0} (u : Dur) (h : Hist) (t : Tree) {o : Res} → Runs t o → (Runs (keeps u h t) o → u.d ≤ length h → P) → (Runs (keeps u h t) (refused UNDO) → P) → P
unfolding keeps
kept-or {P = P} u h t r yea nay = go (leb u.d (length h)) (same_hist (take u.d h) (take u.d u.hist)) refl refl
  where
    go : (a b : Bool) → leb u.d (length h) ≡ a → same_hist (take u.d h) (take u.d u.hist) ≡ b → P
    go true true p q = yea (pass p (pass q r)) (leb-true u.d (length h) p)
    go true false p q = nay (pass p (stop q))
    go false b p q = nay (stop p)

module _ (z : Sizes) (x e f : ℕ) (s : Server) where
  mine : eqb (x + 1) (x + 1) ≡ true
  mine = eq-eqb (x + 1) (x + 1) refl

  same : eqb e e ≡ true
  same = eq-eqb e e refl

  -- ---- the follower f
  pub takes-newepoch : s.dur.p < e → Runs (receive z f x (newepoch e) (in_f x F1 s.dur)) (taken false (in_f x F2 (dur_f2 e s)) (each x (acke e s.dur.a s.dur.hist ∷ [])))
  unfolding receive cell table on_newepoch each
  takes-newepoch h =
      let le : leb s.dur.p e ≡ true = omega passes in
      let ne : eqb e s.dur.p ≡ false = omega passes in
      gated 2 F1 refl mine (pass le (two ne (leaf refl)))

  abbrev pub accepts : Hist → Tree
  accepts h = took false (in_f x F3 (dur_f3 e h s)) (each x (ackld e (length h) ∷ []))

  pub takes-newleader : (h : Hist) {o : Res} → Runs (keeps (dur_f2 e s) h (accepts h)) o → Runs (receive z f x (newleader e h) (in_f x F2 (dur_f2 e s))) o
  unfolding receive cell table on_newleader each
  takes-newleader h r = gated 4 F2 refl mine (pass same r)

  pub takes-commitld : (h : Hist) → s.dur.d ≤ length h → Runs (receive z f x (commitld e (length h)) (in_f x F3 (dur_f3 e h s))) (taken false (in_f x F4 (dur_f4 e h)) (each x []))
  unfolding receive cell table on_commit each
  takes-commitld h le =
      let k : leb (length h) (length h) ≡ true = omega passes in
      let m : max s.dur.d (length h) ≡ length h = omega arith in
      gated 6 F3 refl mine (pass same (pass k (leaf (rw m))))
