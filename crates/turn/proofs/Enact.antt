-- An event on a server's part of the lent words.
use Prim.Native.Nat.{ℕ, ◌+◌, ◌-◌, ◌*◌}
use mathlib.Core.Path.{◌≡◌, ap, ◌∙◌}
use mathlib.Core.List.{List}
use native.Mathlib.Omega.{arith}
use lib.ListN.{take, drop}
use borrow.Rule.Slice.PartMut.{put_mid}
use Rattle.base.specs.declared.Sizes.{Sizes}
use Rattle.rules.specs.declared.State.{State}
use Rattle.rules.specs.Words.{put}
use Rattle.rules.proofs.Words.{mid-put}
use Rattle.ring.specs.declared.Rings.{Rings}
use Rattle.server.specs.declared.Event.{Event}
use Rattle.server.specs.Whole.{Reply, Known}
use Rattle.site.specs.Parts.{share, part}
use Rattle.turn.specs.Act.{Set, Acts, Seat, Enacts}
use Rattle.site.proofs.Seats.{good-lens}

abbrev lent : Sizes → State → List ℕ → List ℕ
lent z s w = take (share z * s.me + share z - share z * s.me) (drop (share z * s.me) w)

width : (z : Sizes) (s : State) → share z * s.me + share z - share z * s.me ≡ share z
width z s = omega arith

module _ (z : Sizes) (depth : ℕ) (r : Rings) (s : State) (ev : Event) (h k m o : List ℕ) (g : Seat z depth r s ev h k m o) where
  pub enact-asks : Set z depth r s × Known z s ev (lent z s h) (lent z s k) m o
  enact-asks = (g.set, rw (width z s) g.known)

  pub enact-does : (a : Reply) (y x o' : List ℕ) → Acts z depth r s ev (lent z s h) (lent z s k) m o a y x o'
      → Enacts z depth r s ev h k m o a (put_mid (share z * s.me) (share z * s.me + share z - share z * s.me) h y) (put_mid (share z * s.me) (share z * s.me + share z - share z * s.me) k x) o'
  enact-does a y x o' d =
      let b : Acts z depth r s ev (part z s.me h) (part z s.me k) m o a y x o' = rw (width z s) at d in
      let l = good-lens z a.state y x b.kept in
      let p = b.does.hist in
      let q = b.does.cand in
      record {
        acts = rw (← p, ← q) b;
        hists = rw (width z s) (mid-put (share z * s.me) (share z) h y l.0 ∙ ap (put h (share z * s.me)) p);
        cands = rw (width z s) (mid-put (share z * s.me) (share z) k x l.1 ∙ ap (put k (share z * s.me)) q);
      }
