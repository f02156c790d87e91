-- What a server sent goes into the rings, after its channels were emptied if it says so.
use Prim.Native.Nat.{ℕ}
use mathlib.Core.Path.{◌≡◌, ap, ◌∙◌}
use mathlib.Core.Bool.{Bool, true, false}
use mathlib.Core.List.{List}
use Rattle.base.specs.Choice.{pick}
use Rattle.base.specs.declared.Sizes.{Sizes}
use Rattle.rules.specs.Cluster.{post}
use Rattle.ring.specs.declared.Rings.{Rings}
use Rattle.ring.specs.Queue.{vacated, Emptied}
use Rattle.post.specs.Posts.{sends_at, rungs, strewn, Ready, Posted}
use Rattle.turn.specs.Events.{sent_rings, sent_queue}
use Rattle.turn.specs.Turns.{Ships, Shipped}

module _ (z : Sizes) (depth : ℕ) (r : Rings) (q : List ℕ) (i : ℕ) (b : Bool) (o : List ℕ) (n : ℕ) (g : Ships z depth r q i b o n) where
  pub ready-bare : (s : Rings) (p : List ℕ) → b ≡ true → Emptied z depth r q i s p → Ready z depth s p i o n
  unfolding pick
  ready-bare s p e d = record {
    good = d.good;
    sender = g.sender;
    box = g.box;
    few = g.few;
    to = g.to;
    room = rw d.chans (rw e at g.room);
  }

  pub ready-full : b ≡ false → Ready z depth r q i o n
  unfolding pick
  ready-full e = record { good = g.good; sender = g.sender; box = g.box; few = g.few; to = g.to; room = rw e at g.room }

  pub sent-bare : (s t : Rings) (p w : List ℕ) → b ≡ true → Emptied z depth r q i s p → Posted z depth s p i o n t w → Shipped z depth r q i b o n t w
  unfolding pick sent_rings sent_queue
  sent-bare s t p w e d a = rw e (record {
    rings = a.rings ∙ ap (λ (x : Rings). rungs z x i o n) d.rings;
    words = a.words ∙ ap (λ (x : Rings). strewn z depth x p i o n) d.rings ∙ ap (λ (x : List ℕ). strewn z depth (vacated z.n i z.n r) x i o n) d.words;
    chans = a.chans ∙ ap (post i (sends_at z.room.0 o n)) d.chans;
    good = a.good;
  })

  pub sent-full : (t : Rings) (w : List ℕ) → b ≡ false → Posted z depth r q i o n t w → Shipped z depth r q i b o n t w
  unfolding pick sent_rings sent_queue
  sent-full t w e a = rw e (record { rings = a.rings; words = a.words; chans = a.chans; good = a.good })
