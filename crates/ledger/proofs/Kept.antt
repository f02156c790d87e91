-- Nothing delivered is lost.
use Prim.Native.Nat.{ℕ}
use mathlib.Core.Path.{◌≡◌, refl}
use mathlib.Core.List.{List, [], ◌∷◌, ◌++◌}
use Rattle.base.specs.Transaction.{Begins}
use Rattle.base.specs.declared.Sizes.{Sizes}
use Rattle.rules.specs.Cluster.{Cluster, start, Event, event, after, play}
use Rattle.ledger.specs.Delivered.{delivered_of}
use Rattle.ledger.proofs.Claims.{deliv-up}
use Rattle.ledger.proofs.Cluster.{Inv, Later, play-ok, runs-ok}
use Rattle.ledger.proofs.Agreement.{deliv-fit, fit-pre}

-- some events, and then others
pub play-append : (z : Sizes) (depth : ℕ) (c : Cluster) (es fs : List Event) → play z depth c (es ++ fs) ≡ play z depth (play z depth c es) fs
unfolding play
play-append z depth c [] fs = refl
play-append z depth c (e ∷ es) fs = play-append z depth (after (event z depth c e)) es fs

-- what was delivered is committed still, and so fits what is delivered now
pub later-kept : (n : ℕ) (c c' : Cluster) (I : Inv n c) → Later n c I c' → (i : ℕ) → Begins (delivered_of (c.srv i)) (delivered_of (c'.srv i))
later-kept n c c' I L i =
    let s = (c.srv i).dur in
    let s' = (c'.srv i).dur in
    let u = (I.srv i).dur.del in
    let f = deliv-fit n L.inv.g L.inv.good s.hist s'.hist s.a s'.a s.d s'.d
    (deliv-up n I.g L.inv.g I.good L.grow s.a s.d s.hist u) (L.inv.srv i).dur.del in
    fit-pre s.hist s'.hist s.d s'.d u.fits (L.more i) (f.left (L.more i))

-- KEPT. What a server has delivered after some events begins what it has delivered after any further ones.
pub kept : (z : Sizes) (depth : ℕ) (es fs : List Event) (i : ℕ)
    → Begins (delivered_of ((play z depth start es).srv i)) (delivered_of ((play z depth start (es ++ fs)).srv i))
kept z depth es fs i =
    let c = play z depth start es in
    let I = runs-ok z depth es in
    rw (play-append z depth start es fs) (later-kept z.n c (play z depth c fs) I (play-ok z depth c I fs) i)
