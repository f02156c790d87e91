-- The leader goes on: what a raise of all points keeps, whom it tells, and how the leader's sets look after it.
use Prim.Native.Nat.{ℕ}
use mathlib.Core.Path.{◌≡◌, refl}
use mathlib.Core.Bool.{true, false, false≢true, true≢false}
use mathlib.Core.List.{[], ◌∷◌, ◌++◌}
use lib.ListN.{length}
use Rattle.base.specs.Choice.{pick}
use Rattle.base.specs.Transaction.{Hist}
use Rattle.rules.specs.Message.{newepoch, newleader, commitld}
use Rattle.rules.specs.Server.{Server}
use Rattle.calm.proofs.Engine.{Scene, Kept}
use Rattle.calm.proofs.Points.{K, k1, k2, k3, Pt, out, me, a0, a1, b1, b2, b3, c1, c2, c3, c4, c5, c6, d1, d2, is_me, is_in, joins, counts, syncs, held, fwd, G1, G2, G3, r12, r23, r34, recovery}

-- ---- no server notices

module _ (w : Scene) (init : ℕ → Server) where
  open w use {z, x}

  pub kept12 : (a : ℕ) (h : Hist) (p : Pt k1) → Kept w (recovery z.n x init) G1 (G2 a h) p (r12 p)
  kept12 a h out = record { is_me' = refl; is_in' = refl; left' = refl; back' = λ s. refl; now' = λ s. refl; fact' = λ d g. g }
  kept12 a h me = record { is_me' = refl; is_in' = refl; left' = refl; back' = λ s. refl; now' = λ s. refl; fact' = λ d g. g }
  kept12 a h a0 = record { is_me' = refl; is_in' = refl; left' = refl; back' = λ s. refl; now' = λ s. refl; fact' = λ d g. g }
  kept12 a h a1 = record { is_me' = refl; is_in' = refl; left' = refl; back' = λ s. refl; now' = λ s. refl; fact' = λ d g. g }

  pub kept23 : (a : ℕ) (g h : Hist) (p : Pt k2) → Kept w (recovery z.n x init) (G2 a g) (G3 false h) p (r23 p)
  kept23 a g h out = record { is_me' = refl; is_in' = refl; left' = refl; back' = λ s. refl; now' = λ s. refl; fact' = λ d g y. absurd (false≢true y) }
  kept23 a g h me = record { is_me' = refl; is_in' = refl; left' = refl; back' = λ s. refl; now' = λ s. refl; fact' = λ d g y. absurd (false≢true y) }
  kept23 a g h a0 = record { is_me' = refl; is_in' = refl; left' = refl; back' = λ s. refl; now' = λ s. refl; fact' = λ d g y. absurd (false≢true y) }
  kept23 a g h b1 = record { is_me' = refl; is_in' = refl; left' = refl; back' = λ s. refl; now' = λ s. refl; fact' = λ d g y. absurd (false≢true y) }
  kept23 a g h b2 = record { is_me' = refl; is_in' = refl; left' = refl; back' = λ s. refl; now' = λ s. refl; fact' = λ d g y. absurd (false≢true y) }
  kept23 a g h b3 = record { is_me' = refl; is_in' = refl; left' = refl; back' = λ s. refl; now' = λ s. refl; fact' = λ d g y. absurd (false≢true y) }

  pub kept34 : (h : Hist) (p : Pt (k3 false)) → Kept w (recovery z.n x init) (G3 false h) (G3 true h) p (r34 p)
  kept34 h out = record { is_me' = refl; is_in' = refl; left' = refl; back' = λ s. refl; now' = λ s. refl; fact' = λ d g. g }
  kept34 h me = record { is_me' = refl; is_in' = refl; left' = refl; back' = λ s. refl; now' = λ s. refl; fact' = λ d g. g }
  kept34 h a0 = record { is_me' = refl; is_in' = refl; left' = refl; back' = λ s. refl; now' = λ s. refl; fact' = λ d g. g }
  kept34 h c1 = record { is_me' = refl; is_in' = refl; left' = refl; back' = λ s. refl; now' = λ s. refl; fact' = λ d g. g }
  kept34 h c2 = record { is_me' = refl; is_in' = refl; left' = refl; back' = λ s. refl; now' = λ s. refl; fact' = λ d g. g }
  kept34 h c3 = record { is_me' = refl; is_in' = refl; left' = refl; back' = λ s. refl; now' = λ s. refl; fact' = λ d g. g }
  kept34 h c4 = record { is_me' = refl; is_in' = refl; left' = refl; back' = λ s. refl; now' = λ s. refl; fact' = λ d g. g }
  kept34 h c5 = record { is_me' = refl; is_in' = refl; left' = refl; back' = λ s. refl; now' = λ s. refl; fact' = λ d g. g }
  kept34 h c6 = record { is_me' = refl; is_in' = refl; left' = refl; back' = λ s. refl; now' = λ s. refl; fact' = λ d g. g }

-- ---- whom the leader tells

pub sends12 : (e : ℕ) (p : Pt k1) → is_me p ≡ false → fwd e [] (r12 p) ≡ fwd e [] p ++ pick (joins p) (newepoch e ∷ []) []
unfolding pick
sends12 e out m = refl
sends12 e me m = absurd (true≢false m)
sends12 e a0 m = refl
sends12 e a1 m = refl

pub sends23 : (e : ℕ) (h : Hist) (p : Pt k2) → is_me p ≡ false → fwd e h (r23 p) ≡ fwd e [] p ++ pick (joins p) (newleader e h ∷ []) []
unfolding pick
sends23 e h out m = refl
sends23 e h me m = absurd (true≢false m)
sends23 e h a0 m = refl
sends23 e h b1 m = refl
sends23 e h b2 m = refl
sends23 e h b3 m = refl

pub sends34 : (e : ℕ) (h : Hist) (p : Pt (k3 false)) → is_me p ≡ false → fwd e h (r34 p) ≡ fwd e h p ++ pick (syncs p) (commitld e (length h) ∷ []) []
unfolding pick
sends34 e h out m = refl
sends34 e h me m = absurd (true≢false m)
sends34 e h a0 m = refl
sends34 e h c1 m = refl
sends34 e h c2 m = refl
sends34 e h c3 m = refl
sends34 e h c4 m = refl
sends34 e h c5 m = refl
sends34 e h c6 m = refl

pub joins-in : {k : K} (p : Pt k) → joins p ≡ true → is_in p ≡ true
joins-in out h = absurd (false≢true h)
joins-in me h = refl
joins-in a0 h = refl
joins-in a1 h = refl
joins-in b1 h = refl
joins-in b2 h = refl
joins-in b3 h = refl
joins-in c1 h = refl
joins-in c2 h = refl
joins-in c3 h = refl
joins-in c4 h = refl
joins-in c5 h = refl
joins-in c6 h = refl
joins-in d1 h = refl
joins-in d2 h = refl

pub syncs-in : {k : K} (p : Pt k) → syncs p ≡ true → is_in p ≡ true
syncs-in out h = absurd (false≢true h)
syncs-in me h = refl
syncs-in a0 h = refl
syncs-in a1 h = refl
syncs-in b1 h = refl
syncs-in b2 h = refl
syncs-in b3 h = refl
syncs-in c1 h = refl
syncs-in c2 h = refl
syncs-in c3 h = refl
syncs-in c4 h = refl
syncs-in c5 h = refl
syncs-in c6 h = refl
syncs-in d1 h = refl
syncs-in d2 h = refl

-- ---- its sets and counts

pub j12 : (p : Pt k1) → joins (r12 p) ≡ joins p
j12 out = refl
j12 me = refl
j12 a0 = refl
j12 a1 = refl

pub c12 : (p : Pt k1) → counts (r12 p) ≡ is_me p
c12 out = refl
c12 me = refl
c12 a0 = refl
c12 a1 = refl

pub j23 : (p : Pt k2) → joins (r23 p) ≡ joins p
j23 out = refl
j23 me = refl
j23 a0 = refl
j23 b1 = refl
j23 b2 = refl
j23 b3 = refl

pub s23 : (p : Pt k2) → syncs (r23 p) ≡ is_me p
s23 out = refl
s23 me = refl
s23 a0 = refl
s23 b1 = refl
s23 b2 = refl
s23 b3 = refl

pub h23 : (n : ℕ) (p : Pt k2) → held n (r23 p) ≡ 0
unfolding pick
h23 n out = refl
h23 n me = refl
h23 n a0 = refl
h23 n b1 = refl
h23 n b2 = refl
h23 n b3 = refl

pub j34 : (p : Pt (k3 false)) → joins (r34 p) ≡ joins p
j34 out = refl
j34 me = refl
j34 a0 = refl
j34 c1 = refl
j34 c2 = refl
j34 c3 = refl
j34 c4 = refl
j34 c5 = refl
j34 c6 = refl

pub s34 : (p : Pt (k3 false)) → syncs (r34 p) ≡ syncs p
s34 out = refl
s34 me = refl
s34 a0 = refl
s34 c1 = refl
s34 c2 = refl
s34 c3 = refl
s34 c4 = refl
s34 c5 = refl
s34 c6 = refl

pub h34 : (n : ℕ) (p : Pt (k3 false)) → held n (r34 p) ≡ held n p
unfolding pick
h34 n out = refl
h34 n me = refl
h34 n a0 = refl
h34 n c1 = refl
h34 n c2 = refl
h34 n c3 = refl
h34 n c4 = refl
h34 n c5 = refl
h34 n c6 = refl
