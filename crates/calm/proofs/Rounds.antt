-- A round in a cluster c₀, whole: the scene that it sets, and what is told of its deliveries.
use Prim.Native.Nat.{ℕ, ◌+◌, ◌≤◌}
use native.Mathlib.Omega.{arith}
use mathlib.Core.Path.{◌≡◌, refl, ap, ◌∙◌}
use mathlib.Core.Logic.{◌≢◌, ◌⊎◌, inl, inr}
use mathlib.Core.Bool.{true, false}
use mathlib.Core.List.{List, []}
use lib.ListN.{length}
use borrow.Author.Tests.{ne_eqb}
use Rattle.base.specs.Choice.{pick, either}
use Rattle.base.specs.Quorum.{Set}
use Rattle.base.specs.Transaction.{Hist}
use Rattle.base.specs.declared.Sizes.{Sizes}
use Rattle.base.proofs.Choice.{clash, eq-or, either_left}
use Rattle.rules.specs.Server.{Server, F4, idle}
use Rattle.rules.specs.Cluster.{Cluster, Channels, Event, play}
use Rattle.calm.specs.Calm.{Crew, Lively, Settled, Ready, Established, Apart, Round}
use Rattle.calm.proofs.Engine.{Scene, Sys, total, Calm}
use Rattle.calm.proofs.Play.{Sure, Plays, ran, waits, silent}

-- ready is settled
settled : (q : Set) (x e : ℕ) (h : Hist) (c : Cluster) → Ready q x e h c → Settled q x c
settled q x e h c r = record {
  leads = ap (λ (s : Server). s.stage) r.leads;
  follow = λ i hi ix. rw (r.rest i hi ix) (refl, refl);
  silent = λ a b ha hb. r.empty a b (either_left (q a) (q b) ha);
  hists = λ i hi. all i hi (λ s. s.dur.hist ≡ (c.srv x).dur.hist) refl (rw r.leads refl);
  whole = λ i hi. all i hi (λ s. s.dur.d ≡ length s.dur.hist) (rw r.leads refl) refl;
  epochs = λ i hi. all i hi (λ s. (s.dur.p ≡ (c.srv x).dur.p) × (s.dur.a ≡ (c.srv x).dur.p)) (rw r.leads (refl, refl)) (rw r.leads (refl, refl));
}
  where
    all : (i : ℕ) → q i ≡ true → (P : Server → Type 0) → P (c.srv x) → P (record { dur = record { p = e; a = e; d = length h; hist = h }; stage = F4; orc = x + 1; vol = idle }) → P (c.srv i)
    all i hi P a b = go (eq-or i x)
      where
        go : (i ≡ x) ⊎ (i ≢ x) → P (c.srv i)
        go (inl y) = rw y a
        go (inr y) = rw (r.rest i hi y) b

pub established : (q : Set) (x e : ℕ) (h : Hist) (c : Cluster) → Ready q x e h c → Established q x e h c
established q x e h c r = record { settled = settled q x e h c r; ready = r }

module _ (z : Sizes) (depth x : ℕ) (q : Set) (crew : Crew z.n x q) (two : 2 ≤ z.n) (deep : 2 ≤ depth) (c₀ : Cluster) where
  -- the channels between servers outside q have no part in it
  abbrev pub kept : Channels
  kept a b = pick (either (q a) (q b)) [] (c₀.chan a b)

  pub kept-quiet : (a b : ℕ) → either (q a) (q b) ≡ true → kept a b ≡ []
  unfolding pick
  kept-quiet a b h = rw h

  abbrev pub scene : Scene
  scene = record { z = z; depth = depth; x = x; q = q; still = kept; crew = crew; two = two; deep = deep; quiet = kept-quiet }

  module _ (Y : Sys) (outs : (k : Y.K) (st : Y.Stage k) (i : ℕ) (p : Y.Pt k) → Y.is_in p ≡ false → Y.now st i p ≡ c₀.srv i) where
    -- what has no part in it stays
    apart : {k : Y.K} (c : Cluster) (st : Y.Stage k) (l : ℕ → Y.Pt k) → Calm scene Y c st l → Apart q c₀ c
    unfolding pick either
    apart {k} c st l calm = record {
      servers = λ i h. calm.rest i (other i h) ∙ outs k st i (l i) (calm.ins i ∙ h);
      channels = λ a b ha hb. calm.cells a b ∙ rw (ne_eqb b x (other b hb), ne_eqb a x (other a ha), ha, hb);
    }
      where
        other : (i : ℕ) → q i ≡ false → i ≢ x
        other i h y = clash (rw y crew.mine) h

    -- deliveries from c, where k are to come
    pub round : (Safe : Cluster → Type 0) (sure : Sure z depth Safe) → Plays scene Y Safe
        → {j : Y.K} (c : Cluster) (st : Y.Stage j) (l : ℕ → Y.Pt j) → Calm scene Y c st l → Safe c → (k : ℕ) → total Y z.n l ≡ k
        → (End : Cluster → Type 0)
        → ((i : Y.K) (c' : Cluster) (st' : Y.Stage i) (l' : ℕ → Y.Pt i) → Calm scene Y c' st' l' → total Y z.n l' ≡ 0 → ((a b : ℕ) → either (q a) (q b) ≡ true → c'.chan a b ≡ []) → End c')
        → (es : List Event) → Lively z depth q c es → Round z depth q c₀ c es k End
    round Safe sure table c st l calm safe k start End end es lively =
        let r = ran scene Y Safe sure table c st l calm safe es lively in
        let c' = play z depth c es in
        record {
          clean = r.took;
          bound = omega (arith, r.spent);
          early = λ h. waits scene Y Safe sure table c' r.st r.l r.calm (omega (arith, r.spent));
          ends = λ h.
              let none : total Y z.n r.l ≡ 0 = omega (arith, r.spent) in
              end r.k c' r.st r.l r.calm none (silent scene Y Safe sure table c' r.st r.l r.calm none);
          apart = apart c' r.st r.l r.calm;
        }
