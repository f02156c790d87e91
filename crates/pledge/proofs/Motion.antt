-- The calm run of the rules, where settling makes its deliveries: how many there are, and what they leave.
use Prim.Native.Nat.{ℕ, ◌+◌, ◌-◌, ◌*◌, ◌≤◌, ◌<◌}
use mathlib.Core.Path.{◌≡◌, sym, ◌∙◌, subst}
use mathlib.Core.Logic.{⊎_elim}
use mathlib.Core.Bool.{true}
use mathlib.Core.List.{List, [], ◌∷◌, ◌++◌}
use native.Mathlib.Omega.{arith}
use lib.ListN.{length}
use borrow.Author.Tests.{ltb-true}
use Rattle.base.specs.declared.Sizes.{Sizes}
use Rattle.base.proofs.Choice.{le-or-lt}
use Rattle.rules.proofs.WellFormed.{sized}
use Rattle.rules.specs.Server.{good_sizes}
use Rattle.rules.specs.Cluster.{Cluster, Event, S, start, event, play, is_done}
use Rattle.calm.specs.Calm.{below, Others, Lively, Recovered, Established, Round, submitted-entry}
use Rattle.calm.proofs.ItMoves as it
use Rattle.runs.specs.Runs.{tally}
use Rattle.pledge.specs.Moves.{others_from, names, settles, turned, rested, begun, ended, Leads, Roomy}
use Rattle.pledge.proofs.Settled.{eased-lively, eased-stops, eased-counts, all-counted}
use Rattle.pledge.proofs.Named.{all_others, length-names}

-- where a round of k deliveries is meant, settling makes k of them
round_whole : (z : Sizes) (depth : ℕ) (c₀ c : Cluster) (k : ℕ) (End : Cluster → Type 0) → k < 64
    → Round z depth (below z.n) c₀ c (settles z depth c) k End → length (settles z depth c) ≡ k
round_whole z depth c₀ c k End l r = ⊎_elim
    (λ (m : k ≤ length (settles z depth c)). let b = r.bound in omega arith)
    (λ (m : length (settles z depth c) < k).
    let w = r.early m in
    absurd (w.busy (eased-stops z depth 64 c (omega arith) w.from w.to (ltb-true w.from z.n w.from_in) (ltb-true w.to z.n w.to_in))))
    (le-or-lt k (length (settles z depth c)))

round-taken : (z : Sizes) (depth : ℕ) (c₀ c : Cluster) (k : ℕ) (End : Cluster → Type 0) → k < 64
    → Round z depth (below z.n) c₀ c (settles z depth c) k End → tally z depth c (settles z depth c) ≡ k
round-taken z depth c₀ c k End l r = eased-counts z depth 64 c r.clean ∙ round_whole z depth c₀ c k End l r

-- ---- the calm run from c: named at all, settled, submitted, settled again

pub record Motion (z : Sizes) (depth x v : ℕ) (c : Cluster) : Type 0 where
  pub named : tally z depth c (names z x) ≡ z.n
  pub first : tally z depth (turned z depth x c) (settles z depth (turned z depth x c)) ≡ 6 * (z.n - 1)
  pub recovered : Recovered (below z.n) x ((c.srv x).dur.p + 1) (rested z depth x c)
  pub submitted : Roomy z x (rested z depth x c) → is_done (event z depth (rested z depth x c) (S x v)) ≡ true
  pub second : Roomy z x (rested z depth x c) → tally z depth (begun z depth x v c) (settles z depth (begun z depth x v c)) ≡ 3 * (z.n - 1)
  pub delivered : Roomy z x (rested z depth x c)
      → Established (below z.n) x ((rested z depth x c).srv x).dur.p
      (((rested z depth x c).srv x).dur.hist ++ (submitted-entry v ((rested z depth x c).srv x).dur.p ((rested z depth x c).srv x).dur.hist ∷ [])) (ended z depth x v c)

module _ (z : Sizes) (good : good_sizes z ≡ true) (depth : ℕ) (deep : 2 ≤ depth) (before : List Event) (x v : ℕ) (l : Leads z x (play z depth start before)) where
  abbrev reached : Cluster
  reached = play z depth start before

  others : Others (below z.n) x (others_from x 0 (z.n - 1))
  others = all_others z.n x l.inside

  lively : Lively z depth (below z.n) (turned z depth x reached) (settles z depth (turned z depth x reached))
  lively = eased-lively z depth 64 (turned z depth x reached)

  round : Round z depth (below z.n) reached (turned z depth x reached) (settles z depth (turned z depth x reached)) (6 * (z.n - 1)) (Recovered (below z.n) x ((reached.srv x).dur.p + 1))
  round = it.recovers z good depth deep before x l.inside l.top l.low (others_from x 0 (z.n - 1)) others (settles z depth (turned z depth x reached)) lively

  few : 6 * (z.n - 1) < 64
  few = let s = (sized z good).seven in omega arith

  whole : length (settles z depth (turned z depth x reached)) ≡ 6 * (z.n - 1)
  whole = round_whole z depth reached (turned z depth x reached) (6 * (z.n - 1)) _ few round

  then : Roomy z x (rested z depth x reached)
      → (is_done (event z depth (rested z depth x reached) (S x v)) ≡ true)
      × ((es' : List Event) → Lively z depth (below z.n) (begun z depth x v reached) es'
      → Round z depth (below z.n) (rested z depth x reached) (begun z depth x v reached) es' (3 * (z.n - 1))
      (Established (below z.n) x ((rested z depth x reached).srv x).dur.p
      (((rested z depth x reached).srv x).dur.hist ++ (submitted-entry v ((rested z depth x reached).srv x).dur.p ((rested z depth x reached).srv x).dur.hist ∷ []))))
  then r = it.then-submits z good depth deep before x l.inside l.top l.low (others_from x 0 (z.n - 1)) others (settles z depth (turned z depth x reached)) lively whole v r.room r.next

  second-round : Roomy z x (rested z depth x reached)
      → Round z depth (below z.n) (rested z depth x reached) (begun z depth x v reached) (settles z depth (begun z depth x v reached)) (3 * (z.n - 1))
      (Established (below z.n) x ((rested z depth x reached).srv x).dur.p
      (((rested z depth x reached).srv x).dur.hist ++ (submitted-entry v ((rested z depth x reached).srv x).dur.p ((rested z depth x reached).srv x).dur.hist ∷ [])))
  second-round r = (then r).1 (settles z depth (begun z depth x v reached)) (eased-lively z depth 64 (begun z depth x v reached))

  reached-moves : Motion z depth x v reached
  reached-moves = record {
    named = all-counted z depth reached (names z x) (it.names-taken z good depth deep before x l.inside l.top l.low (others_from x 0 (z.n - 1)) others) ∙ length-names z x (let s = (sized z good).three in omega arith);
    first = round-taken z depth reached (turned z depth x reached) (6 * (z.n - 1)) _ few round;
    recovered = round.ends whole;
    submitted = λ r. (then r).0;
    second = λ r. round-taken z depth (rested z depth x reached) (begun z depth x v reached) (3 * (z.n - 1)) _ (omega (arith, few)) (second-round r);
    delivered = λ r. (second-round r).ends (round_whole z depth (rested z depth x reached) (begun z depth x v reached) (3 * (z.n - 1)) _ (omega (arith, few)) (second-round r));
  }

-- from whatever a run leads to
pub it-moves : (z : Sizes) → good_sizes z ≡ true → (depth : ℕ) → 2 ≤ depth → (before : List Event) (x v : ℕ) (c : Cluster) → c ≡ play z depth start before → Leads z x c → Motion z depth x v c
it-moves z good depth deep before x v c p =
    subst (λ (d : Cluster). Leads z x d → Motion z depth x v d) (sym p) (reached-moves z good depth deep before x v)
