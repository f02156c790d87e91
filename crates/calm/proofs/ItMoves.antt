-- It moves: the second half of demand 3, of every state that a run from fresh servers reaches. Nothing is assumed but the sizes and room for two.
use Prim.Native.Nat.{ℕ, ◌+◌, ◌-◌, ◌*◌, ◌≤◌, ◌<◌}
use mathlib.Core.Path.{◌≡◌, refl}
use mathlib.Core.Logic.{◌≢◌}
use mathlib.Core.Bool.{true}
use mathlib.Core.List.{List, [], ◌∷◌, ◌++◌}
use native.Mathlib.Omega.{arith}
use lib.ListN.{length}
use Rattle.base.specs.Quorum.{Set, size}
use Rattle.base.specs.Refusals.{UNDO}
use Rattle.base.specs.Transaction.{LAST, ident, last_id}
use Rattle.base.specs.declared.Sizes.{Sizes}
use Rattle.rules.specs.Message.{Msg, formed}
use Rattle.rules.specs.Server.{good_sizes}
use Rattle.rules.specs.Cluster.{Cluster, start, Event, S, told, event, after, play, is_done}
use Rattle.rules.proofs.Trees.{All}
use Rattle.rules.proofs.WellFormed.{sized}
use Rattle.rules.proofs.Runs.{Fine, run-healthy}
use Rattle.ledger.proofs.NeverUndo.{never-undo}
use Rattle.calm.specs.Calm.{Reached, below, Crew, Others, naming, all_done, Lively, Recovered, Established, Round, submitted-entry}
use Rattle.calm.proofs.Theorem

never : (z : Sizes) (depth : ℕ) (c : Cluster) → Reached z depth c → (e : Event) (c' : Cluster) → event z depth c e ≢ told UNDO c'
never z depth c r e c' = rw r.played (never-undo z depth r.events e c')

proper : (z : Sizes) → good_sizes z ≡ true → (depth : ℕ) (c : Cluster) → Reached z depth c → (f t : ℕ) → f < z.n → t < z.n → (m : Msg) (r : List Msg) → c.chan f t ≡ m ∷ r → formed z m ≡ true
proper z good depth c r f t hf ht m ms q =
    let waits : All (Fine z) (c.chan f t) = rw r.played ((run-healthy z good depth r.events).chan f t) in
    (rw q at waits).0

module _ (z : Sizes) (good : good_sizes z ≡ true) (depth : ℕ) (deep : 2 ≤ depth) (before : List Event) where
  -- any state that a run reaches
  abbrev reached : Cluster
  reached = play z depth start before

  is-reached : Reached z depth reached
  is-reached = record { events = before; played = refl }

  two : 2 ≤ z.n
  two = omega (arith, (sized z good).three)

  -- x's promise is below no other's and below the last epoch; x is named at x and then at all others, in any order
  module _ (x : ℕ) (hx : x < z.n) (top : (i : ℕ) → i < z.n → (reached.srv i).dur.p ≤ (reached.srv x).dur.p) (low : (reached.srv x).dur.p < LAST)
      (fs : List ℕ) (others : Others (below z.n) x fs) where
    abbrev named : Cluster
    named = play z depth reached (naming x fs)

    pub names-taken : all_done z depth reached (naming x fs) ≡ true
    names-taken = Theorem.calm-named z depth two deep (never z depth) (proper z good depth) x hx reached is-reached top low fs others

    -- the next 6 (n - 1) deliveries of waiting messages, in any order: all taken, never more, not stopping early; then established everywhere
    pub recovers : (es : List Event) → Lively z depth (below z.n) named es → Round z depth (below z.n) reached named es (6 * (z.n - 1)) (Recovered (below z.n) x ((reached.srv x).dur.p + 1))
    recovers = Theorem.calm_run z depth two deep (never z depth) (proper z good depth) x hx reached is-reached top low fs others

    pub recovers-exists : (es : List Event) × Lively z depth (below z.n) named es × (length es ≡ 6 * (z.n - 1))
    recovers-exists = Theorem.calm-run-exists z depth two deep (never z depth) (proper z good depth) x hx reached is-reached top low fs others

    -- then one submission with room is taken, and the next 3 (n - 1) deliveries deliver it everywhere
    module _ (es : List Event) (lively : Lively z depth (below z.n) named es) (whole : length es ≡ 6 * (z.n - 1)) where
      abbrev settled : Cluster
      settled = play z depth named es

      pub then-submits : (v : ℕ) → length (settled.srv x).dur.hist < z.room.0 → last_id (settled.srv x).dur.hist ≢ ident (settled.srv x).dur.p LAST
          → (is_done (event z depth settled (S x v)) ≡ true)
          × ((es' : List Event) → Lively z depth (below z.n) (after (event z depth settled (S x v))) es'
          → Round z depth (below z.n) settled (after (event z depth settled (S x v))) es' (3 * (z.n - 1))
          (Established (below z.n) x (settled.srv x).dur.p ((settled.srv x).dur.hist ++ (submitted-entry v (settled.srv x).dur.p (settled.srv x).dur.hist ∷ []))))
      then-submits = Theorem.calm-then-submit z depth two deep (never z depth) (proper z good depth) x hx reached is-reached top low fs others es lively whole

  -- the same for a bare quorum q with x in it: only its members are named, all others stay silent and what waits for them is left waiting
  module _ (q : Set) (x : ℕ) (crew : Crew z.n x q) (top : (i : ℕ) → q i ≡ true → (reached.srv i).dur.p ≤ (reached.srv x).dur.p) (low : (reached.srv x).dur.p < LAST)
      (fs : List ℕ) (others : Others q x fs) where
    pub quorum-recovers : (es : List Event) → Lively z depth q (play z depth reached (naming x fs)) es
        → Round z depth q reached (play z depth reached (naming x fs)) es (6 * (size q z.n - 1)) (Recovered q x ((reached.srv x).dur.p + 1))
    quorum-recovers = Theorem.quorum-run z depth two deep (never z depth) (proper z good depth) q x crew reached is-reached top low fs others
