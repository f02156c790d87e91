-- One leader: an epoch is established once.
use Prim.Native.Nat.{ℕ, ◌≤◌}
use mathlib.Core.List.{List}
use native.Mathlib.Omega.{arith}
use Rattle.base.specs.declared.Sizes.{Sizes}
use Rattle.rules.specs.Cluster.{start, Event, trace}
use Rattle.ledger.specs.Records.{count, is_e}
use Rattle.ledger.proofs.Traces.{traces-ok}

-- ONE LEADER. The trace of any events, from fresh servers, has at most one E of each epoch.
pub one-leader : (z : Sizes) (depth line : ℕ) (es : List Event) (e : ℕ) → count (is_e e) (trace z depth start line es) ≤ 1
one-leader z depth line es e = let r = traces-ok z depth line es in omega (arith, r.traced.est e, r.inv.good.once e)
