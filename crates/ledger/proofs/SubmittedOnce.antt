-- Submitted once: what is delivered was submitted, once, by the established leader of its epoch.
use Prim.Native.Nat.{ℕ, ◌<◌}
use mathlib.Core.List.{List}
use lib.ListN.{length, get_or}
use Rattle.base.specs.Transaction.{none}
use Rattle.base.specs.Record.{entry}
use Rattle.base.specs.declared.Sizes.{Sizes}
use Rattle.rules.specs.Cluster.{start, Event, play, trace}
use Rattle.ledger.specs.Delivered.{delivered_of}
use Rattle.ledger.specs.Records.{Submitted}
use Rattle.ledger.proofs.Submitted.{server-once}
use Rattle.ledger.proofs.Traces.{traces-ok}

-- SUBMITTED ONCE. After any events, from fresh servers, each transaction that a server has delivered was submitted exactly once:
-- one B has its entry, no other B has its epoch and counter, and it is of a server whose E for that epoch stands before it.
pub submitted-once : (z : Sizes) (depth line : ℕ) (es : List Event) (i k : ℕ) → let c = play z depth start es in
    k < length (delivered_of (c.srv i)) → Submitted (trace z depth start line es) (entry (get_or (delivered_of (c.srv i)) k none))
submitted-once z depth line es i k l =
    let r = traces-ok z depth line es in
    server-once z.n (play z depth start es) r.inv (trace z depth start line es) r.traced i k l
