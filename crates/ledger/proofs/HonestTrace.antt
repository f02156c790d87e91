-- The trace tells what is delivered, and tells it after its submission.
use Prim.Native.Nat.{ℕ}
use mathlib.Core.Path.{◌≡◌}
use mathlib.Core.List.{List, map}
use Rattle.base.specs.Record.{B, «V», Entry, entry}
use Rattle.base.specs.declared.Sizes.{Sizes}
use Rattle.rules.specs.Cluster.{start, Event, play, trace}
use Rattle.ledger.specs.Delivered.{delivered_of}
use Rattle.ledger.specs.Records.{In, Before, views_in}
use Rattle.ledger.proofs.Traces.{traces-ok}

-- HONEST TRACE. The V records of a server are, in order, what it has delivered.
pub honest-trace : (z : Sizes) (depth line : ℕ) (es : List Event) (i : ℕ) → views_in i (trace z depth start line es) ≡ map entry (delivered_of ((play z depth start es).srv i))
honest-trace z depth line es i = (traces-ok z depth line es).views i

-- Each V stands after a B of the same entry.
pub view-after : (z : Sizes) (depth line : ℕ) (es : List Event) (i : ℕ) (t : Entry) → In («V» i t) (trace z depth start line es) → (s : ℕ) × Before (B s t) («V» i t) (trace z depth start line es)
view-after z depth line es i t m = (traces-ok z depth line es).sourced i t m
