use Prim.Native.Nat.{◌-◌, ◌<◌}
use mathlib.Core.Path.{◌≡◌}
use Rattle.trace.specs.Table.{cell, spot}
use Rattle.trace.proofs.Lookup.{Far}
use Rattle.trace.proofs.epochs.walk.Given as goal

abbrev pub invariant-loop : goal.invariant-loop
invariant-loop l = (l.j < l.count) × Far l.recs (cell l.space l.count) l.count l.e l.j l.rest l.counter × (spot l.recs (cell l.space l.count) l.e (l.count - l.j) l.j l.rest ≡ spot l.recs (cell l.space l.count) l.e l.count 0 l.e)
