-- The sizes of the clusters that are counted.
use Rattle.std.specs.Prelude.{ℕ}
use Rattle.base.specs.declared.Sizes.{Sizes}

-- n servers, with room for four transactions
abbrev pub sizes_of : ℕ → Sizes
sizes_of n = record { n = n; room = record { 0 = 4 } }
