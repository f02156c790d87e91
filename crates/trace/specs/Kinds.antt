-- The kinds of records, by their numbers.
use Rattle.std.specs.Prelude.{ℕ, ◌≡◌, ◌<◌, ◌⊎◌, Option, Some, None}
use Rattle.trace.specs.declared.words.Kind.{Kind}
use Rattle.trace.specs.declared.words.Kind.TheVariants.{E, B, «V», X}

-- the number of a kind
abbrev pub number : Kind → ℕ
number E = 1
number B = 2
number «V» = 3
number X = 4

-- a number read: that of the kind, or no kind's
abbrev pub Kinded : Option Kind → ℕ → Type 0
Kinded (Some k) m = m ≡ number k
Kinded None m = (m ≡ 0) ⊎ (4 < m)
