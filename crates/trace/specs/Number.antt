-- The rules by their numbers.
use Rattle.std.specs.Prelude.{ℕ}
use Rattle.trace.specs.declared.Rule.{Rule}
use Rattle.trace.specs.declared.Rule.TheVariants.{OneE, CountersRun, EarlierB, OneBegins, EarlierEpochs, VsRise}

abbrev pub number : Rule → ℕ
number OneE = 1
number CountersRun = 2
number EarlierB = 3
number OneBegins = 4
number EarlierEpochs = 5
number VsRise = 6
