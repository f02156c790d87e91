-- Traces in words, and their answers: the paper's own, one for each rule, and the refusals.
use Prim.Native.Nat.{ℕ}
use mathlib.Core.Path.{◌≡◌, refl}
use mathlib.Core.List.{List, [], ◌∷◌}
use Rattle.base.specs.Record.{same}
use Rattle.base.specs.Choice.{pick, both, either, all_below}
use Rattle.trace.specs.Rules.{Answer, keeps, breaks, refuses, less, broken, fit, answer}
use Rattle.trace.specs.Words.{rec_at, known_at, readable}
use Rattle.trace.specs.Meaning.{verdict}

pub record Case : Type 0 where
  pub servers : ℕ
  pub room : ℕ
  pub words : List ℕ
  pub says : Answer

-- the words past a kind's fields hold anything
abbrev table : List Case
table =
    record { servers = 3; room = 20; says = keeps; words = 1 ∷ 0 ∷ 1 ∷ 0 ∷ 0 ∷ 2 ∷ 0 ∷ 1 ∷ 1 ∷ 40 ∷ 3 ∷ 0 ∷ 1 ∷ 1 ∷ 40 ∷ 3 ∷ 1 ∷ 1 ∷ 1 ∷ 40 ∷ 4 ∷ 15 ∷ 2 ∷ 0 ∷ 0 ∷ [] }
    ∷ record { servers = 3; room = 0; says = keeps; words = [] }
    ∷ record { servers = 3; room = 8; says = keeps; words = 1 ∷ 0 ∷ 1 ∷ 77 ∷ 77 ∷ 4 ∷ 9 ∷ 9 ∷ 77 ∷ 77 ∷ [] }
    ∷ record { servers = 3; room = 8; says = breaks 1 1; words = 1 ∷ 0 ∷ 1 ∷ 0 ∷ 0 ∷ 1 ∷ 1 ∷ 1 ∷ 0 ∷ 0 ∷ [] }
    ∷ record { servers = 3; room = 8; says = breaks 1 2; words = 1 ∷ 0 ∷ 1 ∷ 0 ∷ 0 ∷ 2 ∷ 0 ∷ 1 ∷ 2 ∷ 40 ∷ [] }
    ∷ record { servers = 3; room = 12; says = breaks 2 3; words = 1 ∷ 0 ∷ 1 ∷ 0 ∷ 0 ∷ 2 ∷ 0 ∷ 1 ∷ 1 ∷ 40 ∷ 3 ∷ 0 ∷ 1 ∷ 1 ∷ 41 ∷ [] }
    ∷ record { servers = 3; room = 20; says = breaks 4 4; words = 1 ∷ 0 ∷ 1 ∷ 0 ∷ 0 ∷ 2 ∷ 0 ∷ 1 ∷ 1 ∷ 40 ∷ 2 ∷ 0 ∷ 1 ∷ 2 ∷ 41 ∷ 3 ∷ 0 ∷ 1 ∷ 1 ∷ 40 ∷ 3 ∷ 1 ∷ 1 ∷ 2 ∷ 41 ∷ [] }
    ∷ record { servers = 3; room = 20; says = breaks 4 5; words = 1 ∷ 0 ∷ 1 ∷ 0 ∷ 0 ∷ 2 ∷ 0 ∷ 1 ∷ 1 ∷ 40 ∷ 1 ∷ 1 ∷ 2 ∷ 0 ∷ 0 ∷ 3 ∷ 0 ∷ 1 ∷ 1 ∷ 40 ∷ 2 ∷ 1 ∷ 2 ∷ 1 ∷ 41 ∷ [] }
    ∷ record { servers = 3; room = 20; says = breaks 4 5; words = 1 ∷ 0 ∷ 1 ∷ 0 ∷ 0 ∷ 2 ∷ 0 ∷ 1 ∷ 1 ∷ 40 ∷ 1 ∷ 1 ∷ 2 ∷ 0 ∷ 0 ∷ 2 ∷ 1 ∷ 2 ∷ 1 ∷ 41 ∷ 3 ∷ 0 ∷ 1 ∷ 1 ∷ 40 ∷ [] }
    ∷ record { servers = 3; room = 16; says = breaks 3 6; words = 1 ∷ 0 ∷ 1 ∷ 0 ∷ 0 ∷ 2 ∷ 0 ∷ 1 ∷ 1 ∷ 40 ∷ 3 ∷ 0 ∷ 1 ∷ 1 ∷ 40 ∷ 3 ∷ 0 ∷ 1 ∷ 1 ∷ 40 ∷ [] }
    ∷ record { servers = 8; room = 0; says = refuses; words = [] }
    ∷ record { servers = 3; room = 4; says = refuses; words = 5 ∷ 0 ∷ 1 ∷ 0 ∷ 0 ∷ [] }
    ∷ record { servers = 3; room = 4; says = refuses; words = 1 ∷ 3 ∷ 1 ∷ 0 ∷ 0 ∷ [] }
    ∷ record { servers = 3; room = 4; says = refuses; words = 2 ∷ 0 ∷ 1 ∷ 0 ∷ 40 ∷ [] }
    ∷ record { servers = 3; room = 4; says = refuses; words = 4 ∷ 0 ∷ 1 ∷ 0 ∷ [] }
    ∷ record { servers = 3; room = 3; says = refuses; words = 4 ∷ 0 ∷ 1 ∷ 0 ∷ 0 ∷ [] }
    ∷ []

abbrev told : List Case → List Answer
told [] = []
told (x ∷ l) = x.says ∷ told l

abbrev given : List Case → List Answer
given [] = []
given (x ∷ l) = verdict x.servers x.words x.room ∷ given l

pub cases : given table ≡ told table
unfolding verdict readable known_at rec_at answer fit broken same less pick both either all_below
cases = refl
