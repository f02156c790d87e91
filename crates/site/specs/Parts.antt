-- The lent words of all servers, a part for each.
use Rattle.std.specs.Prelude.{ℕ, ◌*◌, List, take, drop}
use Rattle.base.specs.declared.Sizes.{Sizes}
use Rattle.rules.specs.Words.{WORDS}

-- how many words a server's history has, and those of server i
abbrev pub share : Sizes → ℕ
share z = WORDS * z.room.0

abbrev pub part : Sizes → ℕ → List ℕ → List ℕ
part z i w = take (share z) (drop (share z * i) w)
