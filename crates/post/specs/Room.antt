-- Whether there is room for what a plan sends, before anything is written.
use Rattle.std.specs.Prelude.{ℕ, ◌+◌, Bool, not, List, [], ◌∷◌, eqb, leb}
use Rattle.base.specs.Choice.{pick, both, all_below}
use Rattle.base.specs.Quorum.{Set}
use Rattle.base.specs.declared.Sizes.{Sizes}
use Rattle.rules.specs.Message.{Send}
use Rattle.rules.specs.Words.{has}
use Rattle.ring.specs.declared.Rings.{Rings}
use Rattle.ring.specs.Queue.{cell, count}

-- one message to t, if it is another of the set
unfoldable pub hit : ℕ → Set → ℕ → ℕ
hit i q t = pick (both (q t) (not (eqb t i))) 1 0

-- how many would wait from i to t after two casts
abbrev pub due : Sizes → Rings → ℕ → Bool → List Bool → List Bool → ℕ → ℕ
due z r i empties one two t = pick empties 0 (count r (cell z.n i t)) + (hit i (has one) t + hit i (has two) t)

unfoldable pub fits : Sizes → ℕ → Rings → ℕ → Bool → List Bool → List Bool → Bool
fits z depth r i empties one two = all_below z.n (λ t. leb (due z r i empties one two t) depth)

-- how many of these go to t
unfoldable pub how_many : List Send → ℕ → ℕ
how_many [] t = 0
how_many (x ∷ xs) t = pick (eqb x.to t) 1 0 + how_many xs t
