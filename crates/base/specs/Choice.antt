-- Choice by a test, tests put together, functions changed at one place.
use Rattle.std.specs.Prelude.{ℕ, zero, suc, Bool, true, false, eqb}

unfoldable pub pick : {A : Type 0} → Bool → A → A → A
pick true a b = a
pick false a b = b

unfoldable pub both : Bool → Bool → Bool
both true b = b
both false b = false

unfoldable pub either : Bool → Bool → Bool
either true b = true
either false b = b

-- f, but v at i
unfoldable pub upd : {A : Type 0} → (ℕ → A) → ℕ → A → ℕ → A
upd f i v j = pick (eqb j i) v (f j)

-- f, but v at the pair (i, j)
unfoldable pub upd₂ : {A : Type 0} → (ℕ → ℕ → A) → ℕ → ℕ → A → ℕ → ℕ → A
upd₂ f i j v = upd f i (upd (f i) j v)

-- does f hold of every number below n?
unfoldable pub all_below : ℕ → (ℕ → Bool) → Bool
all_below zero f = true
all_below (suc n) f = both (f n) (all_below n f)
