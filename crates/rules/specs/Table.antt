-- The table of nine kinds against nine stages: taken, ROLE or PHASE.
use Rattle.std.specs.Prelude.{ℕ, ◌-◌, List, [], ◌∷◌, get_or}
use Rattle.base.specs.Refusals.{ROLE, PHASE}

abbrev pub TAKEN : ℕ
TAKEN = 0

-- a row for each kind; a column for each of LOOK, F1 F2 F3 F4, L1 L2 L3 L4
unfoldable pub table : List (List ℕ)
table =
    (ROLE ∷ ROLE ∷ ROLE ∷ ROLE ∷ ROLE ∷ TAKEN ∷ TAKEN ∷ TAKEN ∷ TAKEN ∷ []) ∷  -- CEPOCH
    (ROLE ∷ TAKEN ∷ PHASE ∷ PHASE ∷ PHASE ∷ ROLE ∷ ROLE ∷ ROLE ∷ ROLE ∷ []) ∷  -- NEWEPOCH
    (ROLE ∷ ROLE ∷ ROLE ∷ ROLE ∷ ROLE ∷ PHASE ∷ TAKEN ∷ TAKEN ∷ TAKEN ∷ []) ∷  -- ACK-E
    (ROLE ∷ PHASE ∷ TAKEN ∷ PHASE ∷ PHASE ∷ ROLE ∷ ROLE ∷ ROLE ∷ ROLE ∷ []) ∷  -- NEWLEADER
    (ROLE ∷ ROLE ∷ ROLE ∷ ROLE ∷ ROLE ∷ PHASE ∷ PHASE ∷ TAKEN ∷ TAKEN ∷ []) ∷  -- ACK-LD
    (ROLE ∷ PHASE ∷ PHASE ∷ TAKEN ∷ PHASE ∷ ROLE ∷ ROLE ∷ ROLE ∷ ROLE ∷ []) ∷  -- COMMIT-LD
    (ROLE ∷ PHASE ∷ PHASE ∷ TAKEN ∷ TAKEN ∷ ROLE ∷ ROLE ∷ ROLE ∷ ROLE ∷ []) ∷  -- PROPOSE
    (ROLE ∷ ROLE ∷ ROLE ∷ ROLE ∷ ROLE ∷ PHASE ∷ PHASE ∷ PHASE ∷ TAKEN ∷ []) ∷  -- ACK
    (ROLE ∷ PHASE ∷ PHASE ∷ PHASE ∷ TAKEN ∷ ROLE ∷ ROLE ∷ ROLE ∷ ROLE ∷ []) ∷ []  -- COMMIT

-- the cell of a kind (from 1) and a stage
unfoldable pub cell : ℕ → ℕ → ℕ
cell k stage = get_or (get_or table (k - 1) []) stage ROLE
