-- A step is a tree of tests. The order of its tests is the order of the refusals.
use Rattle.std.specs.Prelude.{ℕ, zero, suc, Bool, true, false, not, List, [], ◌∷◌, ◌++◌, eqb}
use Rattle.base.specs.Choice.{pick, both}
use Rattle.base.specs.Quorum.{Set}
use Rattle.base.specs.Refusals.{ROLE, SENDER, PHASE}
use Rattle.rules.specs.Message.{Msg, Send}
use Rattle.rules.specs.Server.{Server}
use Rattle.rules.specs.Table.{TAKEN, cell}

pub data Tree : Type 0 where
  need : (test : Bool) (refusal : ℕ) (rest : Tree) → Tree
  fork : (test : Bool) (one two : Tree) → Tree
  deny : (refusal : ℕ) → Tree
  took : (empties : Bool) (next : Server) (sent : List Send) → Tree

-- a refusal; or whether the channels to and from the server are emptied, the next record, and what is sent, in order
pub data Res : Type 0 where
  refused : (refusal : ℕ) → Res
  taken : (empties : Bool) (next : Server) (sent : List Send) → Res

unfoldable pub run : Tree → Res
run (need b r t) = elim b [ true ↦ run t | false ↦ refused r ]
run (fork b x y) = elim b [ true ↦ run x | false ↦ run y ]
run (deny r) = refused r
run (took b s out) = taken b s out

-- a message of kind k at a stage, `who` saying whether its sender will do: the other role, then the sender, then the stage
unfoldable pub gate : ℕ → ℕ → Bool → Tree → Tree
gate k stage who t = need (not (eqb (cell k stage) ROLE)) ROLE (need who SENDER (need (eqb (cell k stage) TAKEN) PHASE t))

-- m to all others of a set among the n servers, in rising number
unfoldable pub to_all : ℕ → ℕ → Set → Msg → List Send
to_all zero i q m = []
to_all (suc n) i q m = to_all n i q m ++ pick (both (q n) (not (eqb n i))) (record { to = n; msg = m } ∷ []) []

abbrev pub only : ℕ → Msg → List Send
only x m = record { to = x; msg = m } ∷ []
