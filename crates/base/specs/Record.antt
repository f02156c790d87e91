-- The records of a trace.
use Rattle.std.specs.Prelude.{ℕ, Bool, eqb}
use Rattle.base.specs.Choice.{both}
use Rattle.base.specs.Transaction.{epoch_of, counter_of}
use Rattle.base.specs.declared.Txn.{Txn}

-- a transaction as a trace writes it: epoch, counter, value
pub record Entry : Type 0 where
  pub ep : ℕ
  pub ct : ℕ
  pub vl : ℕ

abbrev pub entry : Txn → Entry
entry t = record { ep = epoch_of t.id.0; ct = counter_of t.id.0; vl = t.val }

-- the same epoch, counter and value?
unfoldable pub same : Entry → Entry → Bool
same a b = both (eqb a.ep b.ep) (both (eqb a.ct b.ct) (eqb a.vl b.vl))

pub data Rec : Type 0 where
  E : (s e : ℕ) → Rec  -- server s enters L4 in epoch e
  B : (s : ℕ) (t : Entry) → Rec  -- a submission taken at s
  «V» : (s : ℕ) (t : Entry) → Rec  -- a transaction newly delivered at s
  X : (line refusal : ℕ) → Rec
