-- The whole answer of the exported trace checker, over bytes: built of the checker's verdict and of words as bytes.
use Rattle.std.specs.Prelude.{ℕ, ◌/◌, ◌%◌, ◌≡◌, List, [], ◌∷◌, eqb, leb, length}
use Rattle.base.specs.Choice.{pick, both}
use Rattle.base.specs.Refusals.{TRACE}
use Rattle.octets.specs.Bytes.{words_of, bytes_of}
use Rattle.trace.specs.Rules.{Answer, keeps, breaks, refuses}
use Rattle.trace.specs.Meaning.{verdict}

-- the answer as a number: 0, the rule that is broken, or TRACE
unfoldable pub said : Answer → ℕ
said keeps = 0
said (breaks place rule) = rule
said refuses = TRACE

-- what is told: the place of the first record that breaks a rule, else as it was
unfoldable pub told_of : Answer → List ℕ → List ℕ
told_of keeps t = t
told_of (breaks place rule) t = bytes_of (place ∷ [])
told_of refuses t = t

-- all that the exported checker leaves
pub record Judgement : Type 0 where
  pub code : ℕ
  pub told : List ℕ

-- the answer a, as a number and in the bytes that were t
abbrev pub judgement : Answer → List ℕ → Judgement
judgement a t = record { code = said a; told = told_of a t }

-- THE EXPORTED CHECKER: TRACE where a length is not right, else what the checker says of the words, with a space of 4,096
unfoldable pub check_of : ℕ → List ℕ → List ℕ → Judgement
check_of n b t = pick
    (both (eqb (length t) 8) (both (leb (length b) 40960) (eqb (length b % 8) 0)))
    (judgement (verdict n (words_of (length b / 8) b) 4096) t)
    (record { code = TRACE; told = t })

-- the result r, with what is told after it, is x
pub record Judges (x : Judgement) (r : ℕ) (t : List ℕ) : Type 0 where
  pub code : r ≡ x.code
  pub told : t ≡ x.told
