-- The bytes of a trace's header and records. 32 is the space, 10 the newline, 48 the digit zero.
use Rattle.std.specs.Prelude.{ℕ, zero, suc, ◌+◌, ◌/◌, ◌%◌, ◌≡◌, List, [], ◌∷◌, ◌++◌, ltb, length}
use Rattle.std.specs.List.{flat_map}
use Rattle.base.specs.Choice.{pick}
use Rattle.base.specs.Record.{Rec, E, B, «V», X}
use Rattle.rules.specs.Words.{put}
use Rattle.script.specs.declared.Note.{Note}
use Rattle.script.specs.declared.Note.TheVariants.{Enters, Takes, Delivers, Refuses}

-- v in decimal, without leading zeros, in at most k digits
unfoldable pub digits_in : ℕ → ℕ → List ℕ
digits_in zero v = []
digits_in (suc k) v = pick (ltb v 10) ((48 + v) ∷ []) (digits_in k (v / 10) ++ ((48 + v % 10) ∷ []))

-- twenty digits hold every number of 64 bits
unfoldable pub digits : ℕ → List ℕ
digits v = digits_in 20 v

unfoldable pub spaced : ℕ → List ℕ
spaced v = 32 ∷ digits v

-- a letter, each number after a space, and the newline
unfoldable pub row : ℕ → List ℕ → List ℕ
row letter vs = letter ∷ (flat_map spaced vs ++ (10 ∷ []))

-- two numbers end a line
unfoldable pub ending : ℕ → ℕ → List ℕ
ending a b = spaced a ++ (spaced b ++ (10 ∷ []))

unfoldable pub two : ℕ → ℕ → ℕ → List ℕ
two letter a b = letter ∷ ending a b

unfoldable pub four : ℕ → ℕ → ℕ → ℕ → ℕ → List ℕ
four letter a b c d = letter ∷ (spaced a ++ (spaced b ++ ending c d))

-- "TRC 1 n"
unfoldable pub header : ℕ → List ℕ
header n = 84 ∷ 82 ∷ two 67 1 n

unfoldable pub bytes_of : Rec → List ℕ
bytes_of (E s e) = two 69 s e
bytes_of (B s t) = four 66 s t.ep t.ct t.vl
bytes_of («V» s t) = four 86 s t.ep t.ct t.vl
bytes_of (X line refusal) = two 88 line refusal

-- the record that each case stands for
abbrev pub rec_of : Note → Rec
rec_of (Enters s e) = E s e
rec_of (Takes s e c v) = B s (record { ep = e; ct = c; vl = v })
rec_of (Delivers s e c v) = «V» s (record { ep = e; ct = c; vl = v })
rec_of (Refuses line refusal) = X line refusal

-- ws was written into q at `at`: its new end, and all bytes afterwards
pub record Wrote (q : List ℕ) (at : ℕ) (ws : List ℕ) (end : ℕ) (q' : List ℕ) : Type 0 where
  pub ends : end ≡ at + length ws
  pub bytes : q' ≡ put q at ws
