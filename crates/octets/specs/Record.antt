-- The record of a server in 38 words: ten numbers, three sets of seven (0 or 1 for each server), seven counts.
use Rattle.std.specs.Prelude.{ℕ, Bool, true, false, List, [], ◌∷◌, ◌++◌, eqb, get_or, take, drop}
use Rattle.base.specs.Choice.{both}
use Rattle.base.specs.Transaction.{LAST}
use Rattle.rules.specs.declared.State.{State}
use Rattle.octets.specs.Bytes.{under, BYTE}

abbrev pub RECORD : ℕ
RECORD = 38

-- a member of a set, and no member
unfoldable pub bit : Bool → ℕ
bit true = 1
bit false = 0

unfoldable pub bits : List Bool → List ℕ
bits [] = []
bits (b ∷ q) = bit b ∷ bits q

unfoldable pub flags : List ℕ → List Bool
flags [] = []
flags (x ∷ w) = eqb x 1 ∷ flags w

-- the seven words from word k on
abbrev pub seven : ℕ → List ℕ → List ℕ
seven k w = take 7 (drop k w)

abbrev pub ten_of : State → List ℕ
ten_of s =
    s.me ∷ s.stage ∷ s.oracle ∷ s.p.0 ∷ s.a.0 ∷ s.d.0 ∷ s.len.0 ∷ s.largest.0 ∷ s.cand_a.0 ∷ s.cand_len.0 ∷ []

unfoldable pub state_words : State → List ℕ
state_words s = ten_of s ++ (bits s.joined ++ (bits s.acked ++ (bits s.synced ++ s.counts)))

unfoldable pub state_at : List ℕ → State
state_at w = record {
  me = get_or w 0 0;
  stage = get_or w 1 0;
  oracle = get_or w 2 0;
  p = record { 0 = get_or w 3 0 };
  a = record { 0 = get_or w 4 0 };
  d = record { 0 = get_or w 5 0 };
  len = record { 0 = get_or w 6 0 };
  largest = record { 0 = get_or w 7 0 };
  cand_a = record { 0 = get_or w 8 0 };
  cand_len = record { 0 = get_or w 9 0 };
  joined = flags (seven 10 w);
  acked = flags (seven 17 w);
  synced = flags (seven 24 w);
  counts = seven 31 w;
}

-- each word within its field: a byte, 32 bits, 0 or 1, 32 bits
unfoldable pub fits : List ℕ → Bool
fits w = both (under BYTE (take 3 w)) (both (under LAST (seven 3 w)) (both (under 1 (take 21 (drop 10 w))) (under LAST (seven 31 w))))
