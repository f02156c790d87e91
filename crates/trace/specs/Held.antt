-- What holds of the trace so far while it breaks no rule: the rules, the one longest sequence and the counts.
use Rattle.std.specs.Prelude.{ℕ, suc, ◌≤◌, ◌<◌, ◌≡◌, Bool, true, false, List, [], ◌∷◌, length, take, get_or}
use Rattle.base.specs.Choice.{either}
use Rattle.base.specs.Record.{Entry, E, B, «V», X, same}
use Rattle.trace.specs.Rules.{Past, less, vs, rule1, rule2, rule3, rule4, rule5, rule6}
use Rattle.trace.specs.Fold.{none, mem, st_of}

-- some server has a V of t
abbrev pub any_v : Entry → Past → Bool
any_v t [] = false
any_v t (E s e ∷ p) = any_v t p
any_v t (B s t' ∷ p) = any_v t p
any_v t («V» s t' ∷ p) = either (same t t') (any_v t p)
any_v t (X l r ∷ p) = any_v t p

-- a server below n that has delivered all of l
pub record Full (n : ℕ) (l : List Entry) (c : ℕ → ℕ) : Type 0 where
  pub who : ℕ
  pub low : who < n
  pub holds : c who ≡ length l

-- l is the longest delivered sequence, c s how many server s delivered, z s its last
pub record Seqs (n : ℕ) (p : Past) (l : List Entry) (c : ℕ → ℕ) (z : ℕ → Entry) : Type 0 where
  pub len : (s : ℕ) → c s ≤ length l
  pub all : (s : ℕ) → vs s p ≡ take (c s) l
  pub full : 0 < length l → Full n l c
  pub rise : (i j : ℕ) → i < j → j < length l → less (get_or l i none) (get_or l j none) ≡ true
  pub any : (t : Entry) → any_v t p ≡ mem t l
  pub last : (s k : ℕ) → c s ≡ suc k → z s ≡ get_or l k none

pub record Kept (n : ℕ) (p : Past) : Type 0 where
  pub k1 : rule1 p ≡ true
  pub k2 : rule2 p ≡ true
  pub k3 : rule3 p ≡ true
  pub k4 : rule4 n p ≡ true
  pub k5 : rule5 p ≡ true
  pub k6 : rule6 p ≡ true

pub record Inv (n : ℕ) (p : Past) : Type 0 where
  pub kept : Kept n p
  pub seqs : Seqs n p (st_of p).seq (st_of p).cnt (st_of p).last
