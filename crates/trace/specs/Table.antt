-- The table of epochs, by its words: `f k` is word k of it.
use Rattle.std.specs.Prelude.{ℕ, zero, suc, ◌+◌, ◌-◌, ◌*◌, ◌/◌, ◌%◌, ◌≤◌, ◌<◌, ◌≡◌, ◌≢◌, Bool, List, ◌++◌, eqb, leb, length, take, drop, get_or, replicate}
use Rattle.base.specs.Choice.{pick, either}
use Rattle.trace.specs.Words.{WORDS, kind_of, epoch_at, latest_of}

-- word k of the table, which begins at word `count` of the space
abbrev pub cell : List ℕ → ℕ → ℕ → ℕ
cell sp count k = get_or sp (count + k) 0

-- the space with zeros for the table
unfoldable pub cleared : ℕ → List ℕ → List ℕ
cleared count sp = take count sp ++ (replicate (3 * count) 0 ++ drop (4 * count) sp)

-- the epoch that node j stands for
abbrev pub key_of : List ℕ → (ℕ → ℕ) → ℕ → ℕ
key_of w f j = epoch_at w (f (3 * j) - 1)

-- does the walk for epoch e end at node j? Its first word is 0, or names a record of that epoch
unfoldable pub ends : List ℕ → (ℕ → ℕ) → ℕ → ℕ → Bool
ends w f e j = either (eqb (f (3 * j)) 0) (eqb (key_of w f j) e)

-- the word of the child of node j, on the side of the lowest bit of `rest`
abbrev pub side : ℕ → ℕ → ℕ
side j rest = 3 * j + 1 + rest % 2

-- the word at which the walk for epoch e ends, from node j on, if it does within n steps; `rest` is what is left of the
-- epoch's bits
unfoldable pub spot : List ℕ → (ℕ → ℕ) → ℕ → ℕ → ℕ → ℕ → ℕ
spot w f e zero j rest = 3 * j
spot w f e (suc n) j rest = pick (ends w f e j) (3 * j) (pick (eqb (f (side j rest)) 0) (side j rest) (spot w f e n (f (side j rest)) (rest / 2)))

-- the word at which the walk for the epoch of record i ends, if that is an E or a B; else word 0
unfoldable pub spot_at : List ℕ → (ℕ → ℕ) → ℕ → ℕ → ℕ
spot_at w f count i = pick (leb (kind_of w i) 2) (spot w f (epoch_at w i) count 0 (epoch_at w i)) 0

-- x without its k lowest bits
unfoldable pub halved : ℕ → ℕ → ℕ
halved zero x = x
halved (suc k) x = halved k x / 2

-- bit k of x, the lowest is bit 0
abbrev pub bit_of : ℕ → ℕ → ℕ
bit_of k x = halved k x % 2

-- n nodes: each names a record before record i or none, and its children come after it
pub record Linked (f : ℕ → ℕ) (n i : ℕ) : Type 0 where
  pub first : (j : ℕ) → j < n → f (3 * j) ≤ i
  pub after : (j b : ℕ) → j < n → b < 2 → f (3 * j + 1 + b) ≢ 0 → j < f (3 * j + 1 + b)
  pub below : (j b : ℕ) → j < n → b < 2 → f (3 * j + 1 + b) ≢ 0 → f (3 * j + 1 + b) < n

-- n nodes, and how deep each lies: a child is one step deeper, and its epoch has as many of the parent's lowest bits as that
-- lies deep, and then the bit of its side
pub record Deep (w : List ℕ) (f : ℕ → ℕ) (n : ℕ) : Type 0 where
  pub depth : ℕ → ℕ
  pub root : depth 0 ≡ 0
  pub down : (j b : ℕ) → j < n → b < 2 → f (3 * j + 1 + b) ≢ 0 → depth (f (3 * j + 1 + b)) ≡ suc (depth j)
  pub alike : (j b k : ℕ) → j < n → b < 2 → f (3 * j + 1 + b) ≢ 0 → k < depth j → bit_of k (key_of w f (f (3 * j + 1 + b))) ≡ bit_of k (key_of w f j)
  pub turn : (j b : ℕ) → j < n → b < 2 → f (3 * j + 1 + b) ≢ 0 → bit_of (depth j) (key_of w f (f (3 * j + 1 + b))) ≡ b

-- the table in the space sp can be walked
pub record Walkable (w sp : List ℕ) (count : ℕ) : Type 0 where
  pub links : Linked (cell sp count) count count
  pub deep : Deep w (cell sp count) count
  pub recs : WORDS * count ≤ length w
  pub room : 4 * count ≤ length sp

-- word r is that one, and it lies in the table
pub record Found (w : List ℕ) (f : ℕ → ℕ) (count i r : ℕ) : Type 0 where
  pub is : r ≡ spot_at w f count i
  pub low : r < 3 * count

-- before record i the table has so many nodes, and its walks end at the latest E or B of each epoch
pub record Tabled (w : List ℕ) (f : ℕ → ℕ) (count nodes i : ℕ) : Type 0 where
  pub links : Linked f nodes i
  pub deep : Deep w f nodes
  pub one : 1 ≤ nodes
  pub bare : f 0 ≡ 0 → nodes ≡ 1
  pub few : f 0 ≢ 0 → nodes ≤ i
  pub full : (j : ℕ) → 0 < j → j < nodes → 1 ≤ f (3 * j)
  pub rest : (k : ℕ) → 3 * nodes ≤ k → k < 3 * count → f k ≡ 0
  pub says : (e : ℕ) → f (spot w f e count 0 e) ≡ latest_of w e i

-- record i is noted: the number of nodes and the space after it; outside the table no word has changed
pub record Noted (w : List ℕ) (count i : ℕ) (sp : List ℕ) (nodes : ℕ) (sp' : List ℕ) : Type 0 where
  pub table : Tabled w (cell sp' count) count nodes (suc i)
  pub kept : cleared count sp' ≡ cleared count sp
