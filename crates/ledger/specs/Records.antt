-- Records of a trace: counting them, being there, standing before another; what it is to be submitted once.
use Rattle.std.specs.Prelude.{ℕ, ◌+◌, ◌≡◌, ◌⊎◌, Bool, false, List, [], ◌∷◌, ◌++◌, eqb}
use Rattle.base.specs.Choice.{pick, both}
use Rattle.base.specs.Record.{Rec, E, B, «V», X, Entry, same}

-- how many elements of a list pass a test
unfoldable pub count : {A : Type 0} → (A → Bool) → List A → ℕ
count f [] = 0
count f (x ∷ xs) = pick (f x) 1 0 + count f xs

-- an E of epoch e
unfoldable pub is_e : ℕ → Rec → Bool
is_e e (E s e') = eqb e' e
is_e e (B s t) = false
is_e e («V» s t) = false
is_e e (X line k) = false

-- a B whose entry passes a test
unfoldable pub is_b : (Entry → Bool) → Rec → Bool
is_b f (E s e) = false
is_b f (B s t) = f t
is_b f («V» s t) = false
is_b f (X line k) = false

-- the epoch and counter of t
unfoldable pub numbered : Entry → Entry → Bool
numbered t u = both (eqb u.ep t.ep) (eqb u.ct t.ct)

-- what each record of a trace adds, in order
unfoldable pub gather : (Rec → List Entry) → List Rec → List Entry
gather f [] = []
gather f (r ∷ tr) = f r ++ gather f tr

-- the entry of a B of epoch e
unfoldable pub begun_by : ℕ → Rec → List Entry
begun_by e (E s e') = []
begun_by e (B s t) = pick (eqb t.ep e) (t ∷ []) []
begun_by e («V» s t) = []
begun_by e (X line k) = []

-- the entry of a V of server i
unfoldable pub view_by : ℕ → Rec → List Entry
view_by i (E s e) = []
view_by i (B s t) = []
view_by i («V» s t) = pick (eqb s i) (t ∷ []) []
view_by i (X line k) = []

-- the entries of the B records of epoch e, in order
abbrev pub begun_in : ℕ → List Rec → List Entry
begun_in e tr = gather (begun_by e) tr

-- the entries of the V records of server i, in order
abbrev pub views_in : ℕ → List Rec → List Entry
views_in i tr = gather (view_by i) tr

-- x is in a list
abbrev pub In : {A : Type 0} → A → List A → Type 0
In x [] = ⊥
In x (y ∷ l) = (x ≡ y) ⊎ In x l

-- x stands before y in a trace
pub record Before (x y : Rec) (tr : List Rec) : Type 0 where
  pub front : List Rec
  pub middle : List Rec
  pub back : List Rec
  pub splits : tr ≡ front ++ (x ∷ (middle ++ (y ∷ back)))

-- the transaction of t was submitted exactly once, its epoch and counter are in no other B, and it was by a server whose E for that epoch stands before
pub record Submitted (tr : List Rec) (t : Entry) : Type 0 where
  pub by : ℕ
  pub once : count (is_b (same t)) tr ≡ 1
  pub alone : count (is_b (numbered t)) tr ≡ 1
  pub led : Before (E by t.ep) (B by t) tr
