-- The six trace rules, each over the trace so far, and the checker's answer. Nothing here knows of a cluster.
use Rattle.std.specs.Prelude.{ℕ, ◌+◌, Bool, true, false, not, List, [], ◌∷◌, ◌++◌, eqb, leb, ltb, length}
use Rattle.base.specs.Choice.{pick, both, either, all_below}
use Rattle.base.specs.Record.{Entry, Rec, E, B, «V», X, same}

-- the trace so far, its newest record first
abbrev pub Past : Type 0
Past = List Rec

-- is the identifier of a below that of b?
unfoldable pub less : Entry → Entry → Bool
less a b = either (ltb a.ep b.ep) (both (eqb a.ep b.ep) (ltb a.ct b.ct))

-- a rule that asks of each record something about the records before it
abbrev pub each : (Rec → Past → Bool) → Past → Bool
each f [] = true
each f (r ∷ p) = both (f r p) (each f p)

-- ---- 1: one E for an epoch

abbrev pub any_e : ℕ → Past → Bool
any_e e [] = false
any_e e (E s e' ∷ p) = either (eqb e e') (any_e e p)
any_e e (B s t ∷ p) = any_e e p
any_e e («V» s t ∷ p) = any_e e p
any_e e (X l r ∷ p) = any_e e p

abbrev pub new1 : Rec → Past → Bool
new1 (E s e) p = not (any_e e p)
new1 (B s t) p = true
new1 («V» s t) p = true
new1 (X l r) p = true

abbrev pub rule1 : Past → Bool
rule1 p = each new1 p

-- ---- 2: B comes after that server's E of that epoch; an epoch's counters run 1, 2, 3

abbrev pub has_e : ℕ → ℕ → Past → Bool
has_e s e [] = false
has_e s e (E s' e' ∷ p) = either (both (eqb e e') (eqb s s')) (has_e s e p)
has_e s e (B s' t ∷ p) = has_e s e p
has_e s e («V» s' t ∷ p) = has_e s e p
has_e s e (X l r ∷ p) = has_e s e p

abbrev pub count_b : ℕ → Past → ℕ
count_b e [] = 0
count_b e (E s e' ∷ p) = count_b e p
count_b e (B s t ∷ p) = count_b e p + pick (eqb e t.ep) 1 0
count_b e («V» s t ∷ p) = count_b e p
count_b e (X l r ∷ p) = count_b e p

abbrev pub new2 : Rec → Past → Bool
new2 (E s e) p = true
new2 (B s t) p = both (has_e s t.ep p) (eqb t.ct (count_b t.ep p + 1))
new2 («V» s t) p = true
new2 (X l r) p = true

abbrev pub rule2 : Past → Bool
rule2 p = each new2 p

-- ---- 3: V equals an earlier B in epoch, counter and value

abbrev pub any_b : Entry → Past → Bool
any_b t [] = false
any_b t (E s e ∷ p) = any_b t p
any_b t (B s t' ∷ p) = either (same t t') (any_b t p)
any_b t («V» s t' ∷ p) = any_b t p
any_b t (X l r ∷ p) = any_b t p

abbrev pub new3 : Rec → Past → Bool
new3 (E s e) p = true
new3 (B s t) p = true
new3 («V» s t) p = any_b t p
new3 (X l r) p = true

abbrev pub rule3 : Past → Bool
rule3 p = each new3 p

-- ---- 4: any two servers' V sequences: one begins the other

-- the V sequence of a server, oldest first
abbrev pub vs : ℕ → Past → List Entry
vs s [] = []
vs s (E s' e ∷ p) = vs s p
vs s (B s' t ∷ p) = vs s p
vs s («V» s' t ∷ p) = vs s p ++ pick (eqb s s') (t ∷ []) []
vs s (X l r ∷ p) = vs s p

abbrev pub begins : List Entry → List Entry → Bool
begins [] b = true
begins (x ∷ a) [] = false
begins (x ∷ a) (y ∷ b) = both (same x y) (begins a b)

abbrev pub rule4 : ℕ → Past → Bool
rule4 n p = all_below n (λ s. all_below n (λ s'. either (begins (vs s p) (vs s' p)) (begins (vs s' p) (vs s p))))

-- ---- 5: when a server has a B of epoch e, it has before that B a V of each earlier-epoch transaction with a V anywhere

abbrev pub has_v : ℕ → Entry → Past → Bool
has_v x t [] = false
has_v x t (E s e ∷ p) = has_v x t p
has_v x t (B s t' ∷ p) = has_v x t p
has_v x t («V» s t' ∷ p) = either (both (eqb x s) (same t t')) (has_v x t p)
has_v x t (X l r ∷ p) = has_v x t p

-- server x, whose B of epoch e has the past q, had t by then, if t is of an earlier epoch
abbrev pub had : ℕ → ℕ → Past → Entry → Bool
had x e q t = either (leb e t.ep) (has_v x t q)

abbrev pub each_v : (Entry → Bool) → Past → Bool
each_v f [] = true
each_v f (E s e ∷ p) = each_v f p
each_v f (B s t ∷ p) = each_v f p
each_v f («V» s t ∷ p) = both (f t) (each_v f p)
each_v f (X l r ∷ p) = each_v f p

abbrev pub each_b : (ℕ → Entry → Past → Bool) → Past → Bool
each_b f [] = true
each_b f (E s e ∷ p) = each_b f p
each_b f (B s t ∷ p) = both (f s t p) (each_b f p)
each_b f («V» s t ∷ p) = each_b f p
each_b f (X l r ∷ p) = each_b f p

abbrev pub rule5 : Past → Bool
rule5 p = each_b (λ x b q. each_v (had x b.ep q) p) p

-- ---- 6: one server's V identifiers rise

-- the server's last V so far; before any, identifier 0
abbrev pub last_v : ℕ → Past → Entry
last_v s [] = record { ep = 0; ct = 0; vl = 0 }
last_v s (E s' e ∷ p) = last_v s p
last_v s (B s' t ∷ p) = last_v s p
last_v s («V» s' t ∷ p) = pick (eqb s s') t (last_v s p)
last_v s (X l r ∷ p) = last_v s p

abbrev pub new6 : Rec → Past → Bool
new6 (E s e) p = true
new6 (B s t) p = true
new6 («V» s t) p = less (last_v s p) t
new6 (X l r) p = true

abbrev pub rule6 : Past → Bool
rule6 p = each new6 p

-- ---- the answer

abbrev pub lowest : Bool → Bool → Bool → Bool → Bool → Bool → ℕ
lowest false b c d e f = 1
lowest true false c d e f = 2
lowest true true false d e f = 3
lowest true true true false e f = 4
lowest true true true true false f = 5
lowest true true true true true false = 6
lowest true true true true true true = 0

-- the lowest rule that the trace so far breaks, 0 if it keeps all six
unfoldable pub broken : ℕ → Past → ℕ
broken n p = lowest (rule1 p) (rule2 p) (rule3 p) (rule4 n p) (rule5 p) (rule6 p)

-- malformed: server not below n, an E, B or V with epoch or counter zero (an unknown kind is no Rec)
abbrev pub sound : ℕ → Rec → Bool
sound n (E s e) = both (ltb s n) (leb 1 e)
sound n (B s t) = both (ltb s n) (both (leb 1 t.ep) (leb 1 t.ct))
sound n («V» s t) = both (ltb s n) (both (leb 1 t.ep) (leb 1 t.ct))
sound n (X l r) = true

abbrev pub all_sound : ℕ → List Rec → Bool
all_sound n [] = true
all_sound n (r ∷ t) = both (sound n r) (all_sound n t)

-- yes; or the first record (counted from 0) at which the trace so far breaks a rule, with the lowest such rule; or TRACE
pub data Answer : Type 0 where
  keeps : Answer
  breaks : (place rule : ℕ) → Answer
  refuses : Answer

abbrev pub walk : ℕ → Past → List Rec → Answer
walk n p [] = keeps
walk n p (r ∷ t) = elim (eqb (broken n (r ∷ p)) 0) [ true ↦ walk n (r ∷ p) t | false ↦ breaks (length p) (broken n (r ∷ p)) ]

-- n from 3 to 7, at most 1,024 records, none malformed
unfoldable pub fit : ℕ → List Rec → Bool
fit n t = both (leb 3 n) (both (leb n 7) (both (leb (length t) 1024) (all_sound n t)))

unfoldable pub answer : ℕ → List Rec → Answer
answer n t = pick (fit n t) (walk n [] t) refuses
