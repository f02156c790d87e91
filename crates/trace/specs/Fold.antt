-- The one-pass checker: a state that each record changes, and six tests of a record against it.
use Rattle.std.specs.Prelude.{ℕ, suc, ◌+◌, Bool, true, false, not, List, [], ◌∷◌, ◌++◌, eqb, leb, ltb, length, get_or}
use Rattle.base.specs.Choice.{pick, both, either, upd}
use Rattle.base.specs.Record.{Entry, Rec, E, B, «V», X, same}
use Rattle.trace.specs.Rules.{Past, less, lowest, Answer, keeps, breaks, refuses, fit}

abbrev pub none : Entry
none = record { ep = 0; ct = 0; vl = 0 }

abbrev pub mem : Entry → List Entry → Bool
mem t [] = false
mem t (x ∷ l) = either (same t x) (mem t l)

pub record St : Type 0 where
  pub seq : List Entry  -- the longest delivered sequence
  pub cnt : ℕ → ℕ  -- how many a server delivered
  pub last : ℕ → Entry  -- a server's last
  pub own : ℕ → ℕ  -- an epoch's owner, plus 1; 0 if none
  pub nxt : ℕ → ℕ  -- an epoch's last counter
  pub top : ℕ  -- the greatest epoch of any B
  pub bs : List Entry  -- the submitted transactions

abbrev pub start : St
start = record { seq = []; cnt = λ _. 0; last = λ _. none; own = λ _. 0; nxt = λ _. 0; top = 0; bs = [] }

abbrev pub next : Rec → St → St
next (E s e) S = record { seq = S.seq; cnt = S.cnt; last = S.last; own = upd S.own e (suc s); nxt = S.nxt; top = S.top; bs = S.bs }
next (B s t) S = record { seq = S.seq; cnt = S.cnt; last = S.last; own = S.own; nxt = upd S.nxt t.ep (S.nxt t.ep + 1); top = pick (leb S.top t.ep) t.ep S.top; bs = t ∷ S.bs }
next («V» s t) S = record { seq = pick (leb (length S.seq) (S.cnt s)) (S.seq ++ (t ∷ [])) S.seq; cnt = upd S.cnt s (suc (S.cnt s)); last = upd S.last s t; own = S.own; nxt = S.nxt; top = S.top; bs = S.bs }
next (X l r) S = S

abbrev pub t1 : St → Rec → Bool
t1 S (E s e) = eqb (S.own e) 0
t1 S (B s t) = true
t1 S («V» s t) = true
t1 S (X l r) = true

abbrev pub t2 : St → Rec → Bool
t2 S (E s e) = true
t2 S (B s t) = both (eqb (S.own t.ep) (suc s)) (eqb t.ct (S.nxt t.ep + 1))
t2 S («V» s t) = true
t2 S (X l r) = true

abbrev pub t3 : St → Rec → Bool
t3 S (E s e) = true
t3 S (B s t) = true
t3 S («V» s t) = mem t S.bs
t3 S (X l r) = true

abbrev pub t4 : St → Rec → Bool
t4 S (E s e) = true
t4 S (B s t) = true
t4 S («V» s t) = either (leb (length S.seq) (S.cnt s)) (same t (get_or S.seq (S.cnt s) none))
t4 S (X l r) = true

-- At a V that makes the longest longer, no B so far may be of a later epoch; but if the V does not rise, and the longest
-- has its transaction already, it is rule 6 alone that it breaks.
abbrev pub t5 : St → Rec → Bool
t5 S (E s e) = true
t5 S (B s t) = either (leb (length S.seq) (S.cnt s)) (leb t.ep (get_or S.seq (S.cnt s) none).ep)
t5 S («V» s t) = either (ltb (S.cnt s) (length S.seq)) (either (leb S.top t.ep) (both (not (less (S.last s) t)) (mem t S.seq)))
t5 S (X l r) = true

abbrev pub t6 : St → Rec → Bool
t6 S (E s e) = true
t6 S (B s t) = true
t6 S («V» s t) = less (S.last s) t
t6 S (X l r) = true

unfoldable pub test : St → Rec → ℕ
test S r = lowest (t1 S r) (t2 S r) (t3 S r) (t4 S r) (t5 S r) (t6 S r)

abbrev pub fast : ℕ → St → List Rec → Answer
fast i S [] = keeps
fast i S (r ∷ t) = elim (eqb (test S r) 0) [ true ↦ fast (suc i) (next r S) t | false ↦ breaks i (test S r) ]

unfoldable pub check : ℕ → List Rec → Answer
check n t = pick (fit n t) (fast 0 start t) refuses

-- the state after a past
abbrev pub st_of : Past → St
st_of [] = start
st_of (r ∷ p) = next r (st_of p)
