-- What the state and the space stand for, before a record and after it.
use Rattle.std.specs.Prelude.{ℕ, suc, ◌+◌, ◌-◌, ◌≤◌, ◌<◌, ◌≡◌, Bool, true, false, List, ◌∷◌, map, eqb, leb, length, ltb, take, get_or, set, Option, Some, None, Result, Ok, Err}
use Rattle.base.specs.Choice.{pick, both, either}
use Rattle.base.specs.Record.{B, same}
use Rattle.trace.specs.Rules.{Past, less, rule1, new2, rule2, any_b, broken, sound}
use Rattle.trace.specs.Fold.{mem, st_of}
use Rattle.trace.specs.Held.{Inv}
use Rattle.trace.specs.Words.{Within, kind_of, who_of, epoch_at, counter_at, entry_at, rec_at, past_at, grown, laid, latest_of}
use Rattle.trace.specs.declared.step.State.{State}
use Rattle.trace.specs.Number.{number}
use Rattle.trace.specs.declared.Rule.{Rule}
use Rattle.trace.specs.declared.Rule.TheVariants.{EarlierB, OneBegins}

-- the sizes, before record i
pub record Ready (w sp : List ℕ) (i : ℕ) (s : State) : Type 0 where
  pub here : Within w i
  pub room : i < length sp
  pub len : s.len ≤ i
  pub marks : (k : ℕ) → k < s.len → get_or sp k 0 < i
  pub counts : (x : ℕ) → x < 7 → get_or s.counts x 0 ≤ s.len
  pub seen : s.seen ≤ i
  pub who : (kind_of w i ≡ 4 → ⊥) → who_of w i < 7
  pub ct : kind_of w i ≡ 2 → 1 ≤ counter_at w i

-- a record's number counted from 1; 0 for none
abbrev pub counted : Option ℕ → ℕ
counted None = 0
counted (Some j) = suc j

-- the latest record of the epoch of record i, if that is an E or a B
abbrev pub Latest : List ℕ → ℕ → Option ℕ → Type 0
Latest w i m = kind_of w i ≤ 2 → counted m ≡ latest_of w (epoch_at w i) i

-- the trace before record i, p, breaks no rule, and the state and the space tell of it
pub record Holds (n : ℕ) (p : Past) (sp : List ℕ) (i : ℕ) (s : State) : Type 0 where
  pub inv : Inv n p
  pub laid : take s.len sp ≡ grown p
  pub len : s.len ≡ length (grown p)
  pub size : length s.counts ≡ 7
  pub cnt : (x : ℕ) → x < 7 → get_or s.counts x 0 ≡ (st_of p).cnt x
  pub top : s.top ≡ (st_of p).top
  pub seen : s.seen ≤ i

-- the number of the rule that is broken, 0 if none is
abbrev pub broken_of : {A : Type 0} → Result A Rule → ℕ
broken_of (Ok t) = 0
broken_of (Err r) = number r

-- record i breaks no rule: what holds before the next
pub record Went (n : ℕ) (w sp : List ℕ) (i : ℕ) (t : State) (sp' : List ℕ) : Type 0 where
  pub rule : 0 ≡ broken n (rec_at w i ∷ past_at w i)
  pub goes : Holds n (rec_at w i ∷ past_at w i) sp' (suc i) t
  pub space : sp' ≡ laid (grown (rec_at w i ∷ past_at w i)) sp

-- the rule that record i breaks
pub record Stopped (n : ℕ) (w sp : List ℕ) (i : ℕ) (r : Rule) (sp' : List ℕ) : Type 0 where
  pub rule : number r ≡ broken n (rec_at w i ∷ past_at w i)
  pub stays : sp' ≡ sp

abbrev pub Stepped : ℕ → List ℕ → List ℕ → ℕ → Result State Rule → List ℕ → Type 0
Stepped n w sp i (Ok t) sp' = Went n w sp i t sp'
Stepped n w sp i (Err r) sp' = Stopped n w sp i r sp'

-- what is promised of a record, whatever the number of servers
abbrev pub Steps : List ℕ → List ℕ → ℕ → State → Result State Rule → List ℕ → Type 0
Steps w sp i s r sp' = (n : ℕ) → Holds n (past_at w i) sp i s → sound n (rec_at w i) ≡ true → Stepped n w sp i r sp'

-- a B before record i of its transaction, or none
abbrev pub Source : List ℕ → ℕ → Option ℕ → Type 0
Source w i (Some k) = (k < i) × (any_b (entry_at w i) (past_at w i) ≡ true)
Source w i None = any_b (entry_at w i) (past_at w i) ≡ false

-- a V inside the longest, whose next transaction is that of record `at`
unfoldable pub inside_of : List ℕ → ℕ → ℕ → ℕ → State → Result State Rule
inside_of w at i x s =
    pick (same (entry_at w i) (entry_at w at))
    (Ok (record { counts = set s.counts x (get_or s.counts x 0 + 1); len = s.len; top = s.top; seen = s.seen }))
    (Err (pick (any_b (entry_at w i) (past_at w i)) OneBegins EarlierB))

-- rule 2 at record i, a B
abbrev pub Follows : List ℕ → ℕ → Bool → Type 0
Follows w i r = rule1 (past_at w i) ≡ true → rule2 (past_at w i) ≡ true → r ≡ new2 (B (who_of w i) (entry_at w i)) (past_at w i)

-- a server that delivered c lacks the next transaction of the longest, and its epoch is earlier than that of record i
abbrev pub lacks_of : List ℕ → List ℕ → ℕ → ℕ → ℕ → Bool
lacks_of w sp i c len = both (ltb c len) (ltb (epoch_at w (get_or sp c 0)) (epoch_at w i))

-- is record i above the last of the longest?
abbrev pub rises_of : List ℕ → List ℕ → ℕ → ℕ → Bool
rises_of w sp i len = pick (eqb len 0) true (less (entry_at w (get_or sp (len - 1) 0)) (entry_at w i))

-- rules 5 and 6 at a V that makes the longest longer
unfoldable pub late_of : List ℕ → List ℕ → ℕ → ℕ → ℕ → ℕ
late_of w sp i len top =
    pick (rises_of w sp i len)
    (pick (leb top (entry_at w i).ep) 0 5)
    (pick (either (leb top (entry_at w i).ep) (mem (entry_at w i) (map (entry_at w) (take len sp)))) 6 5)
