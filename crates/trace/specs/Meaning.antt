-- What the checker answers, and what it leaves in the space.
use Rattle.std.specs.Prelude.{ℕ, ◌*◌, ◌≡◌, List, [], leb, length}
use Rattle.base.specs.Choice.{pick, both}
use Rattle.base.specs.Refusals.{TRACE}
use Rattle.trace.specs.Rules.{Answer, keeps, breaks, refuses, answer, walk, all_sound}
use Rattle.trace.specs.Words.{recs_of, recs_from, past_at, count_of, all_known, readable, grown, laid}
use Rattle.trace.specs.Table.{cleared}
use Rattle.trace.specs.Number.{number}
use Rattle.trace.specs.declared.Verdict.{Verdict}
use Rattle.trace.specs.declared.Verdict.TheVariants.{Keeps, Breaks, Refused}

-- the paper's answer of each case
abbrev pub meant : Verdict → Answer
meant Keeps = keeps
meant (Breaks place rule) = breaks place (number rule)
meant Refused = refuses

-- the number of the refusal, 0 for an answer
abbrev pub refusal : Verdict → ℕ
refusal Keeps = 0
refusal (Breaks place rule) = 0
refusal Refused = TRACE

-- TRACE too for words that are not whole records, an unknown kind, and a space of fewer than four words for each record
unfoldable pub verdict : ℕ → List ℕ → ℕ → Answer
verdict n w room = pick (both (readable w) (leb (4 * count_of w) room)) (answer n (recs_of w)) refuses

-- of the first words, one for each record: the numbers of the records, up to the one that is named, at which the longest
-- delivered sequence grew, and then as they were; of the next three for each record: zeros; the others as they were. A refusal
-- leaves all as they were
abbrev pub left : Answer → List ℕ → List ℕ → List ℕ
left keeps w sp = laid (grown (past_at w (count_of w))) (cleared (count_of w) sp)
left (breaks place rule) w sp = laid (grown (past_at w place)) (cleared (count_of w) sp)
left refuses w sp = sp

pub record Judged (n : ℕ) (w sp : List ℕ) (count : ℕ) (r : Verdict) (sp' : List ℕ) : Type 0 where
  pub says : meant r ≡ pick (both (all_known w 0 count) (all_sound n (recs_from w 0 count))) (walk n [] (recs_from w 0 count)) refuses
  pub space : sp' ≡ left (meant r) w sp

pub record Checked (n : ℕ) (w sp : List ℕ) (r : Verdict) (sp' : List ℕ) : Type 0 where
  pub says : meant r ≡ verdict n w (length sp)
  pub space : sp' ≡ left (verdict n w (length sp)) w sp
