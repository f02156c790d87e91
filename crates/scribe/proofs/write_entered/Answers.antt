use borrow.Author.Rules.{rules}
use Rattle.scribe.proofs.Notes.{enter-was, enter-not, enter-does}
use Rattle.scribe.proofs.write_entered.Goals as goal
use Rattle.scribe.proofs.write_entered.Goals.{then-was-eq-L4-via-then-was-eq-L4, then-was-eq-L4-via-else-was-eq-L4+then-is-ne-L4}

pub returns-then-was-eq-L4 : goal.returns-then-was-eq-L4
returns-then-was-eq-L4 c = (
  elim c.then-was-eq-L4.branch [
    | then-was-eq-L4-via-then-was-eq-L4 w ↦ search (enter-was, rules)
    | then-was-eq-L4-via-else-was-eq-L4+then-is-ne-L4 w ↦ search (enter-not, rules)
  ],
  search rules,
)

pub returns : goal.returns
returns c = let w = rw c.from.ensures at c.write_record.ensures in (search (enter-does, rules), search rules)
