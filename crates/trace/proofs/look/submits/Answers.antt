use Rattle.base.specs.Choice.{both}
use Rattle.trace.specs.Words.{submits}
use Rattle.trace.specs.declared.words.Kind.TheVariants.{B}
use Rattle.trace.proofs.Kind.{read-eq}
use Rattle.trace.proofs.look.submits.Goals as goal

pub returns-then-eq : goal.returns-then-eq
unfolding submits both
returns-then-eq c = rw (← read-eq c.kind.result B _ (rw c.requires at c.kind.ensures), ← c.eq.ensures, c.if-eq.true) (rw c.requires at c.same.ensures)

pub returns-else-eq : goal.returns-else-eq
unfolding submits both
returns-else-eq c = rw (← read-eq c.kind.result B _ (rw c.requires at c.kind.ensures), ← c.eq.ensures, c.if-eq.false)
