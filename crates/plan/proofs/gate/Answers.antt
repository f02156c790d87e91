use mathlib.Core.Path.{sym}
use mathlib.Core.Logic.{◌≢◌}
use Rattle.base.specs.Refusals.{ROLE}
use Rattle.rules.specs.Table.{cell}
use Rattle.plan.proofs.Table.{is-role, not-role, some-taken, none-taken, gate-role, gate-sender, gate-phase, gate-taken, not-taken-role}
use borrow.Author.Rules.{rules}
use Rattle.plan.proofs.gate.Goals as goal
use Rattle.plan.proofs.gate.Goals.{else-not-taken-via-then-not-taken+else-eq, else-not-taken-via-else-not-taken}

pub returns-then-eq : goal.returns-then-eq
returns-then-eq c = λ t. gate-role _ _ _ t (is-role _ _ c.by_match.ensures (sym c.if-eq.ensures))

pub returns-then-not-who : goal.returns-then-not-who
returns-then-not-who c = λ t. let n : cell c.args.kind c.args.stage ≢ ROLE = elim c.else-not-taken.branch [ else-not-taken-via-then-not-taken+else-eq w ↦ not-role _ _ w.by_match.ensures (sym w.if-eq.ensures) | else-not-taken-via-else-not-taken w ↦ not-taken-role _ _ c.by_table.ensures w.if-not-taken.ensures ] in
    gate-sender _ _ _ t n (search rules)

pub returns-then-not-taken-2 : goal.returns-then-not-taken-2
returns-then-not-taken-2 c = λ t. let n : cell c.args.kind c.args.stage ≢ ROLE = elim c.else-not-taken.branch [ else-not-taken-via-then-not-taken+else-eq w ↦ not-role _ _ w.by_match.ensures (sym w.if-eq.ensures) | else-not-taken-via-else-not-taken w ↦ not-taken-role _ _ c.by_table.ensures w.if-not-taken.ensures ] in
    gate-phase _ _ _ t n (search rules) (some-taken _ _ c.by_table.ensures c.if-not-taken-2.ensures)

pub returns : goal.returns
returns c = λ t. gate-taken _ _ _ t (search rules) (none-taken _ _ c.by_table.ensures c.if-not-taken-2.ensures)
