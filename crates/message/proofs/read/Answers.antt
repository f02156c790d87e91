use native.Mathlib.Omega.{arith}
use mathlib.Core.Path.{sym, ◌∙◌}
use Rattle.message.proofs.Laws.{tidy_room, reads, unread}
use Rattle.message.proofs.read.Goals as goal

pub read_said-requires : goal.read_said-requires
read_said-requires c =
    let p = c.requires in
    let k = tidy_room c.args.z c.args.m.now (sym c.is_tidy.ensures ∙ c.if-is_tidy.true) in
    (omega arith, (omega arith, omega arith))

pub returns-then-is_tidy : goal.returns-then-is_tidy
returns-then-is_tidy c = reads _ _ _ (sym c.is_tidy.ensures ∙ c.if-is_tidy.true) c.read_said.ensures

pub returns-else-is_tidy : goal.returns-else-is_tidy
returns-else-is_tidy c = unread _ _ (sym c.is_tidy.ensures ∙ c.if-is_tidy.false)
