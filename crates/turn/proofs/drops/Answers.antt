use borrow.Author.Rules.{rules}
use mathlib.Core.Path.{ap, sym, ◌∙◌}
use mathlib.Core.Bool.{not}
use Rattle.turn.proofs.Laws.{kept-back, dropped}
use Rattle.turn.proofs.drops.Goals as goal
use Rattle.turn.proofs.drops.Goals.{in-State, in_default}

pub returns : goal.returns
returns c = elim c.match-matches.branch [ in-State w ↦ ap not w.matches-is ∙ sym (kept-back c.args.why w.in-State.is) | in_default w ↦ ap not w.matches-is ∙ sym (search (dropped, rules, w.in_default)) ]
