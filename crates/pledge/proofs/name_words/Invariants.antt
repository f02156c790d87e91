use Rattle.std.proofs.Common.{◌≡◌}
use Rattle.pledge.proofs.Named.{written}
use Rattle.pledge.proofs.name_words.Given as goal

-- the words of the first j + 1 events are written
abbrev pub invariant-loop-j : goal.invariant-loop-j
invariant-loop-j l = (l.y ≡ l.fn.x) × (l.words ≡ written l.fn.x l.j)
