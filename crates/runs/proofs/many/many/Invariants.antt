use Rattle.runs.proofs.Series.{Reading}
use Rattle.runs.proofs.many.many.Given as goal

abbrev pub invariant-loop-j : goal.invariant-loop-j
invariant-loop-j l = Reading l.initial.t.cluster l.es l.n l.j l.initial.hists l.initial.cands l.initial.queue l.initial.out l.t l.hists l.cands l.queue l.out
