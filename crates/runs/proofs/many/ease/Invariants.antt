use Prim.Native.Nat.{◌-◌, ◌≤◌}
use mathlib.Core.Path.{◌≡◌}
use lib.ListN.{length}
use Rattle.runs.proofs.Series.{Easing}
use Rattle.runs.proofs.many.ease.Given as goal

abbrev pub invariant-loop-t : goal.invariant-loop-t
invariant-loop-t l = (l.t.met ≤ l.budget) × ((length l.hists ≡ length l.initial.hists) × ((length l.cands ≡ length l.initial.cands) × ((length l.queue ≡ length l.initial.queue) × ((length l.out ≡ length l.initial.out) × Easing l.initial.t.cluster l.budget l.initial.hists l.initial.cands l.initial.queue l.initial.out l.t l.hists l.cands l.queue l.out))))

abbrev pub decreases-loop-t : goal.decreases-loop-t
decreases-loop-t l = l.budget - l.t.met
