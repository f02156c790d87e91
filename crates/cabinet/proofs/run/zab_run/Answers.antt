use mathlib.Core.Path.{sym, ◌∙◌}
use borrow.Author.Rules.{rules}
use Rattle.base.specs.Choice.{pick, both}
use Rattle.base.proofs.Refusals.{code-ok}
use Rattle.runs.specs.Runs.{events_of}
use Rattle.cabinet.specs.Run.{run_of}
use Rattle.cabinet.proofs.Runs.{run-refused, run-done}
use Rattle.cabinet.proofs.run.zab_run.Goals as goal

pub returns-then-not-held_fits : goal.returns-then-not-held_fits
unfolding run_of both pick
returns-then-not-held_fits c = search rules

pub returns-in-Ok : goal.returns-in-Ok
returns-in-Ok c = let a = c.args in run-done a.held.now a.hists.now a.cands.now a.queue.now a.out.now a.events.now a.budget c.read_cluster-c.result c.run-t.result _ _ _ _ _ (sym c.held_fits.ensures ∙ c.if-not-held_fits.false) c.read_cluster-c.ensures c.run-t.ensures (code-ok _ _ c.in-Ok.is) c.write_cluster.ensures

pub returns-in-Err : goal.returns-in-Err
returns-in-Err c = let a = c.args in rw c.from-in-Err.ensures (run-refused a.held.now a.hists.now a.cands.now a.queue.now a.out.now a.events.now a.budget c.read_cluster-c.result c.run-t.result _ _ _ _ (events_of c.read_cluster-c.result.sizes a.events.now _) c.in-Err.why (sym c.held_fits.ensures ∙ c.if-not-held_fits.false) c.read_cluster-c.ensures c.run-t.ensures c.in-Err.is)
