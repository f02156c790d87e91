use mathlib.Core.Path.{ap, ◌∙◌}
use Rattle.cabinet.specs.Run.{record_fits}
use Rattle.cabinet.proofs.Runs.{record-part}
use Rattle.octets.specs.Record.{fits}
use Rattle.cabinet.proofs.run.record_fits.Goals as goal

pub returns : goal.returns
unfolding record_fits
returns c = c.record_fits.ensures ∙ ap fits (record-part c.args.held.now c.args.i)
