use Prim.Native.Nat.{◌+◌, ◌*◌}
use mathlib.Core.Path.{ap, ◌∙◌}
use native.Mathlib.Omega.{arith}
use lib.ListN.{length, drop}
use Rattle.cabinet.specs.Run.{record_fits}
use Rattle.cabinet.proofs.Runs.{record-part}
use Rattle.octets.specs.Record.{fits, state_at}
use lib.ListN.{length-drop}
use lib.Seq.{length-take-le}
use Rattle.cabinet.proofs.run.read_record.Goals as goal

pub read_state-requires : goal.read_state-requires
unfolding record_fits
read_state-requires c = (ap length (record-part c.args.held.now c.args.i) ∙ length-take-le 38 (drop (5 + 38 * c.args.i) c.args.held.now) (omega (arith, length-drop (5 + 38 * c.args.i) c.args.held.now)), ap fits (record-part c.args.held.now c.args.i) ∙ c.requires.1.1)

pub returns : goal.returns
returns c = c.read_state.ensures ∙ ap state_at (record-part c.args.held.now c.args.i)
