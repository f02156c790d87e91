use native.Mathlib.Omega.{arith}
use Rattle.trace.specs.Table.{cell}
use Rattle.trace.proofs.Lookup.{find-other, find-epoch}
use Rattle.trace.proofs.epochs.find.Goals as goal

pub returns-then-listed : goal.returns-then-listed
returns-then-listed c = find-epoch c.args.r.recs.now (cell c.args.space.now c.args.count) c.args.count c.args.r.i (omega arith) c.listed.ensures c.requires.0.links c.if-listed.true c.epoch.ensures c.walk.ensures

pub returns-else-listed : goal.returns-else-listed
returns-else-listed c = find-other c.args.r.recs.now (cell c.args.space.now c.args.count) c.args.count c.args.r.i (omega arith) c.listed.ensures c.if-listed.false
