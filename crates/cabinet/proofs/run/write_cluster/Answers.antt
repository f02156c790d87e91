use Rattle.cabinet.proofs.Runs.{held-written}
use Rattle.cabinet.proofs.run.write_cluster.Goals as goal

pub returns : goal.returns
returns c = let a = c.args in held-written a.c a.met a.taken a.held.now c.write_five.new.held c.write_records.new.held c.write_ring.new.held c.write_ring-2.new.held c.requires (c.well_formed.1.0.1.1.1.1.1.0.1.1.0.1.0.1) (c.well_formed.1.0.1.1.1.1.1.0.1.1.1.0.1.0.1) c.write_five.ensures c.write_records.ensures c.write_ring.ensures c.write_ring-2.ensures
