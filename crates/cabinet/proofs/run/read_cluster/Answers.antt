use Rattle.std.proofs.Common.{rules}
use Rattle.octets.proofs.Laws.{seven-of}
use Rattle.cabinet.proofs.Runs.{fit_of, read_all}
use Rattle.rules.specs.Words.{tab}
use Rattle.site.specs.Site.{none}
use Rattle.std.proofs.iter.Serving.{serving}
use Rattle.cabinet.proofs.run.read_cluster.Goals as goal

pub from_fn-requires : goal.from_fn-requires
from_fn-requires c =
    let f = fit_of c.args.held.now c.requires in
    grind (serving, f.records, f.size)

pub returns : goal.returns
unfolding tab
returns c =
    read_all c.args.held.now c.from_fn.result _ _ _ _ _
    (seven-of c.from_fn.result none _ _ _ _ _ _ _ (search rules) (search rules) (search rules) (search rules) (search rules) (search rules) (search rules) (search rules))
    c.read_ring.ensures c.read_ring-2.ensures c.tiny.ensures c.narrow.ensures c.tiny-2.ensures
