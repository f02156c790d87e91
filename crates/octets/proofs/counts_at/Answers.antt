use Rattle.std.proofs.Common.{rules}
use Rattle.octets.proofs.Laws.{seven-of, seven_at}
use Rattle.octets.proofs.counts_at.Goals as goal

pub returns : goal.returns
returns c = rw (seven_at c.args.w.now c.args.at 0 (search rules)) (seven-of _ 0 _ _ _ _ _ _ _ (search rules) (search rules) (search rules) (search rules) (search rules) (search rules) (search rules) (search rules))
