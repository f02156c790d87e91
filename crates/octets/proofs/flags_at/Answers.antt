use Rattle.std.proofs.Common.{rules, false}
use Rattle.octets.specs.Record.{flags}
use Rattle.octets.proofs.Laws.{seven-of, seven_at}
use Rattle.octets.proofs.flags_at.Goals as goal

pub returns : goal.returns
unfolding flags
returns c = rw (seven_at c.args.w.now c.args.at 0 (search rules)) (seven-of _ false _ _ _ _ _ _ _ (search rules) (search rules) (search rules) (search rules) (search rules) (search rules) (search rules) (search rules))
