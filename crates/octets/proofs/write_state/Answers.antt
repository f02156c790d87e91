use Rattle.octets.proofs.Laws.{written}
use borrow.Author.Rules.{rules}
use Rattle.octets.proofs.write_state.Goals as goal

pub returns : goal.returns
returns c = written c.args.s c.args.w.now c.put_ten.new.w c.put_flags.new.w c.put_flags-2.new.w c.put_flags-3.new.w c.put_counts.new.w (search rules) (search (rules, c.well_formed.1.0)) (search (rules, c.well_formed.1.0)) (search (rules, c.well_formed.1.0.1.1.1.1.1.1.1.1.1.1.1.1)) (search (rules, c.well_formed.1.0.1.1.1.1.1.1.1.1.1.1.1.1.1)) c.put_ten.ensures c.put_flags.ensures c.put_flags-2.ensures c.put_flags-3.ensures c.put_counts.ensures
