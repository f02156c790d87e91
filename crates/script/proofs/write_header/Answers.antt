use borrow.Author.Rules.{rules}
use Rattle.script.proofs.Texts.{header-wrote}
use Rattle.script.proofs.write_header.Goals as goal

pub returns : goal.returns
returns c = let s = c.args in let w = c.write_row in (header-wrote s.out.now w.new.out s.at w.result c.from.result s.n (search rules) c.from.ensures w.ensures.0, search rules)
