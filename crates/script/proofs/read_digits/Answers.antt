use borrow.Author.Rules.{rules}
use Rattle.script.proofs.Lines.{read-on, read-stop, read-end}
use Rattle.script.proofs.read_digits.Goals as goal

pub returns-in_err-v : goal.returns-in_err-v
returns-in_err-v c = search (read-stop, rules)

pub loop-b-preserved : goal.loop-b-preserved
loop-b-preserved c = search (read-on, c.in_ok-v.was, rules)

pub returns : goal.returns
returns c = search (read-end, rules)
