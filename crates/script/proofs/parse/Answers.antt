use mathlib.Core.Path.{refl}
use borrow.Author.Rules.{rules}
use Rattle.script.proofs.Lines.{none-short, none-wide, line-one, line-two, one-refused, one-read, two-refused, two-half, two-read}
use Rattle.script.proofs.parse.Goals as goal

pub returns-in_default : goal.returns-in_default
returns-in_default c = search (none-short, rules)

pub returns-in_default-2 : goal.returns-in_default-2
returns-in_default-2 c = search (none-wide, rules)

pub returns-in_err-number-in-None : goal.returns-in_err-number-in-None
returns-in_err-number-in-None c = search (line-one, one-refused, rules)

pub returns-in_err-x-in-Some : goal.returns-in_err-x-in-Some
returns-in_err-x-in-Some c = line-two c.args.line.now (search rules) (search rules) _ _ _ _ c.in-Some.i c.space.ensures c.in-Some.is c.number-in-Some.ensures refl (two-refused _ _ _ _ c.in_err-x-in-Some.was (search rules))

pub returns-in_err-y-in-Some : goal.returns-in_err-y-in-Some
returns-in_err-y-in-Some c = search (line-two, two-half, c.in_err-y-in-Some.was, rules)

pub returns-in_ok-number-in-None : goal.returns-in_ok-number-in-None
returns-in_ok-number-in-None c = search (line-one, one-read, c.in_ok-number-in-None.was, rules)

pub returns-in_ok-y-in-Some : goal.returns-in_ok-y-in-Some
returns-in_ok-y-in-Some c = search (line-two, two-read, c.in_ok-x-in-Some.was, c.in_ok-y-in-Some.was, rules)
