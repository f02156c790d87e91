use borrow.Author.Rules.{rules}
use Rattle.script.proofs.Texts.{wrote_one, row-on, row-end}
use Rattle.script.proofs.write_row.Goals as goal

pub loop-v-init : goal.loop-v-init
loop-v-init c = (search (wrote_one, rules), search rules)

pub loop-v-preserved : goal.loop-v-preserved
loop-v-preserved c = (search (row-on, rules), search rules)

pub returns : goal.returns
returns c = (search (row-end, rules), search rules)
