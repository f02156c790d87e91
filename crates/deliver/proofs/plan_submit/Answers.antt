use Rattle.deliver.proofs.Laws.{submit-role, submit-full, submit-last, submit-done}
use borrow.Author.Rules.{rules}
use Rattle.deliver.proofs.plan_submit.Goals as goal

pub returns-then-s-ne8 : goal.returns-then-s-ne8
returns-then-s-ne8 c = λ k m. search (submit-role, rules)

pub returns-then-le : goal.returns-then-le
returns-then-le c = λ k m. search (submit-full, rules)

pub returns-then-eq : goal.returns-then-eq
returns-then-eq c = λ k m. search (submit-last, rules)

pub returns : goal.returns
returns c = λ k m. submit-done _ _ _ k m _ _ _ _ (search rules) (search rules) c.last_id-last.ensures (search rules) c.next_id.ensures c.planned.ensures c.requires.0
