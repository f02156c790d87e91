use Rattle.follow.proofs.Laws.{oracle-none, oracle-self, oracle-other}
use borrow.Author.Rules.{rules}
use Rattle.follow.proofs.plan_oracle.Goals as goal

pub returns-then-z-x : goal.returns-then-z-x
returns-then-z-x c = λ h k m. search (oracle-none, rules)

pub returns-then-x-s : goal.returns-then-x-s
returns-then-x-s c = λ h k m. oracle-self _ _ _ h k m c.requires _ (search rules) (search rules) (rw (c.anew.ensures, c.from.ensures, c.cleared-t.ensures, c.nobody.ensures))

pub returns : goal.returns
returns c = λ h k m. oracle-other _ _ _ h k m c.requires _ (search rules) (search rules) (rw (c.anew-2.ensures, c.cleared-t-2.ensures, c.solo.ensures))
