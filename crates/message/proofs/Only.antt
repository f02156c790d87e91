-- Words say one message: two answers that both read them are equal.
use Prim.Native.Nat.{ℕ}
use mathlib.Core.Path.{◌≡◌, refl, sym, ap, ◌∙◌}
use mathlib.Core.List.{List}
use lib.ListN.{length, drop}
use Rattle.base.specs.declared.Sizes.{Sizes}
use Rattle.rules.specs.Message.{Msg, cepoch, newepoch, acke, newleader, ackld, commitld, propose, ack, commit, junk}
use Rattle.rules.proofs.Words.{length-txns}
use Rattle.plan.specs.declared.Message.{Message}
use Rattle.plan.specs.declared.Message.TheVariants.{Cepoch, Newepoch, Acke, Newleader, Ackld, Commitld, Propose, Ack, Commit}
use Rattle.plan.specs.Plans.{ep, pl, meant}
use Rattle.std.proofs.Common.{Option, Some, None}
use Rattle.message.specs.Reads.{meant_by, Reads}

-- the answer that means a message
answer : Msg → Option Message
answer (cepoch p) = Some (Cepoch (ep p))
answer (newepoch e) = Some (Newepoch (ep e))
answer (acke e a h) = Some (Acke (ep e) (ep a) (pl (length h)))
answer (newleader e h) = Some (Newleader (ep e) (pl (length h)))
answer (ackld e c) = Some (Ackld (ep e) (pl c))
answer (commitld e c) = Some (Commitld (ep e) (pl c))
answer (propose e k t) = Some (Propose (ep e) (pl k) t)
answer (ack e k) = Some (Ack (ep e) (pl k))
answer (commit e c) = Some (Commit (ep e) (pl c))
answer junk = None

answered : (r : Option Message) (w : List ℕ) → answer (meant_by r w) ≡ r
unfolding answer meant
answered None w = refl
answered (Some (Cepoch e)) w = refl
answered (Some (Newepoch e)) w = refl
answered (Some (Acke e a n)) w = ap (λ (k : ℕ). Some (Acke e a (pl k))) (length-txns n.0 w)
answered (Some (Newleader e n)) w = ap (λ (k : ℕ). Some (Newleader e (pl k))) (length-txns n.0 w)
answered (Some (Ackld e n)) w = refl
answered (Some (Commitld e n)) w = refl
answered (Some (Propose e n t)) w = refl
answered (Some (Ack e n)) w = refl
answered (Some (Commit e n)) w = refl

pub only : (z : Sizes) (w : List ℕ) (r t : Option Message) → Reads z w r → Reads z w t → r ≡ t
only z w r t x y = sym (answered r (drop 4 w)) ∙ ap answer (x.means ∙ sym y.means) ∙ answered t (drop 4 w)
