use native.Mathlib.Omega.{arith}
use Rattle.base.specs.Choice.{pick}
use Rattle.rules.specs.Message.{formed}
use Rattle.rules.specs.Words.{said}
use Rattle.std.proofs.lemmas.Grind.{common_steps}
use Rattle.message.proofs.Laws.{told_as, not_told}
use Rattle.message.proofs.read_said.Goals as goal

pub returns-in-1 : goal.returns-in-1
unfolding said pick
returns-in-1 c = λ z h. told_as (grind (arith, common_steps)) (c.read_cepoch.ensures z _)

pub returns-in-2 : goal.returns-in-2
unfolding said pick
returns-in-2 c = λ z h. told_as (grind (arith, common_steps)) (c.read_newepoch.ensures z _)

pub returns-in-3 : goal.returns-in-3
unfolding said pick
returns-in-3 c = λ z h. told_as (grind (arith, common_steps)) (c.read_acke.ensures z h)

pub returns-in-4 : goal.returns-in-4
unfolding said pick
returns-in-4 c = λ z h. told_as (grind (arith, common_steps)) (c.read_newleader.ensures z h)

pub returns-in-5 : goal.returns-in-5
unfolding said pick
returns-in-5 c = λ z h. told_as (grind (arith, common_steps)) (c.read_ackld.ensures z _)

pub returns-in-6 : goal.returns-in-6
unfolding said pick
returns-in-6 c = λ z h. told_as (grind (arith, common_steps)) (c.read_commitld.ensures z _)

pub returns-in-7 : goal.returns-in-7
unfolding said pick
returns-in-7 c = λ z h. told_as (grind (arith, common_steps)) (c.read_propose.ensures z _)

pub returns-in-8 : goal.returns-in-8
unfolding said pick
returns-in-8 c = λ z h. told_as (grind (arith, common_steps)) (c.read_ack.ensures z _)

pub returns-in-9 : goal.returns-in-9
unfolding said pick
returns-in-9 c = λ z h. told_as (grind (arith, common_steps)) (c.read_commit.ensures z _)

pub returns-in_default : goal.returns-in_default
unfolding said pick formed
returns-in_default c = λ z h. not_told z _ _ _ (grind (arith, common_steps)) (grind (arith, common_steps))
