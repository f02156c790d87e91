use Rattle.turn.proofs.hear.Goals as goal

pub enact-requires : goal.enact-requires
enact-requires c = let a = c.args in let g = c.requires in rw c.first-m.ensures g.1.seat

pub returns : goal.returns
returns c = let a = c.args in let g = c.requires in rw c.first-m.ensures at c.enact.ensures
