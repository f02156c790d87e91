use mathlib.Core.Path.{◌∙◌}
use native.Mathlib.Omega.{arith}
use lib.ListN.{length-set}
use Rattle.script.proofs.Texts.{field-wrote}
use Rattle.script.proofs.write_field.Goals as goal

pub write_number-requires : goal.write_number-requires
write_number-requires c = let p = c.requires in simp length-set (omega arith)

pub shape_of-out : goal.shape_of-out
shape_of-out c = c.write_number.auto.out ∙ length-set c.args.out.now c.args.at 32

pub returns : goal.returns
returns c = let s = c in let p = s.requires in let w = c.write_number in (field-wrote s.args.out.now w.new.out s.args.at w.result s.args.v (omega arith) w.ensures.0, omega (arith, w.ensures.1))
