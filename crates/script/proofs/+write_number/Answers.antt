use native.Mathlib.Omega.{arith}
use Prim.Native.Nat.{◌<◌}
use borrow.Author.Rules.{rules}
use Rattle.script.proofs.Texts.{tenth-few, number-one, number_more}
use Rattle.script.proofs.+write_number.Goals as goal

pub returns-then-v-lt10 : goal.returns-then-v-lt10
returns-then-v-lt10 t c = (number-one c.args.out.now c.args.at c.args.v c.if-v-lt10.true (omega arith), omega arith)

pub bounds-out-e : goal.bounds-out-e
bounds-out-e t c = let w = c.write_number-e in let v64 : c.args.v < 18446744073709551616 = search rules in omega (arith, tenth-few c.args.v v64, w.ensures.0.ends, w.auto.out)

pub returns : goal.returns
returns t c = let s = c.args in let w = c.write_number-e in let v64 : s.v < 18446744073709551616 = search rules in (number_more s.out.now w.new.out s.at w.result s.v (omega arith) v64 (omega arith) (omega (arith, tenth-few s.v v64, w.ensures.0.ends, w.auto.out)) w.ensures.0, omega (arith, tenth-few s.v v64, w.ensures.0.ends))
