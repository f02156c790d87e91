use Rattle.std.proofs.Common.{arith, ◌*◌, ◌≤◌, refl}
use Rattle.calmly.proofs.Laws.{queue-fits, words-fit, lent}
use Rattle.calmly.proofs.calm_of.Goals as goal

pub returns : goal.returns
returns c =
    let l : c.args.n ≤ 7 = c.requires.1 in
    let m : 3 ≤ c.args.n = c.requires.0 in
    let E = rw c.from-k.ensures at c.calm_run.ensures in
    E
    (words-fit c.args.n _ _ _ _ m l
    (lent 56 (8 * c.args.n) (omega arith))
    (lent 56 (8 * c.args.n) (omega arith))
    (lent 1176 (24 * c.args.n * c.args.n) (queue-fits c.args.n l))
    refl)
    (omega arith)
