use Rattle.std.proofs.Common.{◌∙◌}
use Rattle.pledge.proofs.Named.{write-next}
use Rattle.pledge.proofs.name_words.Goals as goal

pub loop-j-preserved : goal.loop-j-preserved
loop-j-preserved c =
    let i = c.loop-j.invariant in
    (i.0, write-next c.args.x c.loop-j.j _ _ c.loop-j-test.true i.1 (c.copy_from_slice-in-loop-j.ensures.after ∙ rw (c.other.ensures, i.0)))
