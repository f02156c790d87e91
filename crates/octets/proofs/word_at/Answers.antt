use Rattle.std.proofs.Common.{◌+◌, ◌-◌, arith, ◌∙◌}
use Rattle.octets.proofs.Laws.{le-word}
use Rattle.octets.proofs.word_at.Goals as goal

pub returns : goal.returns
returns c =
    let h = rw c.unwrap.ensures at c.try_into.ensures.1 in
    c.from_le_bytes.ensures ∙ le-word c.args.b.now c.unwrap.result c.args.at (c.args.at + 8 - c.args.at) (omega arith) h.same
