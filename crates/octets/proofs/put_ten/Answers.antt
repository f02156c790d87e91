use Rattle.std.proofs.Common.{length, ◌∙◌, ap}
use Rattle.rules.proofs.Words.{mid-put}
use Rattle.rules.specs.Words.{put}
use Rattle.octets.proofs.put_ten.Goals as goal

pub returns : goal.returns
returns c =
    mid-put 0 10 c.args.w.now c.copy_from_slice.new.self (ap length c.copy_from_slice.ensures.after)
    ∙ ap (put c.args.w.now 0) (cc)
