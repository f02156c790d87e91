use Rattle.std.proofs.Common.{length, ◌∙◌, ap}
use Rattle.rules.proofs.Words.{mid-put}
use Rattle.rules.specs.Words.{put}
use Rattle.cabinet.proofs.run.write_five.Goals as goal

pub returns : goal.returns
returns c =
    mid-put 0 5 c.args.held.now c.copy_from_slice.new.self (ap length c.copy_from_slice.ensures.after)
    ∙ ap (put c.args.held.now 0) (cc)
