use Prim.Native.Nat.{◌-◌, ◌*◌}
use mathlib.Core.Path.{◌≡◌, ap, ◌∙◌}
use Prim.Native.Nat.{ℕ}
use native.Mathlib.Omega.{arith}
use lib.ListN.{length, take, drop, replicate, length-drop, length-replicate}
use lib.Seq.{length-take-le}
use Rattle.std.proofs.lemmas.Slice.{put_mid-paste}
use Rattle.trace.proofs.Lookup.{cleared-paste}
use Rattle.trace.proofs.epochs.clear.Goals as goal

pub returns : goal.returns
returns c =
    let l : length (take (4 * c.args.count - c.args.count) (drop c.args.count c.args.space.now)) ≡ 3 * c.args.count = omega (arith, length-take-le (4 * c.args.count - c.args.count) (drop c.args.count c.args.space.now) (omega (arith, length-drop c.args.count c.args.space.now))) in
    put_mid-paste c.args.count (4 * c.args.count - c.args.count) c.args.space.now c.fill.new.self (replicate (3 * c.args.count) 0) (3 * c.args.count) (c.fill.ensures.after (λ y q. q) ∙ ap (λ (k : ℕ). replicate k 0) l) (omega arith) (omega (arith, length-replicate {A = ℕ} (3 * c.args.count) 0))
    ∙ cleared-paste c.args.count c.args.space.now
