use Rattle.std.proofs.Common.{rules, ◌≡◌, ◌+◌, ◌-◌, ◌*◌, length, take, take_all, arith, refl}
use Rattle.octets.specs.Bytes.{bytes_of}
use Rattle.octets.proofs.Laws.{save-turn}
use Rattle.octets.proofs.save.Goals as goal

pub loop-i-init : goal.loop-i-init
unfolding bytes_of
loop-i-init c = refl

pub loop-i-preserved : goal.loop-i-preserved
loop-i-preserved c =
    let a = c.args in
    let l = c.loop-i in
    save-turn (take a.n a.w.now) a.b.now l.b c.put_word.new.b l.i (8 * l.i + 8 - 8 * l.i) c.loop-i-test.true (omega arith) l.invariant c.put_word.ensures

pub returns : goal.returns
returns c =
    let a = c.args in
    let l = c.loop-i in
    let n : length (take a.n a.w.now) ≡ a.n = search rules in
    let i : l.i ≡ a.n = omega arith in
    rw (take_all l.i (take a.n a.w.now) (omega arith), i) at l.invariant
