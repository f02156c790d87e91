use Rattle.std.proofs.Common.{rules, ◌≡◌, ◌++◌, length, take, drop, [], append-nil, arith, ap, refl}
use Rattle.octets.specs.Bytes.{words_of}
use Rattle.octets.proofs.Laws.{load-turn}
use lib.ListN.{drop_of_length-le}
use Rattle.octets.proofs.load.Goals as goal

pub loop-i-init : goal.loop-i-init
unfolding words_of
loop-i-init c = refl

pub loop-i-preserved : goal.loop-i-preserved
loop-i-preserved c =
    let a = c.args in
    let l = c.loop-i in
    rw (c.word_at.ensures, l.invariant) (load-turn a.b.now (take a.n a.w.now) l.i c.loop-i-test.true)

pub returns : goal.returns
returns c =
    let a = c.args in
    let l = c.loop-i in
    let n : length (take a.n a.w.now) ≡ a.n = search rules in
    let i : l.i ≡ a.n = omega arith in
    let d : drop a.n (take a.n a.w.now) ≡ [] = drop_of_length-le (take a.n a.w.now) (omega arith) in
    let e = rw (i, d, append-nil) at l.invariant in ap (λ z. z ++ drop a.n a.w.now) e
