use mathlib.Core.Path.{refl}
use native.Mathlib.Omega.{arith}
use borrow.Author.Tests.{not-true, not-false}
use Rattle.trace.proofs.Walk.{sound-of, known_of, run-start, run-ready, run-walks, run-latest, run-table, run_at, run_on, run-stop, run_end, run-refused}
use Rattle.trace.proofs.judge.Goals as goal

pub returns-then-not-all_sound : goal.returns-then-not-all_sound
returns-then-not-all_sound c = run-refused _ _ _ _ c.all_sound.ensures (not-true c.all_sound.result c.if-not-all_sound.true-raw)

pub loop-i-init : goal.loop-i-init
loop-i-init c = (refl, run-start c.args.n c.args.recs.now c.args.space.now c.clear.new.space c.args.count c.requires.3 c.clear.ensures)

pub find-at-requires : goal.find-at-requires
find-at-requires c = (run-walks c.args.n c.args.recs.now c.clear.new.space c.args.count c.loop-i.space c.loop-i.s c.loop-i.i c.loop-i.nodes c.loop-i.invariant.1 (omega arith) c.requires.1 (omega (arith, c.requires.3, c.loop-i.invariant.0, c.clear.auto)), omega arith, (known_of c.args.n c.args.recs.now c.args.count c.all_sound.ensures (not-false c.all_sound.result c.if-not-all_sound.false-raw) c.loop-i.i (omega arith)).0)

pub step-requires : goal.step-requires
step-requires c = (run-ready c.args.n c.args.recs.now c.clear.new.space c.args.count c.loop-i.space c.loop-i.s c.loop-i.i c.loop-i.nodes c.loop-i.invariant.1 (omega arith) c.all_sound.ensures (not-false c.all_sound.result c.if-not-all_sound.false-raw) c.requires.0 c.requires.1 (omega (arith, c.requires.3, c.loop-i.invariant.0, c.clear.auto)), run-latest c.args.n c.args.recs.now c.clear.new.space c.args.count c.loop-i.space c.loop-i.s c.loop-i.i c.loop-i.nodes c.loop-i.invariant.1 (omega arith) c.checked_sub-last.result c.find-at.ensures.is c.checked_sub-last.ensures)

pub returns-in-Err : goal.returns-in-Err
returns-in-Err c = run-stop c.args.n c.args.recs.now c.clear.new.space c.args.count c.loop-i.space c.loop-i.s c.loop-i.i c.loop-i.nodes c.loop-i.invariant.1 (omega arith) c.requires.3 c.clear.ensures c.requires.1 c.all_sound.ensures (not-false c.all_sound.result c.if-not-all_sound.false-raw) (c.in-Err.ensures c.args.n c.loop-i.invariant.1.holds (sound-of c.args.n c.args.recs.now c.args.count c.all_sound.ensures (not-false c.all_sound.result c.if-not-all_sound.false-raw) c.loop-i.i (omega arith))) c.clear-in-Err.ensures

pub note-nodes-requires : goal.note-nodes-requires
note-nodes-requires c = (run-table c.args.n c.args.recs.now c.clear.new.space c.args.count c.loop-i.space c.loop-i.s c.loop-i.i c.loop-i.nodes c.loop-i.invariant.1 (omega arith) (omega (arith, c.requires.3, c.loop-i.invariant.0, c.clear.auto)) (c.in-Ok.ensures c.args.n c.loop-i.invariant.1.holds (sound-of c.args.n c.args.recs.now c.args.count c.all_sound.ensures (not-false c.all_sound.result c.if-not-all_sound.false-raw) c.loop-i.i (omega arith))), omega arith, record { is = run_at c.args.n c.args.recs.now c.clear.new.space c.args.count c.loop-i.space c.loop-i.s c.loop-i.i c.loop-i.nodes c.loop-i.invariant.1 (omega arith) (omega (arith, c.requires.3, c.loop-i.invariant.0, c.clear.auto)) (c.in-Ok.ensures c.args.n c.loop-i.invariant.1.holds (sound-of c.args.n c.args.recs.now c.args.count c.all_sound.ensures (not-false c.all_sound.result c.if-not-all_sound.false-raw) c.loop-i.i (omega arith))) c.find-at.ensures.is; low = c.find-at.ensures.low }, (known_of c.args.n c.args.recs.now c.args.count c.all_sound.ensures (not-false c.all_sound.result c.if-not-all_sound.false-raw) c.loop-i.i (omega arith)).0, omega (arith, c.requires.1), omega (arith, c.requires.3, c.loop-i.invariant.0, c.clear.auto, c.step.auto))

pub loop-i-preserved : goal.loop-i-preserved
loop-i-preserved c = (omega (arith, c.loop-i.invariant.0, c.step.auto, c.note-nodes.auto), run_on c.args.n c.args.recs.now c.clear.new.space c.args.count c.loop-i.space c.loop-i.s c.loop-i.i c.loop-i.nodes c.loop-i.invariant.1 (omega arith) (omega (arith, c.requires.3, c.loop-i.invariant.0, c.clear.auto)) (c.in-Ok.ensures c.args.n c.loop-i.invariant.1.holds (sound-of c.args.n c.args.recs.now c.args.count c.all_sound.ensures (not-false c.all_sound.result c.if-not-all_sound.false-raw) c.loop-i.i (omega arith))) (omega (arith, c.note-nodes.auto)) c.note-nodes.ensures)

pub returns : goal.returns
returns c = run_end c.args.n c.args.recs.now c.args.space.now c.clear.new.space c.args.count c.loop-i.space c.clear-2.new.space c.loop-i.s c.loop-i.i c.loop-i.nodes c.requires.3 c.clear.ensures c.loop-i.invariant.1 (omega arith) (omega arith) c.requires.1 c.all_sound.ensures (not-false c.all_sound.result c.if-not-all_sound.false-raw) c.clear-2.ensures
