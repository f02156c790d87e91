use native.Mathlib.Omega.{arith}
use lib.ListN.{length-set}
use borrow.Author.Tests.{not-true, not-false}
use Rattle.trace.proofs.Lookup.{note-other, note-node, note-room, note-new}
use Rattle.trace.proofs.epochs.note.Goals as goal

pub returns-then-not-listed : goal.returns-then-not-listed
returns-then-not-listed c = note-other c.args.r.recs.now c.args.space.now c.args.count c.args.nodes c.args.at c.args.r.i c.requires.0 c.requires.1 c.requires.2.is c.requires.3 c.requires.5 c.listed.ensures (not-true c.listed.result c.if-not-listed.true-raw)

pub returns-then-at-eq0 : goal.returns-then-at-eq0
returns-then-at-eq0 c = note-node c.args.r.recs.now c.args.space.now c.args.count c.args.nodes c.args.at c.args.r.i c.requires.0 c.requires.1 c.requires.2.is c.requires.3 c.requires.5 c.listed.ensures (not-false c.listed.result c.if-not-listed.false-raw) c.requires.2.low c.if-at-eq0.true

pub bounds-space-count-3 : goal.bounds-space-count-3
bounds-space-count-3 c = let h = note-room c.args.r.recs.now c.args.space.now c.args.count c.args.nodes c.args.at c.args.r.i c.requires.0 c.requires.1 c.requires.2.is c.requires.3 c.requires.5 c.listed.ensures (not-false c.listed.result c.if-not-listed.false-raw) c.requires.2.low c.if-at-eq0.false in simp length-set (omega arith)

pub returns : goal.returns
returns c = note-new c.args.r.recs.now c.args.space.now c.args.count c.args.nodes c.args.at c.args.r.i c.requires.0 c.requires.1 c.requires.2.is c.requires.3 c.requires.5 c.listed.ensures (not-false c.listed.result c.if-not-listed.false-raw) c.requires.2.low c.if-at-eq0.false
