use Rattle.std.proofs.Common.{◌≡◌, ◌+◌, ◌-◌, ◌≤◌, ◌<◌, length, take, drop, get_or, ℕ, List, arith, refl, ◌∙◌, length-drop}
use lib.Seq.{length-take-le, get_or-drop, get_or-take}
use Rattle.octets.specs.Bytes.{BYTE}
use Rattle.octets.proofs.Laws.{part_at}
use Rattle.cabinet.proofs.Runs.{ring-turn, ring-end}
use Rattle.cabinet.proofs.run.read_ring.Goals as goal

-- the words that are gone through
module _ (w : List ℕ) (at : ℕ) (h : at + 49 ≤ length w) where
  part : at + 49 - at ≡ 49
  part = omega arith

  many : length (take (at + 49 - at) (drop at w)) ≡ 49
  many = rw part (length-take-le 49 (drop at w) (omega (arith, length-drop at w)))

  word : (i : ℕ) → i < 49 → get_or (take (at + 49 - at) (drop at w)) i 0 ≡ get_or w (at + i) 0
  word i l = rw (part, get_or-take 49 (drop at w) i 0 l) (get_or-drop at w i 0)

pub loop-i-init : goal.loop-i-init
loop-i-init c = refl

pub tiny-requires : goal.tiny-requires
tiny-requires c =
    let w = c.args.held.now in
    let at = c.args.at in
    let h = c.requires.0 in
    let m : c.loop-i.i < 49 = omega (arith, many w at h) in
    rw (word w at h c.loop-i.i m) (part_at BYTE w at 49 c.loop-i.i c.requires.1 h m)

pub loop-i-preserved : goal.loop-i-preserved
loop-i-preserved c =
    let w = c.args.held.now in
    let at = c.args.at in
    let h = c.requires.0 in
    let l = c.loop-i in
    let m : l.i < 49 = omega (arith, many w at h) in
    ring-turn w _ l.q at l.i c.tiny.result h refl m l.invariant (c.tiny.ensures ∙ word w at h l.i m)

pub returns : goal.returns
returns c =
    let a = c.args in
    let l = c.loop-i in
    ring-end a.held.now _ l.q a.at l.i refl (omega (arith, many a.held.now a.at c.requires.0)) l.invariant
