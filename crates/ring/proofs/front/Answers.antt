use native.Mathlib.Omega.{arith}
use Rattle.ring.proofs.Laws.{ring-at, front_at}
use Rattle.ring.proofs.front.Goals as goal

pub slot_at-requires : goal.slot_at-requires
slot_at-requires c = let a = c.args in let p = c.requires in let k = c.channel-c in let u = ring-at a.depth a.r k.result p.1.1.1.0 k.ensures.1 in let u0 = u.0 in let u1 = u.1 in (p.1.0, (p.1.1.0, (k.ensures.1, omega (arith, p.1.1.0))))

pub returns : goal.returns
returns c = let a = c.args in let p = c.requires in let k = c.channel-c in front_at a.z a.depth a.r a.f a.t k.result _ p.1.1.1.0 k.ensures.1 k.ensures.0 c.slot_at.ensures
