use Rattle.hands.proofs.Laws.{cand-ready, one-ready, two_ready, performed}
use Rattle.hands.proofs.perform.Goals as goal

pub set_cand-requires : goal.set_cand-requires
set_cand-requires c = cand-ready _ _ _ _ _ _ _ _ c.requires c.set_hist.ensures

pub cast_out-k-requires : goal.cast_out-k-requires
cast_out-k-requires c = one-ready _ _ _ _ _ _ _ _ c.requires c.set_hist.ensures

pub cast_out-requires : goal.cast_out-requires
cast_out-requires c = two_ready _ _ _ _ _ _ _ _ c.requires c.set_hist.ensures _ _ c.cast_out-k.auto.out c.cast_out-k.ensures

pub returns : goal.returns
returns c = performed _ _ _ _ _ _ _ _ c.requires c.set_hist.ensures _ _ _ _ _ c.set_cand.ensures c.cast_out-k.ensures c.cast_out.ensures
