use Rattle.base.proofs.Good.{next_small}
use Rattle.deliver.proofs.next_id.Goals as goal

pub ident-requires : goal.ident-requires
ident-requires c = rw c.next_counter.ensures.0 (next_small _ _ c.requires)
