use Rattle.site.specs.Site.{fitting}
use Rattle.site.proofs.Goods.{and-then, and-else, ranges-room}
use Rattle.site.proofs.may_lend.Goals as goal

pub returns-then-in_ranges : goal.returns-then-in_ranges
unfolding fitting
returns-then-in_ranges c = and-then _ _ _ _ c.in_ranges.ensures c.if-in_ranges.true c.good_lens.ensures

pub returns-else-in_ranges : goal.returns-else-in_ranges
unfolding fitting
returns-else-in_ranges c = and-else _ _ _ c.in_ranges.ensures c.if-in_ranges.false

pub good_lens-requires : goal.good_lens-requires
good_lens-requires c = ranges-room _ _ _ c.in_ranges.ensures c.if-in_ranges.true
