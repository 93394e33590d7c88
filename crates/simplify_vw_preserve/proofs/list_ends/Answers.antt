-- `simplify_vw_preserve::list_ends` meets its contract. Assumes nothing.
use Rattle.ring_reasons.proofs.Cut.{next_to}
use Rattle.simplify_vw_preserve.proofs.Ending.{ending_more}
use Rattle.simplify_vw_preserve.proofs.list_ends.Goals as goal

pub count_below-requires : goal.count_below-requires
count_below-requires c = next_to c.loop-k.invariant.cut c.loop-k-test.true

pub loop-k-preserved : goal.loop-k-preserved
loop-k-preserved c = ending_more c.loop-k.invariant c.loop-k-test.true c.requires.2 c.count_below.ensures.1
