-- `grid::same` meets its contract. Assumes nothing.
use Rattle.rule.specs.Segment.{same}
use Rattle.grid.proofs.Whole.{eq_grid}
use Rattle.grid.proofs.same.Goals as goal

pub returns : goal.returns
unfolding same
returns c a b = rw (← eq_grid _ _ a.x b.x, ← eq_grid _ _ a.y b.y) c.eq.ensures
