-- `segment::reaches` meets its contract. Assumes nothing.
use Rattle.std.proofs.Common.{rules, arith}
use Rattle.std.proofs.lemmas.Grind.{common_steps}
use Rattle.grid.proofs.Whole.{le_grid}
use Rattle.segment.proofs.reaches.Goals as goal

pub returns-then-b-c : goal.returns-then-b-c
returns-then-b-c k a b c d = rw (← le_grid _ _ a c, ← le_grid _ _ a d, ← le_grid _ _ b c, ← le_grid _ _ b d) (search rules)

pub returns-else-b-c : goal.returns-else-b-c
returns-else-b-c k a b c d = rw (← le_grid _ _ a c, ← le_grid _ _ a d, ← le_grid _ _ b c, ← le_grid _ _ b d) (grind (arith, common_steps))
