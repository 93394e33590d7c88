-- `segment::against` meets its contract. Assumes nothing.
use mathlib.Core.Path.{◌≡◌}
use mathlib.Core.Bool.{not, ◌&&◌, ◌||◌, or_assoc}
use Rattle.std.proofs.Common.{arith}
use Rattle.std.proofs.lemmas.Grind.{common_steps}
use Rattle.rule.specs.Grid.{Point}
use Rattle.rule.specs.Segment.{same, meets}
use Rattle.rule.specs.Preserve.{against}
use Rattle.segment.specs.Against.{is_end, opposed}
use Rattle.segment.proofs.against.Goals as goal

opposed_is : (a b l r : Point) → opposed a b l r ≡ (not (is_end a l r || is_end b l r) && meets a b l r)
unfolding against
opposed_is a b l r = rw (or_assoc (is_end a l r) (same b l) (same b r))

pub returns-then-not-is_end-2 : goal.returns-then-not-is_end-2
returns-then-not-is_end-2 c a b l r = rw opposed_is (grind (arith, common_steps))

pub returns-else-not-is_end-2 : goal.returns-else-not-is_end-2
returns-else-not-is_end-2 c a b l r = rw opposed_is (grind (arith, common_steps))
