use Prim.Native.Nat.{◌-◌, ◌≤◌, ◌<◌}
use Rattle.rule.specs.Sizes.{most_points}
use Rattle.blocks.proofs.block_size.Given as goal

abbrev pub invariant-loop-size : goal.invariant-loop-size
invariant-loop-size l = (0 < l.size) × (l.size ≤ most_points)

abbrev pub decreases-loop-size : goal.decreases-loop-size
decreases-loop-size l = l.points - l.size
