use Prim.Native.Nat.{◌≤◌}
use Rattle.rule.specs.Grid.{points}
use Rattle.remove_repeated_points.specs.Back.{Listed}
use Rattle.remove_repeated_points.proofs.list_new.Given as goal

abbrev pub invariant-loop-i : goal.invariant-loop-i
invariant-loop-i l = (l.kept ≤ l.i) × Listed l.back (points l.p.x.now l.p.y.now) l.i l.initial.out l.kept l.out
