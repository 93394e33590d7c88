use mathlib.Core.Path.{◌≡◌}
use Rattle.blocks.specs.Boxes.{covered_to}
use Rattle.blocks.proofs.Blocks.set_up.Given as goal

abbrev pub invariant-loop-i : goal.invariant-loop-i
invariant-loop-i l = l.floats ≡ covered_to l.self l.p.m l.p.x.now l.p.y.now l.words l.i l.initial.floats
