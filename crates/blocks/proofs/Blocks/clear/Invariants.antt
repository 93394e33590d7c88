use mathlib.Core.Path.{◌≡◌}
use Rattle.blocks.specs.Boxes.{cleared}
use Rattle.blocks.proofs.Blocks.clear.Given as goal

abbrev pub invariant-loop-k : goal.invariant-loop-k
invariant-loop-k l = l.floats ≡ cleared l.self l.k l.initial.floats
