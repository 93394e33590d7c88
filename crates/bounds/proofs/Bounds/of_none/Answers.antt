-- `bounds::Bounds::of_none` meets its contract. Assumes nothing.
use mathlib.Core.Path.{refl}
use lib.Ieee.{of_bits, neg, odd}
use Rattle.rule.specs.Grid.{half}
use Rattle.bounds.specs.Bounds.{of_none}
use Rattle.bounds.proofs.Bounds.of_none.Goals as goal

pub returns : goal.returns
unfolding of_none half odd of_bits neg
returns c = refl
