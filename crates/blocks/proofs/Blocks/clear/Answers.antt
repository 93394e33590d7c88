-- `blocks::Blocks::clear` meets its contract. Assumes nothing.
use mathlib.Core.Path.{refl}
use Rattle.std.proofs.Common.{add-one}
use Rattle.blocks.specs.Boxes.{cleared}
use Rattle.blocks.proofs.Blocks.clear.Goals as goal

pub loop-k-init : goal.loop-k-init
unfolding cleared
loop-k-init c = refl

pub loop-k-preserved : goal.loop-k-preserved
unfolding cleared
loop-k-preserved c = rw (add-one, c.store.ensures, c.of_none.ensures, c.loop-k.invariant)
