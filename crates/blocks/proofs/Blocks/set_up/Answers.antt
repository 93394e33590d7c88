-- `blocks::Blocks::set_up` meets its contract. The invariant: the boxes are widened by the segments that start below i. Assumes nothing.
use mathlib.Core.Path.{refl}
use borrow.Author.Tests.{lt-ltb, le-ltb}
use Rattle.std.proofs.Common.{add-one}
use Rattle.blocks.specs.Boxes.{covered_from, covered_to}
use Rattle.blocks.proofs.Blocks.set_up.Goals as goal
use Rattle.blocks.proofs.Blocks.set_up.Goals.{then-j-p, else-j-p}

pub loop-i-init : goal.loop-i-init
unfolding covered_to
loop-i-init c = refl

pub loop-i-preserved : goal.loop-i-preserved
unfolding covered_to covered_from
loop-i-preserved c =
    rw (add-one, ← c.loop-i.invariant, ← c.next-j.ensures)
    elim c.if-j-p.branch [
      | then-j-p w ↦ rw (w.floats-is, lt-ltb _ _ w.if-j-p.true, w.cover.ensures)
      | else-j-p w ↦ rw (w.floats-is, le-ltb _ _ w.if-j-p.false)
    ]
