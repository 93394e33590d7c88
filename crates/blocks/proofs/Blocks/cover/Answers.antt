-- `blocks::Blocks::cover` meets its contract. Assumes nothing.
use Prim.Native.Nat.{◌/◌}
use borrow.Author.Tests.{lt-ltb, le-ltb}
use Rattle.blocks.specs.Boxes.{covered}
use Rattle.blocks.proofs.Blocks.cover.Goals as goal

pub returns-then-k-self : goal.returns-then-k-self
unfolding covered
returns-then-k-self c =
    let b = c.args.self in
    rw (lt-ltb (c.args.i / b.size) b.number c.if-k-self.true, c.store.ensures, c.spanning-wide.ensures, c.bounds_of.ensures)

pub returns-else-k-self : goal.returns-else-k-self
unfolding covered
returns-else-k-self c =
    let b = c.args.self in
    rw (le-ltb (c.args.i / b.size) b.number c.if-k-self.false)
