-- `ring_reasons::is_open` meets its contract. Assumes nothing.
use borrow.Author.Tests.{le-ltb}
use Rattle.ring_reasons.proofs.Table.{closed_none, closed_ends}
use Rattle.ring_reasons.proofs.is_open.Goals as goal

pub returns-then-lo-hi : goal.returns-then-lo-hi
returns-then-lo-hi c = rw (closed_ends _ c.args.lo c.args.hi c.if-lo-hi.true, c.same.ensures)

pub returns-else-lo-hi : goal.returns-else-lo-hi
returns-else-lo-hi c = rw (le-ltb c.args.lo c.args.hi c.if-lo-hi.false) (closed_none _ c.args.lo c.args.hi c.if-lo-hi.false)
