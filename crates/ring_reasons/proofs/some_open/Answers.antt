-- `ring_reasons::some_open` meets its contract. Assumes nothing.
use mathlib.Core.Path.{sym}
use Rattle.ring_reasons.proofs.Cut.{next_from, next_to}
use Rattle.ring_reasons.proofs.Table.{closing_more, closing_open, closing_end}
use Rattle.ring_reasons.proofs.some_open.Goals as goal

pub is_open-requires : goal.is_open-requires
is_open-requires c =
    let s = c.loop-end.invariant in
    (next_from s.cut c.loop-end-test.true, next_to s.cut c.loop-end-test.true)

pub returns-then-is_open : goal.returns-then-is_open
returns-then-is_open c = closing_open c.loop-end.invariant c.loop-end-test.true (sym c.if-is_open.ensures)

pub loop-end-preserved : goal.loop-end-preserved
loop-end-preserved c = closing_more c.loop-end.invariant c.loop-end-test.true (sym c.if-is_open.ensures)

pub returns : goal.returns
returns c = closing_end c.loop-end.invariant c.loop-end-test.false
