use Rattle.ring_reasons.proofs.Table.{Closing}
use Rattle.ring_reasons.proofs.some_open.Given as goal

abbrev pub invariant-loop-end : goal.invariant-loop-end
invariant-loop-end l = Closing l.p.x.now l.p.y.now l.rings l.lo l.end-index
