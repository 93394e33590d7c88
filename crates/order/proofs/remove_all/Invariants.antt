-- The scores stay within their places, and each turn makes at most one removal. Assumes nothing.
use Rattle.std.proofs.Common.{◌≤◌}
use Rattle.order.proofs.remove_all.Given as goal

abbrev pub invariant-loop : goal.invariant-loop
invariant-loop l = (l.len ≤ l.p.m.capacity) × (l.order.removals ≤ l.counter)
