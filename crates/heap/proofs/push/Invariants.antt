use Rattle.heap.proofs.Rising.{Up}
use Rattle.heap.proofs.push.Given as goal

abbrev pub invariant-loop-j : goal.invariant-loop-j
invariant-loop-j l = Up l.initial.floats l.initial.words l.m l.len l.s l.floats l.words l.j

abbrev pub decreases-loop-j : goal.decreases-loop-j
decreases-loop-j l = l.j
