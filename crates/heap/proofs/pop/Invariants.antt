use Prim.Native.Nat.{◌-◌}
use Rattle.heap.proofs.Sinking.{Down}
use Rattle.heap.proofs.pop.Given as goal

abbrev pub invariant-loop-j : goal.invariant-loop-j
invariant-loop-j l = Down l.initial.floats l.initial.words l.m l.n l.s l.floats l.words l.j

abbrev pub decreases-loop-j : goal.decreases-loop-j
decreases-loop-j l = l.n - l.j
