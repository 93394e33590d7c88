use Prim.Native.Nat.{◌-◌}
use Rattle.crossing.proofs.Passing.{Walking}
use Rattle.crossing.proofs.Present.walk.Given as goal

abbrev pub invariant-loop-i : goal.invariant-loop-i
invariant-loop-i l = Walking l.p.m l.p.x.now l.p.y.now l.self.words.now l.lo l.l l.r l.i

abbrev pub decreases-loop-i : goal.decreases-loop-i
decreases-loop-i l = l.hi - l.i
