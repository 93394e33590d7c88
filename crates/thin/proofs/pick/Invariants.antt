use Rattle.thin.proofs.PickTurns.{Picking}
use Rattle.thin.proofs.pick.Given as goal

abbrev pub invariant-loop-len : goal.invariant-loop-len
invariant-loop-len l = Picking l.initial.floats l.initial.words l.m l.initial.len l.floats l.words l.len

abbrev pub decreases-loop-len : goal.decreases-loop-len
decreases-loop-len l = l.len
