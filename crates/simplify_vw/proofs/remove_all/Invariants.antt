use Rattle.simplify_vw.proofs.Running.{Running}
use Rattle.simplify_vw.proofs.remove_all.Given as goal

abbrev pub invariant-loop : goal.invariant-loop
invariant-loop l = Running l.p.x.now l.p.y.now l.initial.floats l.initial.words l.p.m l.tolerance l.floats l.words l.len l.counter
