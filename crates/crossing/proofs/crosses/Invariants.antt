use Rattle.crossing.proofs.Passing.{Tested}
use Rattle.crossing.proofs.crosses.Given as goal

abbrev pub invariant-loop-k : goal.invariant-loop-k
invariant-loop-k l =
    let p = l.present in
    Tested l.b p.plot.m p.plot.x.now p.plot.y.now p.floats.now p.words.now l.l l.r l.from l.k
