use Rattle.thin.proofs.SeedTurns.{Seeding}
use Rattle.thin.proofs.seed.Given as goal

abbrev pub invariant-loop-c : goal.invariant-loop-c
invariant-loop-c l = Seeding l.p.x.now l.p.y.now l.initial.floats l.initial.words l.p.m l.lo l.hi l.floats l.words l.len l.c
