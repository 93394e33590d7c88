use Rattle.links.proofs.Turns.{Linking}
use Rattle.links.proofs.link.Given as goal

abbrev pub invariant-loop-i : goal.invariant-loop-i
invariant-loop-i l = Linking l.initial.words l.m l.lo l.hi l.words l.i
