use Rattle.part.proofs.Copying.{Copying}
use Rattle.part.proofs.copy.Given as goal

abbrev pub invariant-loop-i : goal.invariant-loop-i
invariant-loop-i l = Copying l.initial.to l.at l.from l.to l.i
