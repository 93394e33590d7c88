use Rattle.simplify_vw_preserve.proofs.Ending.{Ending}
use Rattle.simplify_vw_preserve.proofs.list_ends.Given as goal

abbrev pub invariant-loop-k : goal.invariant-loop-k
invariant-loop-k l = Ending l.links.words.now l.links.m l.rings l.initial.ends l.ends l.k
