use Rattle.simplify_vw_preserve.proofs.Thinning.{Linking}
use Rattle.simplify_vw_preserve.proofs.link_rings.Given as goal

abbrev pub invariant-loop-end : goal.invariant-loop-end
invariant-loop-end l = Linking l.initial.words l.m l.rings l.words l.lo l.end-index
