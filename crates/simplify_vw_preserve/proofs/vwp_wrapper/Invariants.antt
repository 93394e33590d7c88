use Rattle.thin_ring.specs.Calls.{of_minima}
use Rattle.simplify_vw_preserve.proofs.Thinning.{Thinning}
use Rattle.simplify_vw_preserve.proofs.vwp_wrapper.Given as goal

abbrev pub invariant-loop-end : goal.invariant-loop-end
invariant-loop-end l =
    Thinning l.thinning.blocks l.thinning.plot.x.now l.thinning.plot.y.now l.initial.floats l.initial.words l.thinning.plot.m l.rings
    (of_minima l.thinning.minima) l.thinning.tolerance l.floats l.words l.lo l.end-index
