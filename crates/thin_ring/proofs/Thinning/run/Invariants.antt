use Rattle.thin_ring.specs.Calls.{of_minima}
use Rattle.thin_ring.proofs.Running.{Going}
use Rattle.thin_ring.proofs.Thinning.run.Given as goal

abbrev pub invariant-loop-kept : goal.invariant-loop-kept
invariant-loop-kept l =
    Going l.self.blocks l.self.plot.x.now l.self.plot.y.now l.initial.floats l.initial.words l.self.plot.m l.initial.len l.count
    (of_minima l.self.minima) l.self.tolerance l.floats l.words l.len l.kept
