-- `thin_ring::Thinning::run` meets its contract. Assumes nothing.
use native.Mathlib.Omega.{arith}
use Rattle.thin_ring.proofs.Running.{run_none, run_stop, run_turn}
use Rattle.thin_ring.proofs.Thinning.run.Goals as goal

pub returns-then-not-advance : goal.returns-then-not-advance
returns-then-not-advance c = run_stop c.loop-kept.invariant c.if-not-advance.ensures

pub loop-kept-preserved : goal.loop-kept-preserved
loop-kept-preserved c = run_turn c.loop-kept.invariant c.advance.auto.floats c.advance.auto.words c.if-not-advance.ensures

pub returns : goal.returns
returns c = run_none c.loop-kept.invariant (omega (arith, c.loop-kept-test.false))
