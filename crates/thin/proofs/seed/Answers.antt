-- `thin::seed` meets its contract. Assumes nothing.
use Rattle.std.proofs.Common.{arith}
use Rattle.thin.proofs.SeedTurns.{seed_turn, seed_end}
use Rattle.thin.proofs.seed.Goals as goal

pub loop-c-preserved : goal.loop-c-preserved
loop-c-preserved c =
    seed_turn c.loop-c.invariant (omega (arith, c.loop-c-test.true)) c.score_of-s.ensures c.put.ensures c.put.auto.floats c.put.auto.words

pub returns : goal.returns
returns c = seed_end c.loop-c.invariant (omega (arith, c.loop-c-test.false))
