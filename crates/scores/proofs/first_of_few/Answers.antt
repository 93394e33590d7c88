-- `scores::first_of_few` meets its contract. Assumes nothing.
use native.Mathlib.Omega.{arith}
use Rattle.scores.proofs.Children.{first_one, first_join}
use Rattle.scores.proofs.first_of_few.Goals as goal

pub loop-d-preserved : goal.loop-d-preserved
loop-d-preserved c =
    first_join c.loop-d.invariant (first_one c.requires.2 (omega arith) (omega arith) c.child_at.ensures) (omega arith) c.sooner_of-first.ensures
