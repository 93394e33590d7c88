-- `scores::first_of` meets its contract. Assumes nothing.
use native.Mathlib.Omega.{arith}
use Rattle.scores.proofs.Children.{first_join, first_all}
use Rattle.scores.proofs.first_of.Goals as goal

pub returns : goal.returns
returns c =
    first_all (first_join c.first_of_two-one.ensures c.first_of_two-other.ensures (omega arith) c.sooner_of.ensures)
    (omega arith) (λ k h n. omega arith)
