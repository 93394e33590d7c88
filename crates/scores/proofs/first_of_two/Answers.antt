-- `scores::first_of_two` meets its contract. Assumes nothing.
use native.Mathlib.Omega.{arith}
use Rattle.scores.proofs.Children.{first_one, first_join}
use Rattle.scores.proofs.first_of_two.Goals as goal

pub returns : goal.returns
returns c =
    let ok = c.requires in
    first_join (first_one ok (omega arith) (omega arith) c.child_at-a.ensures)
    (first_one ok (omega arith) (omega arith) c.child_at-b.ensures) (omega arith) c.sooner_of.ensures
