-- `remove_repeated_points::remove_repeated_points_anywhere` meets its contract. Assumes nothing.
use native.Mathlib.Omega.{arith}
use Rattle.rule.specs.Sizes.{most_points}
use Rattle.rule.specs.Repeat.{anywhere}
use Rattle.lent.proofs.Points.{length_points}
use Rattle.lent.proofs.Rows.{repeat_fine}
use Rattle.remove_repeated_points.specs.Back.{all_new}
use Rattle.remove_repeated_points.proofs.News.{anywhere_is}
use Rattle.remove_repeated_points.proofs.Calls.{same_call}
use Rattle.remove_repeated_points.proofs.remove_repeated_points_anywhere.Goals as goal

pub returns : goal.returns
returns c =
    same_call (all_new most_points) anywhere _ _ _
    (λ z. let f = repeat_fine c.args.x.now c.args.y.now _ z in anywhere_is _ _ (omega (arith, f.few, length_points f)))
    c.keep_new.ensures
