-- `remove_repeated_points::remove_repeated_points` meets its contract. Assumes nothing.
use Rattle.rule.specs.Repeat.{consecutive}
use Rattle.remove_repeated_points.specs.Back.{all_new}
use Rattle.remove_repeated_points.proofs.News.{consecutive_is}
use Rattle.remove_repeated_points.proofs.Calls.{same_call}
use Rattle.remove_repeated_points.proofs.remove_repeated_points.Goals as goal

pub returns : goal.returns
returns c = same_call (all_new 1) consecutive _ _ _ (λ z. consecutive_is _) c.keep_new.ensures
