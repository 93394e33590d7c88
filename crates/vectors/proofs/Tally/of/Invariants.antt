-- Each turn goes on by a line. Assumes nothing.
use Rattle.std.proofs.Common.{◌-◌, length}
use Rattle.vectors.proofs.Tally.of.Given as goal

abbrev pub decreases-loop-list : goal.decreases-loop-list
decreases-loop-list l = length l.list.text.now - l.list.at
