-- `thin::remove` meets its contract. Assumes nothing.
use Rattle.thin.proofs.Removing.{removed_law}
use Rattle.scoring.proofs.Scoring.{scored_demoted}
use Rattle.thin.proofs.remove.Goals as goal

pub returns : goal.returns
returns c =
    let z = c.requires in
    removed_law _ _ z.0 z.1 z.2 c.unlink.ensures c.previous-before.ensures c.next-after.ensures
    (scored_demoted c.args.demotion c.demoted_if-lower.ensures c.score_of-left.ensures) c.score_of-right.ensures c.put.ensures c.put-2.ensures
