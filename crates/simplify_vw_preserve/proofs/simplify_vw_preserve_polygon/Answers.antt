-- `simplify_vw_preserve::simplify_vw_preserve_polygon` meets its contract. Assumes nothing.
use Rattle.reasons.proofs.Verdict.{accepted}
use Rattle.simplify_vw_preserve.proofs.Ready.{polygon_ready}
use Rattle.simplify_vw_preserve.proofs.simplify_vw_preserve_polygon.Goals as goal

pub preserve_rings-requires : goal.preserve_rings-requires
preserve_rings-requires c = polygon_ready _ _ _ _ _ (accepted _ _ c.in_ok-polygon_reason.ensures)
