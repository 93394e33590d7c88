-- `simplify_vw_preserve::simplify_vw_preserve` meets its contract. Assumes nothing.
use Rattle.reasons.proofs.Ready.{thin_accepted}
use Rattle.simplify_vw_preserve.proofs.simplify_vw_preserve.Goals as goal

pub preserve_line-requires : goal.preserve_line-requires
preserve_line-requires c = thin_accepted _ _ _ _ c.in_ok-thin_reason.was c.thin_reason.ensures
