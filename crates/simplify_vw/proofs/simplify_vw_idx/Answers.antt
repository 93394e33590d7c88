-- `simplify_vw::simplify_vw_idx` meets its contract. Assumes nothing.
use Rattle.reasons.proofs.Ready.{thin_accepted}
use Rattle.simplify_vw.proofs.simplify_vw_idx.Goals as goal

pub visvalingam_indices-requires : goal.visvalingam_indices-requires
visvalingam_indices-requires c = thin_accepted _ _ _ _ c.in_ok-thin_reason.was c.thin_reason.ensures
