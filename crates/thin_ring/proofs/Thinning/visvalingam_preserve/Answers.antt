-- `thin_ring::Thinning::visvalingam_preserve` meets its contract. Assumes nothing.
use Rattle.thin_ring.proofs.Running.{ring_law}
use Rattle.thin_ring.proofs.Thinning.visvalingam_preserve.Goals as goal

pub returns : goal.returns
returns c =
    let z = c.requires in
    ring_law _ _ _ _ _ _ _ _ _ _ z.0 z.4 c.seed-len.ensures c.run.ensures
