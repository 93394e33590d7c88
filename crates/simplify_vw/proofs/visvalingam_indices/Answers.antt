-- `simplify_vw::visvalingam_indices` meets its contract. Assumes nothing.
use Rattle.simplify_vw.proofs.Calls.{keeps_rule}
use Rattle.simplify_vw.proofs.visvalingam_indices.Goals as goal

pub returns : goal.returns
returns c =
    keeps_rule c.requires c.scratch-m.ensures c.remove_all.ensures c.remove_all.auto.floats c.remove_all.auto.words c.finish.ensures
