-- `simplify_vw_preserve::preserve_line` meets its contract. Assumes nothing.
use Rattle.lent.proofs.Points.{runs_fit}
use Rattle.simplify_vw_preserve.proofs.Whole.{one_ring, behind_fits, keeps_line}
use Rattle.simplify_vw_preserve.proofs.preserve_line.Goals as goal

pub vwp_wrapper-requires : goal.vwp_wrapper-requires
vwp_wrapper-requires c =
    let p = c.requires in
    let f = runs_fit p c.scratch-m.ensures in
    (f.1, f.2, rw c.scratch-m.ensures (one_ring _), behind_fits p c.scratch-m.ensures)

pub returns : goal.returns
returns c =
    keeps_line c.requires c.scratch-m.ensures c.vwp_wrapper.ensures c.vwp_wrapper.auto.floats c.vwp_wrapper.auto.words c.finish.ensures
