-- `simplify_vw_preserve::preserve_rings` meets its contract. Assumes nothing.
use Rattle.simplify_vw_preserve.proofs.Whole.{keeps_rings}
use Rattle.simplify_vw_preserve.proofs.preserve_rings.Goals as goal

pub returns : goal.returns
returns c =
    keeps_rings c.requires.line c.scratch-m.ensures c.vwp_wrapper.ensures c.vwp_wrapper.auto.floats c.vwp_wrapper.auto.words
    c.list_ends.ensures c.finish.ensures
