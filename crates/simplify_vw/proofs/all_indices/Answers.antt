-- `simplify_vw::all_indices` meets its contract. Assumes nothing.
use Rattle.simplify_vw.proofs.Calls.{keeps_all}
use Rattle.simplify_vw.proofs.all_indices.Goals as goal

pub returns : goal.returns
returns c = keeps_all c.scratch.ensures c.link.ensures c.link.auto.words c.finish.ensures
