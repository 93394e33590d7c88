-- `thin::step` meets its contract. Assumes nothing.
use Rattle.thin.proofs.Stepping.{step_finished, step_removed}
use Rattle.thin.proofs.step.Goals as goal

pub returns-in_err-s : goal.returns-in_err-s
returns-in_err-s c =
    let z = c.requires in
    rw c.from_residual.ensures (step_finished _ _ z.0 z.1 c.in_err-s.ensures)

pub returns : goal.returns
returns c =
    let z = c.requires in
    step_removed _ _ z.0 z.1 c.in_ok-s.ensures c.remove.ensures
