-- `part::advance` meets its contract. Assumes nothing.
use Rattle.std.proofs.Common.{◌≡◌, ◌++◌, set}
use Rattle.std.specs.Prelude.{Option}
use Rattle.rule.specs.Area.{area}
use Rattle.thin.specs.declared.Removal.{Removal}
use Rattle.part.specs.Parts.{StepsPart}
use Rattle.part.proofs.Advancing.{answer_of, step_part}
use Rattle.part.proofs.advance.Goals as goal
use Rattle.part.proofs.advance.Goals.{After-step-removal}

stepped : (c : After-step-removal) (r : Option Removal) → c.step-removal.result ≡ r
    → StepsPart (area c.args.floats.now c.args.words.now) (answer_of r)
    (area (c.step-removal.new.floats ++ c.split_at_mut-areas.result.1.now) (set c.step-removal.new.words 2 c.step-removal.new.len))
stepped c r e =
    let cut = c.split_at_mut-areas.ensures in
    let runs = c.split_at.ensures in
    rw (← e) (step_part c.slot-m.ensures (record { before = cut.front; from = cut.back; x = runs.front; y = runs.back }) c.step-removal.ensures
    c.step-removal.auto.floats c.step-removal.auto.words)

pub returns-in-None : goal.returns-in-None
returns-in-None c = stepped (goal.at.returns-in-None c).After-step-removal _ c.in-None.is

pub returns-in-Some : goal.returns-in-Some
returns-in-Some c = stepped (goal.at.returns-in-Some c).After-step-removal _ c.in-Some.is
