-- `slots::step` meets its contract. Assumes nothing.
use Rattle.rule.specs.Answers.{of_step}
use Rattle.rule.specs.Area.{area}
use Rattle.part.specs.Parts.{StepsPart}
use Rattle.slots.proofs.Lending.{floats_end, words_end, back_only_part, on_part}
use Rattle.slots.proofs.Calls.{slot_held, step_done}
use Rattle.slots.proofs.step.Goals as goal

pub slice_bounds-advance-end : goal.slice_bounds-advance-end
slice_bounds-advance-end c =
    let held = slot_held c.args.slot.0 (area c.args.floats.now c.args.words.now) c.in_default.ensures in
    floats_end held c.places.result c.places.ensures.floats c.places.ensures.words

pub slice_bounds-advance-end-2 : goal.slice_bounds-advance-end-2
slice_bounds-advance-end-2 c =
    let held = slot_held c.args.slot.0 (area c.args.floats.now c.args.words.now) c.in_default.ensures in
    words_end held c.places.result c.places.ensures.floats c.places.ensures.words

pub returns : goal.returns
returns c =
    let given = area c.args.floats.now c.args.words.now in
    let held = slot_held c.args.slot.0 given c.in_default.ensures in
    let r = c.places.result in
    let e = c.places.ensures in
    let d = c.advance in
    step_done c.args.slot.0 given c.in_default.ensures _ (of_step d.result)
    (back_only_part held r e.floats e.words d.new.floats d.new.words d.auto.floats d.auto.words)
    (on_part held r e.floats e.words d.new.floats d.new.words d.auto.floats d.auto.words (λ p q. StepsPart p (of_step d.result) q) d.ensures)
