-- `slots::read` meets its contract. Assumes nothing.
use mathlib.Core.Path.{subst}
use Rattle.std.proofs.lemmas.Result.{err_from_is_err_and}
use Rattle.rule.specs.Answers.{of_listing}
use Rattle.rule.specs.Area.{Area, area}
use Rattle.part.specs.Parts.{ReadsPart}
use Rattle.slots.proofs.Lending.{words_end, lent_part}
use Rattle.slots.proofs.Calls.{slot_held, read_refused, read_done}
use Rattle.slots.proofs.read.Goals as goal

pub returns-in_err-slot_reason : goal.returns-in_err-slot_reason
returns-in_err-slot_reason c =
    let a = c.args in
    let e = c.in_err-slot_reason in
    let p = err_from_is_err_and c.from_residual.result c.from_residual.ensures.1 in
    rw (p.1, p.2) (read_refused a.slot.0 (area a.floats.now a.words.now) e.field-0.0 e.ensures a.out.now)

pub slice_bounds-list-end : goal.slice_bounds-list-end
slice_bounds-list-end c =
    let held = slot_held c.args.slot.0 (area c.args.floats.now c.args.words.now) c.in_ok-slot_reason.ensures in
    words_end held c.places.result c.places.ensures.floats c.places.ensures.words

pub returns : goal.returns
returns c =
    let given = area c.args.floats.now c.args.words.now in
    let held = slot_held c.args.slot.0 given c.in_ok-slot_reason.ensures in
    let r = of_listing c.list.result in
    read_done c.args.slot.0 given c.in_ok-slot_reason.ensures c.args.out.now c.list.new.out r
    (subst (λ (p : Area). ReadsPart p.words c.args.out.now r c.list.new.out) (lent_part held c.places.result c.places.ensures.floats c.places.ensures.words) c.list.ensures)
