-- `slot_reasons::open_reason` meets its contract: the rows, one by one. Assumes nothing.
use mathlib.Core.Path.{sym, ◌∙◌}
use mathlib.Core.List.{◌∷◌}
use Rattle.std.proofs.lemmas.Result.{err_from_is_err_and}
use Rattle.rule.specs.Area.{area}
use Rattle.rule.specs.Reasons.{first_off_grid, slot_is_open, line_rows, open_reason}
use Rattle.slot_reasons.proofs.Reasons.{has_slot, no_slot, open_words}
use Rattle.slot_reasons.proofs.open_reason.Goals as goal

pub returns-in_err-place_reason : goal.returns-in_err-place_reason
unfolding open_reason
returns-in_err-place_reason c =
    let a = c.args in
    let given = area a.floats.now a.words.now in
    let e = c.in_err-place_reason in
    let p = err_from_is_err_and c.from_residual.result c.from_residual.ensures.1 in
    rw (p.1, p.2)
    (no_slot a.slot.0 given (first_off_grid a.x.now a.y.now) (slot_is_open a.slot.0 given ∷ line_rows a.x.now a.y.now a.tolerance) e.field-0.0 e.ensures)

pub returns-then-is_open : goal.returns-then-is_open
unfolding open_reason
returns-then-is_open c =
    let a = c.args in
    let place = has_slot a.slot.0 (area a.floats.now a.words.now) c.in_ok-place_reason.ensures in
    rw (place.enough, place.there, open_words a.slot.0 a.floats.now a.words.now ∙ sym c.is_open.ensures ∙ c.if-is_open.true)

pub returns : goal.returns
unfolding open_reason
returns c =
    let a = c.args in
    let place = has_slot a.slot.0 (area a.floats.now a.words.now) c.in_ok-place_reason.ensures in
    rw (place.enough, place.there, open_words a.slot.0 a.floats.now a.words.now ∙ sym c.is_open.ensures ∙ c.if-is_open.false) c.line_reason.ensures
