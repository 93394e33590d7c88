-- `slot_reasons::slot_reason` meets its contract: the rows, one by one. Assumes nothing.
use mathlib.Core.Path.{sym, ◌∙◌}
use mathlib.Core.List.{[], ◌∷◌}
use mathlib.Core.Option.{none}
use Rattle.std.proofs.lemmas.Result.{err_from_is_err_and}
use Rattle.rule.specs.Area.{area}
use Rattle.rule.specs.Reasons.{slot_not_open, slot_reason}
use Rattle.slot_reasons.proofs.Reasons.{has_slot, no_slot, open_words}
use Rattle.slot_reasons.proofs.slot_reason.Goals as goal

pub returns-in_err-place_reason : goal.returns-in_err-place_reason
unfolding slot_reason
returns-in_err-place_reason c =
    let a = c.args in
    let given = area a.floats.now a.words.now in
    let e = c.in_err-place_reason in
    let p = err_from_is_err_and c.from_residual.result c.from_residual.ensures.1 in
    rw (p.1, p.2) (no_slot a.slot.0 given none (slot_not_open a.slot.0 given ∷ []) e.field-0.0 e.ensures)

pub returns-then-not-is_open : goal.returns-then-not-is_open
unfolding slot_reason
returns-then-not-is_open c =
    let a = c.args in
    let place = has_slot a.slot.0 (area a.floats.now a.words.now) c.in_ok-place_reason.ensures in
    rw (place.enough, place.there, open_words a.slot.0 a.floats.now a.words.now ∙ sym c.is_open.ensures ∙ c.if-not-is_open.true)

pub returns : goal.returns
unfolding slot_reason
returns c =
    let a = c.args in
    let place = has_slot a.slot.0 (area a.floats.now a.words.now) c.in_ok-place_reason.ensures in
    rw (place.enough, place.there, open_words a.slot.0 a.floats.now a.words.now ∙ sym c.is_open.ensures ∙ c.if-not-is_open.false)
