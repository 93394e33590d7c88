-- `slots::close` meets its contract. Assumes nothing.
use mathlib.Core.Path.{refl}
use mathlib.Core.Option.{none}
use lib.Ieee.{of_bits}
use Rattle.rule.specs.Area.{area}
use Rattle.rule.specs.Reasons.{slot_reason}
use Rattle.rule.proofs.Settled.{call_done}
use Rattle.reasons.proofs.Verdict.{accepted}
use Rattle.slots.proofs.Lending.{floats_end, words_end, closed}
use Rattle.slots.proofs.Calls.{slot_held}
use Rattle.slots.proofs.close.Goals as goal

pub slice_bounds-fill-end : goal.slice_bounds-fill-end
slice_bounds-fill-end c =
    let held = slot_held c.args.slot.0 (area c.args.floats.now c.args.words.now) c.in_ok-slot_reason.ensures in
    floats_end held c.places.result c.places.ensures.floats c.places.ensures.words

pub slice_bounds-fill-end-2 : goal.slice_bounds-fill-end-2
slice_bounds-fill-end-2 c =
    let held = slot_held c.args.slot.0 (area c.args.floats.now c.args.words.now) c.in_ok-slot_reason.ensures in
    words_end held c.places.result c.places.ensures.floats c.places.ensures.words

pub returns : goal.returns
unfolding of_bits
returns c =
    let given = area c.args.floats.now c.args.words.now in
    let told = c.in_ok-slot_reason.ensures in
    call_done (accepted (slot_reason c.args.slot.0 given) none told) refl
    (closed (slot_held c.args.slot.0 given told) c.places.result c.places.ensures.floats c.places.ensures.words (c.fill.ensures.after (λ y e. e))
    (c.fill-2.ensures.after (λ y e. e)))
