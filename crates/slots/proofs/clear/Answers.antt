-- `slots::clear` meets its contract. Assumes nothing.
use mathlib.Core.Path.{refl, sym, ◌∙◌}
use lib.Seq.{length-take-le}
use lib.Ieee.{of_bits}
use Rattle.rule.specs.Sizes.{area_floats, area_words}
use Rattle.rule.specs.Area.{area, zeroed}
use Rattle.rule.specs.Reasons.{clear_reason}
use Rattle.rule.proofs.Parts.{long}
use Rattle.rule.proofs.Settled.{call_refused, call_done}
use Rattle.ending.proofs.Zeros.{filled}
use Rattle.slots.proofs.clear.Goals as goal

pub returns-then-area_short : goal.returns-then-area_short
unfolding clear_reason
returns-then-area_short c = call_refused 7 (rw (sym c.area_short.ensures ∙ c.if-area_short.true)) refl refl

pub slice_bounds-fill-end-2 : goal.slice_bounds-fill-end-2
slice_bounds-fill-end-2 c =
    let enough = long (area c.args.floats.now c.args.words.now) (sym c.area_short.ensures ∙ c.if-area_short.false) in
    sym (length-take-le area_floats c.args.floats.now enough.floats)

pub slice_bounds-fill-end-4 : goal.slice_bounds-fill-end-4
slice_bounds-fill-end-4 c =
    let enough = long (area c.args.floats.now c.args.words.now) (sym c.area_short.ensures ∙ c.if-area_short.false) in
    sym (length-take-le area_words c.args.words.now enough.words)

pub returns : goal.returns
unfolding zeroed clear_reason of_bits
returns c =
    let given = area c.args.floats.now c.args.words.now in
    let passed = sym c.area_short.ensures ∙ c.if-area_short.false in
    let enough = long given passed in
    call_done (rw passed) refl (λ i. record {
      floats = filled _ _ _ enough.floats (c.fill.ensures.after (λ y e. e)) i;
      words = filled _ _ _ enough.words (c.fill-2.ensures.after (λ y e. e)) i;
    })
