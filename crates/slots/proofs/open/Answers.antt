-- `slots::open` meets its contract. Assumes nothing.
use Rattle.rule.specs.Grid.{points}
use Rattle.rule.specs.Plain.{all}
use Rattle.rule.specs.Area.{area}
use Rattle.lent.proofs.Rows.{line_fine, line_finite}
use Rattle.part.specs.Rep.{Rep}
use Rattle.slots.proofs.Lending.{floats_end, words_end, lent_floats, lent_words, back_only_part, on_part}
use Rattle.slots.proofs.Calls.{open_held, open_rows, open_done}
use Rattle.slots.proofs.open.Goals as goal

pub slice_bounds-fill-end : goal.slice_bounds-fill-end
slice_bounds-fill-end c =
    let a = c.args in
    let held = open_held a.slot.0 (area a.floats.now a.words.now) a.x.now a.y.now a.tolerance c.in_ok-open_reason.ensures in
    floats_end held c.places.result c.places.ensures.floats c.places.ensures.words

pub slice_bounds-fill-end-2 : goal.slice_bounds-fill-end-2
slice_bounds-fill-end-2 c =
    let a = c.args in
    let held = open_held a.slot.0 (area a.floats.now a.words.now) a.x.now a.y.now a.tolerance c.in_ok-open_reason.ensures in
    words_end held c.places.result c.places.ensures.floats c.places.ensures.words

pub fill-requires : goal.fill-requires
fill-requires c =
    let a = c.args in
    let given = area a.floats.now a.words.now in
    let held = open_held a.slot.0 given a.x.now a.y.now a.tolerance c.in_ok-open_reason.ensures in
    let rows = open_rows a.slot.0 given a.x.now a.y.now a.tolerance c.in_ok-open_reason.ensures in
    let r = c.places.result in
    let e = c.places.ensures in (
      lent_floats held r e.floats e.words,
      lent_words held r e.floats e.words,
      line_fine a.x.now a.y.now a.tolerance rows,
      line_finite a.x.now a.y.now a.tolerance rows,
    )

pub returns : goal.returns
returns c =
    let a = c.args in
    let given = area a.floats.now a.words.now in
    let ps = points a.x.now a.y.now in
    let held = open_held a.slot.0 given a.x.now a.y.now a.tolerance c.in_ok-open_reason.ensures in
    let r = c.places.result in
    let e = c.places.ensures in
    let d = c.fill in
    open_done a.slot.0 a.x.now a.y.now a.tolerance given _ c.in_ok-open_reason.ensures
    (back_only_part held r e.floats e.words d.new.floats d.new.words d.auto.floats d.auto.words)
    (on_part held r e.floats e.words d.new.floats d.new.words d.auto.floats d.auto.words (λ p q. Rep q ps a.tolerance (all ps)) d.ensures)
