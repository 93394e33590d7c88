-- `part::list` meets its contract. Assumes nothing.
use Rattle.std.proofs.Common.{sym, ap, ◌∙◌, arith}
use borrow.Author.Tests.{ltb-false}
use Rattle.layout.specs.declared.Layout.{Layout}
use Rattle.part.proofs.Listing.{listed_part, listed_few}
use Rattle.part.proofs.list.Goals as goal

pub overflow_cast-result : goal.overflow_cast-result
overflow_cast-result c =
    let points = ap (λ (m : Layout). m.points) c.slot-m.ensures in
    omega (arith, listed_few c.list_kept.ensures, points, c.if-n-gt-POINTS.false)

pub returns : goal.returns
returns c =
    let room = ltb-false _ _ (sym c.output_short.ensures ∙ c.if-output_short.false) in
    listed_part c.slot-m.ensures (omega (arith, c.count_kept.ensures, room)) c.list_kept.ensures
