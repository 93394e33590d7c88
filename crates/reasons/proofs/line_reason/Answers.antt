-- `reasons::line_reason` meets its contract: a place in points that are few fits an index. Assumes nothing.
use mathlib.Core.Path.{sym, ◌∙◌}
use native.Mathlib.Omega.{arith}
use lib.ListN.{length}
use borrow.Author.Tests.{ltb-false}
use Rattle.rule.specs.Sizes.{most_points}
use Rattle.lent.proofs.Scan.{found_below}
use Rattle.reasons.proofs.line_reason.Goals as goal

pub overflow_cast-result : goal.overflow_cast-result
overflow_cast-result c =
    let us = c.args.x.now in
    let found = found_below us c.args.y.now c.in-Some.i (sym c.in-Some.ensures) in
    omega (arith, ltb-false most_points (length us) (sym c.too_many_points.ensures ∙ c.if-too_many_points.false), found)
