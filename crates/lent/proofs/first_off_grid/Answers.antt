-- `lent::first_off_grid` meets its contract. Assumes nothing.
use mathlib.Core.Path.{ap, ◌∙◌}
use Rattle.std.proofs.Common.{rules, tests}
use Rattle.std.proofs.lemmas.Iterator.{YieldsList-from_slice, YieldsList-from_zip}
use Rattle.std.proofs.lemmas.Iterator.Search.{position_from_yields_List}
use Rattle.lent.specs.Found.{of_found}
use Rattle.lent.proofs.Scan.{off, scan}
use Rattle.lent.proofs.first_off_grid.Goals as goal

pub returns : goal.returns
returns c =
    let us = c.args.x.now in
    let vs = c.args.y.now in
    ap of_found
    (position_from_yields_List off c.position.new.self _ c.position.result c.position.ensures.ran (YieldsList-from_zip (YieldsList-from_slice us cc) (YieldsList-from_slice vs cc))
    (λ x b q k. search (rules, tests)))
    ∙ scan us vs
