-- `lent::tolerance_not_finite` meets its contract. Assumes nothing.
use mathlib.Core.Path.{ap, ◌∙◌}
use mathlib.Core.Bool.{not}
use Rattle.lent.proofs.Finite.{finite_is}
use Rattle.lent.proofs.tolerance_not_finite.Goals as goal

pub returns : goal.returns
returns c = ap not (c.is_finite.ensures.value ∙ finite_is c.args.tolerance)
