-- `grid::on_grid` meets its contract. Assumes nothing.
use mathlib.Core.Path.{◌∙◌}
use lib.Ieee.{of_bits, neg}
use Rattle.grid.proofs.Shift.{too_high, too_low, back}
use Rattle.grid.proofs.on_grid.Goals as goal
use Rattle.grid.proofs.on_grid.Goals.{then-v, else-v}

pub returns-then-v-2 : goal.returns-then-v-2
unfolding of_bits neg
returns-then-v-2 c = elim c.if-v.branch [ then-v w ↦ back c.args.v (cc) (cc) | else-v w ↦ cc ]

pub returns-else-v-2 : goal.returns-else-v-2
unfolding of_bits neg
returns-else-v-2 c = elim c.if-v.branch [ then-v w ↦ c.if-v-2.false ∙ too_high c.args.v (cc) | else-v w ↦ c.if-v-2.false ∙ too_low c.args.v (cc) ]
