-- `grid::area` meets its contract: the size of the cross product, halved. Assumes nothing.
use mathlib.Core.Path.{refl, sym, ap, ◌∙◌}
use mathlib.Core.Bool.{Bool, false}
use Prim.Native.Nat.{ℕ}
use native.Mathlib.Nat.{le_trans}
use lib.Dec.{lit≤}
use lib.IntN.{nat_abs}
use lib.Ieee.{Float, nan, inf, fin, of_bits}
use lib.Ieee.Exact.{HasValue}
use Rattle.std.specs.Float.{float_with_sign}
use Rattle.rule.specs.Grid.{half, area2}
use Rattle.grid.proofs.Signs.{abs_signed}
use Rattle.grid.proofs.Halves.{halved}
use Rattle.grid.proofs.Cross.{turn_is}
use Rattle.grid.proofs.area.Goals as goal

size_value : (x : Float) (s : Bool) (a c : ℕ) → HasValue x s a c → HasValue (float_with_sign false x) false a c
unfolding float_with_sign
size_value nan s a c v = v
size_value (inf t) s a c v = v
size_value (fin t m e) s a c v = (refl, v.1)

pub returns : goal.returns
unfolding of_bits area2
returns c a b e =
    let w = turn_is a b e in
    rw (c.abs.ensures.value, c.turn.ensures)
    (halved _ w.size (le_trans w.bound (lit≤ tt)) (size_value _ w.sign w.size 1 w.value)
    ∙ ap half (sym (abs_signed w.sign w.size) ∙ ap nat_abs w.is))
