-- `lent::tolerance_positive` meets its contract. Assumes nothing.
use mathlib.Core.Path.{◌≡◌, refl, sym, ◌∙◌}
use mathlib.Core.Bool.{true, false}
use Prim.Native.Nat.{ℕ, zero, suc, ◌*◌, ◌<◌}
use native.Mathlib.Nat.{mul-pos, zero-lt-suc, zero-mul}
use lib.Dec.{ltb}
use lib.IntN.{pos}
use lib.Ieee.{Float, nan, inf, fin, up, down, lt, of_bits}
use lib.Ieee.Fits.{up_pos, down_pos}
use borrow.Author.Tests.{lt-ltb}
use Rattle.rule.specs.Area.{zero_float}
use Rattle.rule.specs.Grid.{positive}
use Rattle.lent.proofs.tolerance_positive.Goals as goal

scaled : (m u w : ℕ) → 0 < u → 0 < w → ltb 0 (m * u * w) ≡ ltb 0 m
scaled zero u w U W = rw (zero-mul u, zero-mul w)
scaled (suc m) u w U W = lt-ltb 0 (suc m * u * w) (mul-pos (mul-pos (zero-lt-suc m) U) W) ∙ sym (lt-ltb 0 (suc m) (zero-lt-suc m))

zero_below : (t : Float) → lt zero_float t ≡ positive t
unfolding lt positive
zero_below nan = refl
zero_below (inf s) = refl
zero_below (fin true m e) = refl
zero_below (fin false m e) = rw zero-mul (scaled m (up e) (down (pos 0)) (up_pos e) (down_pos (pos 0)))

pub returns : goal.returns
unfolding of_bits
returns c = zero_below c.args.tolerance
