-- The library's test of a finite float is the definitions'. Assumes nothing.
use mathlib.Core.Path.{◌≡◌, refl}
use lib.Ieee.{Float, nan, inf, fin}
use Rattle.std.specs.Float.{float_is_finite}
use Rattle.rule.specs.Grid.{is_finite}

pub finite_is : (t : Float) → float_is_finite t ≡ is_finite t
unfolding float_is_finite
finite_is nan = refl
finite_is (inf s) = refl
finite_is (fin s m e) = refl
