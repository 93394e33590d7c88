-- The cross product of three points in f64. Assumes nothing.
use Rattle.std.specs.Prelude.{Float}
use Rattle.std.specs.Float.Ieee.{binary64, sub, mul}

-- of the sides from a to b and from a to c
abbrev pub cross : (ax ay bx by cx cy : Float) → Float
cross ax ay bx by cx cy = sub binary64 (mul binary64 (sub binary64 bx ax) (sub binary64 cy ay)) (mul binary64 (sub binary64 by ay) (sub binary64 cx ax))
