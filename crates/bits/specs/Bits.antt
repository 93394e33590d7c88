-- The bits of a float. Assumes nothing.
use Rattle.std.specs.Prelude.{cond, ℕ, Float}
use Rattle.std.specs.Float.{binary64}
use Rattle.std.specs.Float.Ieee.{is_nan, to_bits}

-- the 64 bits, and 0 for a NaN
abbrev pub bits_of : Float → ℕ
bits_of v = cond (is_nan v) 0 (to_bits binary64 v)
