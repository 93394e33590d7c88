-- The table of sizes of document 01, and the reach of the grid. Assumes nothing.
use Rattle.std.specs.Prelude.{ℕ, ◌*◌}

-- a coordinate is a whole number from -reach to reach
abbrev pub reach : ℕ
reach = 16777216

-- points in a line, or in all rings of a polygon
abbrev pub most_points : ℕ
most_points = 4096

-- rings in a polygon
abbrev pub most_rings : ℕ
most_rings = 64

abbrev pub slots : ℕ
slots = 8

-- scratch of a thinning call on n points
abbrev pub scratch_floats : ℕ → ℕ
scratch_floats n = 3 * n

abbrev pub scratch_words : ℕ → ℕ
scratch_words n = 12 * n

-- one slot
abbrev pub slot_floats : ℕ
slot_floats = 20480

abbrev pub slot_words : ℕ
slot_words = 49168

-- work area
abbrev pub area_floats : ℕ
area_floats = 163840

abbrev pub area_words : ℕ
area_words = 393344
