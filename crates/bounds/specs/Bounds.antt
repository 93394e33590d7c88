-- The least and the greatest coordinates of some points. Assumes nothing.
use Rattle.std.specs.Prelude.{◌≡◌, Bool, true, not, cond, ◌||◌, ◌*◌, Float}
use Rattle.std.specs.Int.Signed.{le_z}
use Rattle.std.specs.Float.Ieee.{neg, le}
use Rattle.rule.specs.Sizes.{reach}
use Rattle.rule.specs.Grid.{Point, coord, half}
use Rattle.grid.specs.On.{On}
use Rattle.bounds.specs.declared.Bounds.{Bounds}

-- ---- what the calls give

unfoldable pub lesser : Float → Float → Float
lesser u v = cond (le u v) u v

unfoldable pub greater : Float → Float → Float
greater u v = cond (le v u) u v

-- the grid's end
abbrev pub edge : Float
edge = half (2 * reach)

-- of no point: each side at the grid's other end
unfoldable pub of_none : Bounds
of_none = record { west = edge; east = neg edge; south = edge; north = neg edge }

-- with the point at u, v
unfoldable pub widened : Bounds → Float → Float → Bounds
widened c u v = record { west = lesser u c.west; east = greater u c.east; south = lesser v c.south; north = greater v c.north }

-- a side of one lies past a side of the other
unfoldable pub apart : Bounds → Bounds → Bool
apart c d = not (le d.west c.east) || not (le c.west d.east) || not (le d.south c.north) || not (le c.south d.north)

-- ---- what is said of bounds

-- the sides are on the grid
pub record SidesOn (c : Bounds) : Type 0 where
  pub low : On c.west c.south
  pub high : On c.east c.north

-- the point lies within
pub record Holds (c : Bounds) (p : Point) : Type 0 where
  pub west : le_z (coord c.west) p.x ≡ true
  pub east : le_z p.x (coord c.east) ≡ true
  pub south : le_z (coord c.south) p.y ≡ true
  pub north : le_z p.y (coord c.north) ≡ true

-- d holds what c holds
abbrev pub Grows : Bounds → Bounds → Type 0
Grows c d = (p : Point) → Holds c p → Holds d p
