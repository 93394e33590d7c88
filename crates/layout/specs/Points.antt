-- Points by their coordinates in lent memory. Assumes nothing.
use Rattle.std.specs.Prelude.{◌≡◌, List, ℕ, ◌+◌, ◌≤◌, ◌<◌, length, get_or, Float}
use Rattle.std.specs.Float.{nan}
use Rattle.rule.specs.Grid.{Point, point_of, at}
use Rattle.grid.specs.On.{On}
use Rattle.layout.specs.declared.Layout.{Layout}

-- the coordinate of point i, where those of all points start at o
abbrev pub from : List Float → ℕ → ℕ → Float
from us o i = get_or us (o + i) nan

-- the memory has the coordinates of every point
pub record HasPoints (m : Layout) (us vs : List Float) : Type 0 where
  pub x : m.x + m.points ≤ length us
  pub y : m.y + m.points ≤ length vs

-- the n points stand at their coordinates, on the grid
pub record Placed (x y : ℕ → Float) (n : ℕ) (ps : List Point) : Type 0 where
  pub on : (i : ℕ) → i < n → On (x i) (y i)
  pub is : (i : ℕ) → i < n → at ps i ≡ point_of (x i) (y i)

abbrev pub PlacedIn : List Float → List Float → Layout → List Point → Type 0
PlacedIn us vs m ps = Placed (from us m.x) (from vs m.y) m.points ps
