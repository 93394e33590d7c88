-- The layout of a scratch and of a slot's part, and what memory a layout needs. Assumes nothing.
use Rattle.std.specs.Prelude.{List, ℕ, ◌+◌, ◌*◌, ◌-◌, ◌≤◌, length, Float}
use Rattle.rule.specs.Sizes.{most_points}
use Rattle.layout.specs.declared.Layout.{Layout}

-- words of a slot's part before its heap
abbrev pub header : ℕ
header = 16

abbrev pub scratch_of : ℕ → Layout
scratch_of n = record { heap = 0; capacity = 2 * n; links = 9 * n; points = n; x = 0; y = 0 }

-- at most 2 (n - 2) scores ever stand there, so the heap stays clear of the tolerance, which stands in the last place before x
abbrev pub slot_of : ℕ → Layout
slot_of n = record { heap = header; capacity = 3 * most_points - 6; links = header + 9 * most_points; points = n; x = 3 * most_points; y = 4 * most_points }

-- the runs lie one behind the other within the lent memory
pub record Room (m : Layout) (fs : List Float) (ws : List ℕ) : Type 0 where
  pub areas : m.capacity ≤ length fs
  pub scores : m.heap + 3 * m.capacity ≤ m.links
  pub linked : m.links + 3 * m.points ≤ length ws
