-- The boxes of a line of five points, made, and widened after a removal, at values that an f64 has. It pins the definitions. Assumes nothing.
use mathlib.Core.Path.{◌≡◌, refl}
use mathlib.Core.List.{List, [], ◌∷◌, map}
use Prim.Native.Nat.{ℕ, ◌*◌}
use lib.Ieee.{Float, neg, le, lt, eq, odd}
use Rattle.rule.specs.Grid.{half}
use Rattle.layout.specs.declared.Layout.{Layout}
use Rattle.bounds.specs.Bounds.{lesser, greater, of_none, widened}
use Rattle.blocks.specs.declared.Blocks.{Blocks}
use Rattle.blocks.specs.Boxes.{covered, covered_from, cleared, covered_to, set_up}

-- the f64s that these are
abbrev floats : List ℕ → List Float
floats = map (λ n. half (2 * n))

-- L of document 01
abbrev xs : List Float
xs = floats (5 ∷ 3 ∷ 6 ∷ 7 ∷ 10 ∷ [])

abbrev ys : List Float
ys = floats (2 ∷ 8 ∷ 20 ∷ 25 ∷ 10 ∷ [])

abbrev m : Layout
m = record { heap = 0; capacity = 0; links = 0; points = 5; x = 0; y = 0 }

-- every point is kept: the point before each, the one after, the marks
abbrev ws : List ℕ
ws = 5 ∷ 0 ∷ 1 ∷ 2 ∷ 3 ∷ 1 ∷ 2 ∷ 3 ∷ 4 ∷ 5 ∷ 0 ∷ 0 ∷ 0 ∷ 0 ∷ 0 ∷ []

-- the points 0 and 1, and 2 and 3; the last is in no block. A float stands before the boxes, and one behind them
abbrev b : Blocks
b = record { at = 1; size = 2; number = 2 }

abbrev fs : List Float
fs = floats (9 ∷ 0 ∷ 0 ∷ 0 ∷ 0 ∷ 0 ∷ 0 ∷ 0 ∷ 0 ∷ 9 ∷ [])

-- west, east, south, north of each
pub set_up_row : set_up b m xs ys ws fs ≡ floats (9 ∷ 3 ∷ 6 ∷ 2 ∷ 20 ∷ 6 ∷ 10 ∷ 10 ∷ 25 ∷ 9 ∷ [])
unfolding covered_to covered_from covered cleared widened lesser greater of_none half odd neg le lt eq
set_up_row = refl

-- point 2 is removed: the segment from 1 to 3 widens the box of block 0; one that starts at point 4 would widen none
pub covered_row : covered b m xs ys 1 3 (set_up b m xs ys ws fs) ∷ covered b m xs ys 4 0 fs ∷ []
    ≡ floats (9 ∷ 3 ∷ 7 ∷ 2 ∷ 25 ∷ 6 ∷ 10 ∷ 10 ∷ 25 ∷ 9 ∷ []) ∷ fs ∷ []
unfolding covered_to covered_from covered cleared widened lesser greater of_none half odd neg le lt eq
covered_row = refl
