-- The boxes of blocks of points in lent memory. Assumes nothing.
use Rattle.std.specs.Prelude.{◌≡◌, cond, List, ℕ, zero, suc, ◌+◌, ◌*◌, ◌/◌, ◌≤◌, ◌<◌, ltb, length, get_or, set, Float}
use Rattle.std.specs.Float.{nan}
use Rattle.rule.specs.Grid.{Point, at}
use Rattle.layout.specs.declared.Layout.{Layout}
use Rattle.layout.specs.Points.{from}
use Rattle.links.specs.Words.{next_at, Starts}
use Rattle.bounds.specs.declared.Bounds.{Bounds}
use Rattle.bounds.specs.Bounds.{of_none, widened, SidesOn, Holds}
use Rattle.blocks.specs.declared.Blocks.{Blocks}

-- ---- where they stand

abbrev pub box_floats : ℕ
box_floats = 4

abbrev pub box_from : List Float → ℕ → Bounds
box_from fs o = record { west = get_or fs o nan; east = get_or fs (o + 1) nan; south = get_or fs (o + 2) nan; north = get_or fs (o + 3) nan }

-- the box of block k
abbrev pub box_at : List Float → Blocks → ℕ → Bounds
box_at fs b k = box_from fs (b.at + box_floats * k)

-- where the boxes end
abbrev pub boxes_end : Blocks → ℕ
boxes_end b = b.at + box_floats * b.number

-- the memory has every box, and a block is not empty
pub record HasBoxes (b : Blocks) (fs : List Float) : Type 0 where
  pub some : 0 < b.size
  pub room : boxes_end b ≤ length fs

-- and the boxes stand past the heap
pub record Free (b : Blocks) (m : Layout) (fs : List Float) : Type 0 where
  pub has : HasBoxes b fs
  pub past : m.capacity ≤ b.at

-- where the floats behind the heap end, as many as there are points
abbrev pub behind_end : Layout → ℕ
behind_end m = m.capacity + m.points

-- the boxes stand right behind the heap, and end before that
pub record BehindHeap (m : Layout) (b : Blocks) : Type 0 where
  pub start : b.at ≡ m.capacity
  pub some : 0 < b.size
  pub few : box_floats * b.number ≤ m.points

-- ---- what the calls write

abbrev pub stored : List Float → ℕ → Bounds → List Float
stored fs o c = set (set (set (set fs o c.west) (o + 1) c.east) (o + 2) c.south) (o + 3) c.north

-- the bounds c with the points i and j
abbrev pub spanned : Layout → (us vs : List Float) → Bounds → (i j : ℕ) → Bounds
spanned m us vs c i j = widened (widened c (from us m.x i) (from vs m.y i)) (from us m.x j) (from vs m.y j)

-- the box of i's block, if it has one, widened by the segment from i to j
unfoldable pub covered : Blocks → Layout → (us vs : List Float) → (i j : ℕ) → List Float → List Float
covered b m us vs i j fs =
    let k = i / b.size in
    cond (ltb k b.number) (stored fs (b.at + box_floats * k) (spanned m us vs (box_at fs b k) i j)) fs

-- by the segment from i to its next point, if it has one
unfoldable pub covered_from : Blocks → Layout → (us vs : List Float) (ws : List ℕ) → ℕ → List Float → List Float
unfolding covered
covered_from b m us vs ws i fs = cond (ltb (next_at ws m i) m.points) (covered b m us vs i (next_at ws m i) fs) fs

-- the first n boxes are those of no point
unfoldable pub cleared : Blocks → ℕ → List Float → List Float
unfolding of_none
cleared b zero fs = fs
cleared b (suc n) fs = stored (cleared b n fs) (b.at + box_floats * n) of_none

-- widened by the segments that start at the first n points
unfoldable pub covered_to : Blocks → Layout → (us vs : List Float) (ws : List ℕ) → ℕ → List Float → List Float
unfolding covered_from
covered_to b m us vs ws zero fs = fs
covered_to b m us vs ws (suc n) fs = covered_from b m us vs ws n (covered_to b m us vs ws n fs)

-- the boxes of all present segments
abbrev pub set_up : Blocks → Layout → (us vs : List Float) (ws : List ℕ) → List Float → List Float
set_up b m us vs ws fs = covered_to b m us vs ws m.points (cleared b b.number fs)

-- ---- what is said of them

-- both ends of the segment from i to j lie within c
pub record Spans (ps : List Point) (i j : ℕ) (c : Bounds) : Type 0 where
  pub first : Holds c (at ps i)
  pub second : Holds c (at ps j)

-- the sides of all boxes are on the grid
abbrev pub BoxesOn : Blocks → List Float → Type 0
BoxesOn b fs = (k : ℕ) → k < b.number → SidesOn (box_at fs b k)

-- every present segment that starts in a block lies in its box
pub record Boxed (b : Blocks) (m : Layout) (ps : List Point) (fs : List Float) (ws : List ℕ) : Type 0 where
  pub on : BoxesOn b fs
  pub holds : (i : ℕ) → i < m.points → i / b.size < b.number → Starts ws m i → Spans ps i (next_at ws m i) (box_at fs b (i / b.size))
