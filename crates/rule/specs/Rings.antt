-- The rings of a polygon: the ring table, the rings that it cuts the points into, and the table of what is kept. Assumes nothing.
use Rattle.std.specs.Prelude.{Bool, true, not, ◌&&◌, ◌||◌, List, [], ◌∷◌, ◌++◌, ℕ, ◌+◌, ◌-◌, leb, ltb, eqb, length, Float}
use Rattle.rule.specs.Sizes.{most_rings}
use Rattle.rule.specs.Grid.{Point, at}
use Rattle.rule.specs.Segment.{same}
use Rattle.rule.specs.Plain.{indices, all}
use Rattle.rule.specs.Preserve.{of_line, of_ring, preserve}

-- ---- the table: per ring, the position one past its last point

-- no entry is below the one before it, which is lo at first
unfoldable pub rises : ℕ → List ℕ → Bool
rises lo [] = true
rises lo (hi ∷ his) = leb lo hi && rises hi his

abbrev pub last_or : ℕ → List ℕ → ℕ
last_or k [] = k
last_or k (j ∷ js) = last_or j js

-- empty, longer than 64, decreasing, or last entry not the number of points
unfoldable pub bad_table : ℕ → List ℕ → Bool
unfolding rises
bad_table n [] = true
bad_table n (hi ∷ his) = ltb most_rings (length (hi ∷ his)) || not (rises 0 (hi ∷ his)) || not (eqb (last_or hi his) n)

-- ---- the rings

-- the indices of each ring, where the first starts at lo
unfoldable pub rings_from : ℕ → List ℕ → List (List ℕ)
unfolding indices
rings_from lo [] = []
rings_from lo (hi ∷ his) = indices lo (hi - lo) ∷ rings_from hi his

-- a ring with points has its last equal to its first
unfoldable pub is_closed : List Point → List ℕ → Bool
unfolding same
is_closed ps [] = true
is_closed ps (k ∷ ks) = same (at ps k) (at ps (last_or k ks))

unfoldable pub all_closed : List Point → List (List ℕ) → Bool
unfolding is_closed
all_closed ps [] = true
all_closed ps (ks ∷ kss) = is_closed ps ks && all_closed ps kss

-- ---- what is kept

-- one list of all rings
unfoldable pub joined : List (List ℕ) → List ℕ
joined [] = []
joined (ks ∷ kss) = ks ++ joined kss

-- the ring table for that list, where the first ring starts at lo
unfoldable pub ends_from : ℕ → List (List ℕ) → List ℕ
ends_from lo [] = []
ends_from lo (ks ∷ kss) = (lo + length ks) ∷ ends_from (lo + length ks) kss

-- `simplify_vw_preserve` of a line: it is one ring
unfoldable pub line_rule : List Point → Float → List ℕ
unfolding preserve joined all
line_rule ps t = joined (preserve ps t of_line (all ps ∷ []))

-- `simplify_vw_preserve` of a polygon: what is kept of each ring
unfoldable pub polygon_rule : List Point → Float → List ℕ → List (List ℕ)
unfolding preserve rings_from
polygon_rule ps t table = preserve ps t of_ring (rings_from 0 table)
