-- Two segments by the coordinates of their ends. Assumes nothing.
use Rattle.std.specs.Prelude.{◌≡◌, Bool, ◌||◌, [], ◌∷◌, ℤ, Float}
use Rattle.std.specs.Int.Signed.{le_z}
use Rattle.rule.specs.Grid.{Point, point_of}
use Rattle.rule.specs.Segment.{same}
use Rattle.rule.specs.Preserve.{against}
use Rattle.grid.specs.On.{On}

-- one of a and b is at most one of c and d
abbrev pub reaches : ℤ → ℤ → ℤ → ℤ → Bool
reaches a b c d = le_z a c || le_z a d || le_z b c || le_z b d

-- p equals an end of the segment from l to r
abbrev pub is_end : Point → Point → Point → Bool
is_end p l r = same p l || same p r

-- the rule's `against`, of the present segment from a to b and the new one from l to r
abbrev pub opposed : Point → Point → Point → Point → Bool
opposed a b l r = against (a ∷ b ∷ l ∷ r ∷ []) 2 3 0 1

-- on the grid, b says whether it is
abbrev pub AgainstIs : (ax ay bx by lx ly rx ry : Float) → Bool → Type 0
AgainstIs ax ay bx by lx ly rx ry b =
    On ax ay → On bx by → On lx ly → On rx ry → b ≡ opposed (point_of ax ay) (point_of bx by) (point_of lx ly) (point_of rx ry)
