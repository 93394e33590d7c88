-- Points on the grid, the doubled area of a triangle, and the tolerance's exact value. Assumes nothing.
-- The float `fin s m e` is m * 2 ^ e in size, which is the fraction (m * up e) / down e, and negative where s is true.
use Rattle.std.specs.Prelude.{Bool, true, false, not, ◌&&◌, List, [], ◌∷◌, ℕ, ◌*◌, ◌/◌, ◌%◌, leb, ltb, eqb, get_or, ℤ, pos, neg_ℤ, nat_abs, ◌-ℤ◌, ◌*ℤ◌, Float}
use Rattle.std.specs.Float.{nan, inf, fin}
use Rattle.std.specs.Float.Ieee.{up, down, odd}
use Rattle.rule.specs.Sizes.{reach}

pub record Point : Type 0 where
  pub x : ℤ
  pub y : ℤ

-- ---- the grid

-- n with a sign
abbrev pub signed : Bool → ℕ → ℤ
signed false n = pos n
signed true n = neg_ℤ (pos n)

-- v is a whole number from -2^24 to 2^24; -0.0 is one
unfoldable pub on_grid : Float → Bool
on_grid nan = false
on_grid (inf s) = false
on_grid (fin s m e) = eqb (m * up e % down e) 0 && leb (m * up e / down e) reach

-- the whole number that a v on the grid is; -0.0 counts as 0
unfoldable pub coord : Float → ℤ
coord nan = pos 0
coord (inf s) = pos 0
coord (fin s m e) = signed s (m * up e / down e)

abbrev pub point_of : Float → Float → Point
point_of u v = record { x = coord u; y = coord v }

-- the points of two lent lists, as many as the shorter has
unfoldable pub points : List Float → List Float → List Point
unfolding coord
points [] vs = []
points (u ∷ us) [] = []
points (u ∷ us) (v ∷ vs) = point_of u v ∷ points us vs

abbrev pub at : List Point → ℕ → Point
at ps i = get_or ps i (record { x = pos 0; y = pos 0 })

-- ---- the area

-- the cross product of b - a and c - a: above 0 where a, b, c turn counter-clockwise, 0 where they are flat
unfoldable pub turn : Point → Point → Point → ℤ
turn a b c = (b.x -ℤ a.x) *ℤ (c.y -ℤ a.y) -ℤ (b.y -ℤ a.y) *ℤ (c.x -ℤ a.x)

-- twice the area of a triangle
unfoldable pub area2 : Point → Point → Point → ℕ
unfolding turn
area2 a b c = nat_abs (turn a b c)

-- half of d, exactly, for a d of at most 64 binary digits; with at most 53 it is an f64. Half of 0 is +0.0
unfoldable pub half : ℕ → Float
unfolding odd
half d = odd 64 false d 0 1

-- ---- the tolerance

abbrev pub is_finite : Float → Bool
is_finite nan = false
is_finite (inf s) = false
is_finite (fin s m e) = true

-- half of d is at most the tolerance's exact value
unfoldable pub within : ℕ → Float → Bool
within d nan = false
within d (inf s) = not s
within d (fin false m e) = leb (d * down e) (2 * (m * up e))
within d (fin true m e) = eqb d 0 && eqb m 0

-- the tolerance is above zero
unfoldable pub positive : Float → Bool
positive nan = false
positive (inf s) = not s
positive (fin s m e) = not s && ltb 0 m
