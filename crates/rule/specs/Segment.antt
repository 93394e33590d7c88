-- Equal points, and segments that share a point: by definition, and by a test. Assumes nothing.
use Rattle.std.specs.Prelude.{◌≡◌, Bool, true, false, not, ◌&&◌, ◌||◌, ℕ, zero, suc, ◌-◌, ◌≤◌, ◌<◌, ltb, eqb, ℤ, pos, negsuc, ◌+ℤ◌, ◌*ℤ◌}
use Rattle.std.specs.Int.Signed.{le_z}
use Rattle.rule.specs.Grid.{Point, turn}

unfoldable pub sameℤ : ℤ → ℤ → Bool
sameℤ (pos a) (pos b) = eqb a b
sameℤ (pos a) (negsuc b) = false
sameℤ (negsuc a) (pos b) = false
sameℤ (negsuc a) (negsuc b) = eqb a b

-- equal by coordinates
unfoldable pub same : Point → Point → Bool
unfolding sameℤ
same p q = sameℤ p.x q.x && sameℤ p.y q.y

-- ---- the definition

-- the place p / q of the way from a to b, times q
abbrev pub along : ℕ → ℕ → ℤ → ℤ → ℤ
along q p a b = pos (q - p) *ℤ a +ℤ pos p *ℤ b

-- The closed segments from a to b and from c to d share a point: it stands at a rational place along both, p / q of the way from a to b
-- and r / q of the way from c to d.
pub record Meets (a b c d : Point) : Type 0 where
  pub q : ℕ
  pub p : ℕ
  pub r : ℕ
  pub q_pos : 0 < q
  pub p_in : p ≤ q
  pub r_in : r ≤ q
  pub at_x : along q p a.x b.x ≡ along q r c.x d.x
  pub at_y : along q p a.y b.y ≡ along q r c.y d.y

-- ---- the test

-- both above 0, or both below
unfoldable pub one_side : ℤ → ℤ → Bool
one_side (pos zero) v = false
one_side (pos (suc m)) (pos n) = ltb 0 n
one_side (pos (suc m)) (negsuc n) = false
one_side (negsuc m) (pos n) = false
one_side (negsuc m) (negsuc n) = true

-- the ranges from a to b and from c to d, each either way round, have a number in common
unfoldable pub overlap : ℤ → ℤ → ℤ → ℤ → Bool
overlap a b c d = (le_z a c || le_z a d || le_z b c || le_z b d) && (le_z c a || le_z c b || le_z d a || le_z d b)

-- the boxes overlap, and neither segment lies strictly on one side of the other's line
unfoldable pub meets : Point → Point → Point → Point → Bool
unfolding turn one_side overlap
meets a b c d =
    overlap a.x b.x c.x d.x && overlap a.y b.y c.y d.y
    && not (one_side (turn a b c) (turn a b d)) && not (one_side (turn c d a) (turn c d b))
