-- How the code finds repeated points: a point is new if it equals none of so many points back. Assumes nothing.
use Rattle.std.specs.Prelude.{◌≡◌, Bool, false, not, ◌||◌, cond, List, [], ◌∷◌, ◌++◌, ℕ, zero, suc, ◌+◌, ◌-◌, length}
use Rattle.rule.specs.Grid.{Point, at}
use Rattle.rule.specs.Segment.{same}
use Rattle.rule.specs.Whole.{over}

-- p is one of the m points from a on, the last looked at first
unfoldable pub among : List Point → Point → ℕ → ℕ → Bool
unfolding same
among ps p a zero = false
among ps p a (suc m) = same p (at ps (a + m)) || among ps p a m

-- point i is none of the `back` points before it
unfoldable pub is_new : ℕ → List Point → ℕ → Bool
unfolding among
is_new back ps i = not (among ps (at ps i) (i - back) (i - (i - back)))

-- the new points below n
unfoldable pub news : ℕ → List Point → ℕ → List ℕ
unfolding is_new
news back ps zero = []
news back ps (suc n) = news back ps n ++ cond (is_new back ps n) (n ∷ []) []

abbrev pub all_new : ℕ → List Point → List ℕ
all_new back ps = news back ps (length ps)

-- those below n were listed over what stood in the output, so many
pub record Listed (back : ℕ) (ps : List Point) (n : ℕ) (out : List ℕ) (kept : ℕ) (out' : List ℕ) : Type 0 where
  pub count : kept ≡ length (news back ps n)
  pub list : out' ≡ over (news back ps n) out
