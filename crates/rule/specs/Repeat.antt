-- Repeated points: which indices stay. Assumes nothing.
use Rattle.std.specs.Prelude.{Bool, false, ◌||◌, cond, List, [], ◌∷◌, ℕ, suc}
use Rattle.rule.specs.Grid.{Point}
use Rattle.rule.specs.Segment.{same}

-- of points that stand from index i on, those that differ from the one before, which is p at first
unfoldable pub changes : Point → ℕ → List Point → List ℕ
unfolding same
changes p i [] = []
changes p i (q ∷ qs) = let r = changes q (suc i) qs in cond (same p q) r (i ∷ r)

-- consecutive: the first of each run of equal points
unfoldable pub consecutive : List Point → List ℕ
unfolding changes
consecutive [] = []
consecutive (p ∷ ps) = 0 ∷ changes p 1 ps

unfoldable pub is_in : Point → List Point → Bool
unfolding same
is_in p [] = false
is_in p (q ∷ qs) = same p q || is_in p qs

-- of points that stand from index i on, those that are not among the points seen
unfoldable pub firsts : List Point → ℕ → List Point → List ℕ
unfolding is_in
firsts seen i [] = []
firsts seen i (p ∷ ps) = let r = firsts (p ∷ seen) (suc i) ps in cond (is_in p seen) r (i ∷ r)

-- anywhere: the first appearance of each point
unfoldable pub anywhere : List Point → List ℕ
unfolding firsts
anywhere ps = firsts [] 0 ps
