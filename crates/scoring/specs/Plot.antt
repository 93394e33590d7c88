-- Points by their coordinates in lent memory, and the score of three of them. Assumes nothing.
use Rattle.std.specs.Prelude.{◌≡◌, Option, Some, None, List, ℕ, ◌<◌, Float}
use Rattle.std.specs.Float.Ieee.{neg}
use Rattle.rule.specs.Grid.{Point, half}
use Rattle.rule.specs.Plain.{area_at}
use Rattle.layout.specs.declared.Layout.{Layout}
use Rattle.layout.specs.Points.{PlacedIn}
use Rattle.vscore.specs.declared.VScore.{VScore}
use Rattle.vscore.specs.Score.{demoted_by}

-- ---- scores

-- the area of a score: minus the tolerance if it is demoted by one
abbrev pub priced : Option Float → ℕ → Float
priced None d = half d
priced (Some t) d = neg t

-- s is the score of the points a, b and c, with the area that `value` makes of the doubled one
pub record ScoreOf (us vs : List Float) (m : Layout) (a b c : ℕ) (value : ℕ → Float) (s : VScore) : Type 0 where
  pub left : s.left ≡ a
  pub current : s.current ≡ b
  pub right : s.right ≡ c
  pub area : (ps : List Point) → PlacedIn us vs m ps → s.area ≡ value (area_at ps a b c)

-- demoted or not
abbrev pub demoted_if : Option Float → Option VScore → Option VScore
demoted_if None r = r
demoted_if (Some t) (Some s) = Some (demoted_by t s)
demoted_if (Some t) None = None

-- all three are points
pub record Points (n a b c : ℕ) : Type 0 where
  pub left : a < n
  pub current : b < n
  pub right : c < n

-- the score of a, b and c; or one of them is no point
pub data ScoredAs (us vs : List Float) (m : Layout) (a b c : ℕ) (value : ℕ → Float) : Option VScore → Type 0 where
  scored : {s : VScore} → Points m.points a b c → ScoreOf us vs m a b c value s → ScoredAs us vs m a b c value (Some s)
  missing : (Points m.points a b c → ⊥) → ScoredAs us vs m a b c value None
