-- What the removals of a whole call promise. Assumes nothing.
use Rattle.std.specs.Prelude.{◌≡◌, true, List, ℕ, ◌+◌, ◌*◌, ◌≤◌, length, get_or, Float}
use Rattle.std.specs.Float.{nan}
use Rattle.rule.specs.Grid.{Point, is_finite}
use Rattle.layout.specs.declared.Layout.{Layout}
use Rattle.layout.specs.Points.{PlacedIn}
use Rattle.links.specs.Ring.{Line}
use Rattle.thin.specs.State.{most}

-- the line that the layout's memory has is ps, with a tolerance for it and room for its scores
pub record Given (us vs : List Float) (m : Layout) (t : Float) (ps : List Point) : Type 0 where
  pub size : length ps ≡ m.points
  pub placed : PlacedIn us vs m ps
  pub finite : is_finite t ≡ true
  pub fits : most m ≤ m.capacity

-- Every removal was made: the links are those of what the rule keeps of the points. Nothing past the layout's runs changed.
pub record Ran (rule : List Point → Float → List ℕ) (us vs : List Float) (fs : List Float) (ws : List ℕ) (m : Layout) (t : Float) (fs' : List Float) (ws' : List ℕ) : Type 0 where
  pub floats : (i : ℕ) → m.capacity ≤ i → get_or fs' i nan ≡ get_or fs i nan
  pub words : (i : ℕ) → m.links + 3 * m.points ≤ i → get_or ws' i 0 ≡ get_or ws i 0
  pub kept : (ps : List Point) → Given us vs m t ps → Line ws' m (rule ps t)
