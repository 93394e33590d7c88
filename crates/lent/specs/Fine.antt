-- What the reasons leave: what the code behind the tests may rely on. Assumes nothing.
use Rattle.std.specs.Prelude.{◌≡◌, true, List, ℕ, ◌≤◌, ◌<◌, length, get_or, Float}
use Rattle.std.specs.Float.{nan}
use Rattle.rule.specs.Sizes.{most_points, scratch_floats, scratch_words}
use Rattle.rule.specs.Grid.{is_finite}
use Rattle.rule.specs.Whole.{Lent}
use Rattle.grid.specs.On.{On}

-- points that 1, 2 and 3 leave
pub record Fine (us vs : List Float) : Type 0 where
  pub level : length us ≡ length vs
  pub few : length us ≤ most_points
  pub on : (i : ℕ) → i < length us → On (get_or us i nan) (get_or vs i nan)

-- a line to be thinned, with its tolerance, output and scratch, that 1, 2, 4, 3, 7 and 8 leave
pub record Ready (us vs : List Float) (t : Float) (m : Lent) : Type 0 where
  pub fine : Fine us vs
  pub finite : is_finite t ≡ true
  pub room : length us ≤ length m.out
  pub floats : scratch_floats (length us) ≤ length m.floats
  pub words : scratch_words (length us) ≤ length m.words
