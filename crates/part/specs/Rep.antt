-- What an open slot's part of the work area holds. It sees nothing but the part. Assumes nothing.
use Rattle.std.specs.Prelude.{◌≡◌, true, List, ℕ, ◌*◌, ◌-◌, ◌≤◌, length, get_or, Float}
use Rattle.std.specs.Float.{nan}
use Rattle.rule.specs.Sizes.{most_points, slot_floats, slot_words}
use Rattle.rule.specs.Grid.{Point, is_finite}
use Rattle.rule.specs.Area.{Area, is_open}
use Rattle.layout.specs.Layout.{slot_of}
use Rattle.layout.specs.Points.{PlacedIn}
use Rattle.thin.specs.Plain.{LineRep}

-- where the tolerance stands: the last place before the coordinates
abbrev pub tolerance_at : ℕ
tolerance_at = 3 * most_points - 1

-- The points ps and the tolerance t, with the points ks left. Header words: 0 open, 1 the number of points, 2 the number of scores.
pub record Rep (p : Area) (ps : List Point) (t : Float) (ks : List ℕ) : Type 0 where
  pub floats : length p.floats ≡ slot_floats
  pub words : length p.words ≡ slot_words
  pub opened : is_open p ≡ true
  pub number : get_or p.words 1 0 ≡ length ps
  pub few : length ps ≤ most_points
  pub tolerance : get_or p.floats tolerance_at nan ≡ t
  pub finite : is_finite t ≡ true
  pub placed : PlacedIn p.floats p.floats (slot_of (length ps)) ps
  pub state : LineRep ps ks p.floats p.words (slot_of (length ps)) (get_or p.words 2 0)
