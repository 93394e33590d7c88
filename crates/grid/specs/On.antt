-- A point whose two coordinates are on the grid. Assumes nothing.
use Rattle.std.specs.Prelude.{T, Float}
use Rattle.rule.specs.Grid.{on_grid}

pub record On (u v : Float) : Type 0 where
  pub x : T (on_grid u)
  pub y : T (on_grid v)
