-- What all rings promise. Assumes nothing.
use Rattle.std.specs.Prelude.{◌≡◌, true, List, ℕ, ◌+◌, ◌*◌, ◌≤◌, ◌<◌, length, get_or, Float}
use Rattle.rule.specs.Grid.{Point, is_finite}
use Rattle.rule.specs.Preserve.{Minima, preserve}
use Rattle.rule.specs.Rings.{rings_from}
use Rattle.layout.specs.declared.Layout.{Layout}
use Rattle.layout.specs.Points.{PlacedIn}
use Rattle.links.specs.Words.{mark_at}
use Rattle.links.specs.Ring.{kept_from, Rings}
use Rattle.blocks.specs.Boxes.{behind_end}
use Rattle.thin.specs.State.{most}
use Rattle.thin_ring.specs.State.{Outside}

-- every point of every ring is kept
pub record LinkedAll (ws : List ℕ) (m : Layout) (ends : List ℕ) (ws' : List ℕ) : Type 0 where
  pub rings : Rings ws' m 0 m.points ends (rings_from 0 ends)
  pub before : (i : ℕ) → i < m.links → get_or ws' i 0 ≡ get_or ws i 0
  pub after : (i : ℕ) → m.links + 3 * m.points ≤ i → get_or ws' i 0 ≡ get_or ws i 0

-- the links are those of what the rule keeps of each ring
pub record Wrapped (us vs fs : List Float) (ws : List ℕ) (m : Layout) (ends : List ℕ) (q : Minima) (t : Float) (fs' : List Float) (ws' : List ℕ) : Type 0 where
  pub frame : Outside (behind_end m) fs ws m fs' ws'
  pub rings : (ps : List Point) → PlacedIn us vs m ps → is_finite t ≡ true → most m ≤ m.capacity → Rings ws' m 0 m.points ends (preserve ps t q (rings_from 0 ends))

-- how many points below hi have no mark
abbrev pub count_below : List ℕ → Layout → ℕ → ℕ
count_below ws m hi = length (kept_from (mark_at ws m) 0 hi)
