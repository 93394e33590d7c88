-- The order of scores of a scale. Assumes nothing.
use Rattle.std.specs.Prelude.{◌≡◌, ◌⊎◌, ◌≤◌, ◌<◌}
use Rattle.vscore.specs.declared.VScore.{VScore}
use Rattle.vscore.specs.Scale.{Scale}

-- the area stands for a score of the scale
abbrev pub Proper : Scale → VScore → Type 0
Proper σ s = s.area ≡ σ.value (σ.key s.area)

-- a is not after b: the key, then the index
abbrev pub Le : Scale → VScore → VScore → Type 0
Le σ a b = (σ.key a.area < σ.key b.area) ⊎ ((σ.key a.area ≡ σ.key b.area) × (a.current ≤ b.current))
