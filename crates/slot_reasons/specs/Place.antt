-- What the tests of the area and of a slot's number answer. Assumes nothing.
use Rattle.std.specs.Prelude.{[], ◌∷◌, ℕ}
use Rattle.rule.specs.Area.{Area}
use Rattle.rule.specs.Reasons.{first_of, area_short, no_such_slot}

-- of any call on slot k: 8, 9
abbrev pub place_reason : ℕ → Area → ℕ
place_reason k a = first_of (area_short a ∷ no_such_slot k ∷ [])
