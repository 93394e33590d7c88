-- The ring table that cuts points into rings. Assumes nothing.
use Rattle.std.specs.Prelude.{◌≡◌, true, List, ℕ}
use Rattle.rule.specs.Rings.{rises, last_or}

-- the table cuts n points into rings
pub record Cuts (n : ℕ) (ends : List ℕ) : Type 0 where
  pub rise : rises 0 ends ≡ true
  pub last : last_or 0 ends ≡ n
