-- What the parts of a whole call promise. Assumes nothing.
use Rattle.std.specs.Prelude.{◌≡◌, List, ℕ, ◌≤◌, length, Float}
use Rattle.rule.specs.Grid.{points}
use Rattle.rule.specs.Rings.{joined, ends_from, polygon_rule}
use Rattle.rule.specs.Whole.{over, LentRings}
use Rattle.lent.specs.Fine.{Ready}
use Rattle.ending.specs.Keeps.{Keeps}
use Rattle.ring_reasons.specs.Table.{Cuts}

-- a polygon to be thinned that no reason leaves out
pub record ReadyRings (us vs : List Float) (t : Float) (table : List ℕ) (m : LentRings) : Type 0 where
  pub line : Ready us vs t m.line
  pub cuts : Cuts (length us) table
  pub room : length table ≤ length m.ring_out

-- what the rule keeps of each ring is listed, so many, with its ring table
pub record KeepsRings (us vs : List Float) (t : Float) (table : List ℕ) (m : LentRings) (r : ℕ) (m' : LentRings) : Type 0 where
  pub line : Keeps (length us) (joined (polygon_rule (points us vs) t table)) m.line r m'.line
  pub ends : m'.ring_out ≡ over (ends_from 0 (polygon_rule (points us vs) t table)) m.ring_out
