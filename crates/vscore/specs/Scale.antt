-- A scale of areas: the f64 that stands for each score of the rule. Scores of the plain rule are doubled areas; those of the preserving rule
-- are 0 for a demoted candidate and one more than the doubled area otherwise. Assumes nothing.
use Rattle.std.specs.Prelude.{◌≡◌, true, false, ℕ, zero, suc, ◌*◌, ◌/◌, ltb, eqb, Float}
use Rattle.std.specs.Float.{nan, inf, fin}
use Rattle.std.specs.Float.Ieee.{up, down, neg, lt, eq}
use Rattle.rule.specs.Grid.{half}

pub record Scale : Type 0 where
  pub value : ℕ → Float
  pub key : Float → ℕ

-- the order of the floats is that of the scores, and a float tells its score
pub record Faithful (σ : Scale) : Type 0 where
  pub back : (n : ℕ) → σ.key (σ.value n) ≡ n
  pub less : (m n : ℕ) → lt (σ.value m) (σ.value n) ≡ ltb m n
  pub level : (m n : ℕ) → eq (σ.value m) (σ.value n) ≡ eqb m n

-- ---- the plain rule's

-- twice the area, of one that is a whole number of halves
unfoldable pub doubled : Float → ℕ
doubled nan = 0
doubled (inf s) = 0
doubled (fin s m e) = m * up e * 2 / down e

abbrev pub halves : Scale
halves = record { value = half; key = doubled }

-- ---- the preserving rule's, for a tolerance above zero

-- minus the tolerance for 0, half of d for d + 1
abbrev pub lowered : Float → ℕ → Float
lowered t zero = neg t
lowered t (suc d) = half d

-- 0 for what is negative, one more than twice the area otherwise
unfoldable pub rank : Float → ℕ
rank nan = 0
rank (inf s) = 0
rank (fin true m e) = 0
rank (fin false m e) = suc (m * up e * 2 / down e)

abbrev pub demotable : Float → Scale
demotable t = record { value = lowered t; key = rank }
