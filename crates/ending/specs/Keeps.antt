-- How a call that thins ends. Assumes nothing.
use Rattle.std.specs.Prelude.{◌≡◌, List, ℕ, length}
use Rattle.rule.specs.Whole.{Lent, thinned}

-- ks are listed, so many, and the scratch of n points is zeros
pub record Keeps (n : ℕ) (ks : List ℕ) (m : Lent) (r : ℕ) (m' : Lent) : Type 0 where
  pub count : r ≡ length ks
  pub left : m' ≡ thinned n ks m
