-- How often a number stands in a list. Assumes nothing.
use Rattle.std.specs.Prelude.{Bool, true, false, List, [], ◌∷◌, ℕ, ◌+◌, eqb}

abbrev pub tick : Bool → ℕ
tick true = 1
tick false = 0

abbrev pub times : ℕ → List ℕ → ℕ
times x [] = 0
times x (k ∷ ks) = tick (eqb x k) + times x ks
