-- The heap order of the first n places, over any order, and a place set anew. Assumes nothing.
use Rattle.std.specs.Prelude.{Bool, true, false, cond, ℕ, zero, suc, ◌+◌, ◌-◌, ◌/◌, ◌<◌, eqb}
use Rattle.scores.specs.Children.{children}

abbrev pub parent : ℕ → ℕ
parent k = (k - 1) / children

-- h with a at j
unfoldable pub upd : {A : Type 0} → (ℕ → A) → ℕ → A → ℕ → A
upd h j a k = cond (eqb k j) a (h k)

-- no place of the first n is before its parent
abbrev pub HeapBy : {A : Type 0} → (A → A → Type 0) → ℕ → (ℕ → A) → Type 0
HeapBy le n h = (k : ℕ) → 0 < k → k < n → le (h (parent k)) (h k)

abbrev pub tick : Bool → ℕ
tick true = 1
tick false = 0

-- how many of the first n places pass the test q
unfoldable pub count : {A : Type 0} → (A → Bool) → ℕ → (ℕ → A) → ℕ
count q zero h = 0
count q (suc n) h = tick (q (h n)) + count q n h
