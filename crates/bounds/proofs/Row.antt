-- Bounds computed at values that an f64 has. It pins the definitions. Assumes nothing.
use mathlib.Core.Path.{◌≡◌, refl}
use mathlib.Core.Bool.{true, false}
use mathlib.Core.List.{[], ◌∷◌, map}
use Prim.Native.Nat.{ℕ, ◌*◌}
use lib.Ieee.{Float, neg, le, lt, eq, odd}
use Rattle.rule.specs.Grid.{half}
use Rattle.bounds.specs.declared.Bounds.{Bounds}
use Rattle.bounds.specs.Bounds.{lesser, greater, of_none, widened, apart}

-- the f64 that is n
abbrev f : ℕ → Float
f n = half (2 * n)

abbrev box : Float → Float → Float → Float → Bounds
box w e s n = record { west = w; east = e; south = s; north = n }

-- of the points -3, 5 and 4, -2
pub widened_row : widened (widened of_none (neg (f 3)) (f 5)) (f 4) (neg (f 2)) ≡ box (neg (f 3)) (f 4) (neg (f 2)) (f 5)
unfolding widened lesser greater of_none half odd neg le lt eq
widened_row = refl

-- from the bounds 2, 4, 2, 4: those that touch a side or a corner, lie within, or lie around; those past each side; those of no point
pub apart_row : map (apart (box (f 2) (f 4) (f 2) (f 4)))
    (box (f 4) (f 6) (f 2) (f 4) ∷ box (f 0) (f 2) (f 2) (f 4) ∷ box (f 2) (f 4) (f 4) (f 6) ∷ box (f 4) (f 6) (f 0) (f 2)
    ∷ box (f 3) (f 3) (f 3) (f 3) ∷ box (f 0) (f 6) (f 0) (f 6)
    ∷ box (f 5) (f 6) (f 2) (f 4) ∷ box (f 0) (f 1) (f 2) (f 4) ∷ box (f 2) (f 4) (f 5) (f 6) ∷ box (f 2) (f 4) (f 0) (f 1)
    ∷ of_none ∷ [])
    ≡ false ∷ false ∷ false ∷ false ∷ false ∷ false ∷ true ∷ true ∷ true ∷ true ∷ true ∷ []
unfolding apart of_none half odd neg le lt eq
apart_row = refl
