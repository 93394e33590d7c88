-- The cross product of three points on the grid, worked out in f64, is their turn. The largest doubled area is 2^50. Assumes nothing.
use mathlib.Core.Path.{◌≡◌, refl, sym, ap, ◌∙◌}
use mathlib.Core.Bool.{Bool, true, false}
use mathlib.Core.List.{[], ◌∷◌}
use Prim.Native.Nat.{ℕ, ◌+◌, ◌*◌, ◌-◌, ◌^◌, ◌≤◌, ◌<◌}
use native.Mathlib.Nat.{mul-le-mul_left, mul-le-mul_right, le_of_lt}
use native.Mathlib.Omega.{arith}
use lib.Dec.{leb, lit≤}
use lib.IntN.{ℤ, pos, neg_ℤ, nat_abs, ◌-ℤ◌, +ℤ-neg_ℤ_cancel}
use lib.Ieee.{Float}
use borrow.Author.Tests.{leb-true, leb-false}
use Rattle.ring.proofs.Ring.{E, v, ◌⊕◌, ◌⊖◌, ◌⊗◌, ring}
use Rattle.rule.specs.Sizes.{reach}
use Rattle.rule.specs.Grid.{Point, signed, point_of, turn, area2}
use Rattle.grid.specs.On.{On}
use Rattle.grid.specs.Cross.{cross}
use Rattle.grid.proofs.Signs.{abs_signed, less_up, less_down}
use Rattle.grid.proofs.Whole.{Whole, on_grid_lem, sub_whole, mul_whole}

pub turn_is : {ax ay bx by cx cy : Float} → On ax ay → On bx by → On cx cy
    → Whole (cross ax ay bx by cx cy) (turn (point_of ax ay) (point_of bx by) (point_of cx cy)) (2 ^ 51)
unfolding turn
turn_is {ax} {ay} {bx} {by} {cx} {cy} a b c =
    sub_whole
    (mul_whole (sub_whole (on_grid_lem bx b.x) (on_grid_lem ax a.x) (lit≤ tt)) (sub_whole (on_grid_lem cy c.y) (on_grid_lem ay a.y) (lit≤ tt)) (lit≤ tt))
    (mul_whole (sub_whole (on_grid_lem by b.y) (on_grid_lem ay a.y) (lit≤ tt)) (sub_whole (on_grid_lem cx c.x) (on_grid_lem ax a.x) (lit≤ tt)) (lit≤ tt))
    (lit≤ tt)

-- ---- the largest area: a triangle in a box has at most half of its area

-- a whole number counted from -k
record From (k : ℕ) (z : ℤ) : Type 0 where
  n : ℕ
  is : z ≡ pos n -ℤ pos k
  bound : n ≤ k + k

from : {x : Float} {z : ℤ} {k : ℕ} → Whole x z k → From k z
from {x} {z} {k} w = go w.sign w.size w.is w.bound
  where
    go : (s : Bool) (n : ℕ) → signed s n ≡ z → n ≤ k → From k z
    go false n e h = record { n = n + k; is = sym e ∙ sym (+ℤ-neg_ℤ_cancel (pos n) (pos k)); bound = omega arith }
    go true n e h =
        let l : k - n ≤ k = omega arith in
        let g : k - (k - n) ≡ n = omega arith in
        record { n = k - n; is = sym e ∙ sym (less_down (k - n) k l ∙ ap (λ (m : ℕ). neg_ℤ (pos m)) g); bound = omega arith }

abs_within : (p q k : ℕ) → p ≤ q + k → q ≤ p + k → nat_abs (pos p -ℤ pos q) ≤ k
abs_within p q k h g = go (leb p q) (leb-true p q) (leb-false p q)
  where
    go : (b : Bool) → (b ≡ true → p ≤ q) → (b ≡ false → q < p) → nat_abs (pos p -ℤ pos q) ≤ k
    go true f l = rw (less_down p q (f refl), abs_signed true (q - p)) (omega arith)
    go false f l = rw (less_up p q (le_of_lt (l refl))) (omega arith)

-- x * (p - q) is at most w * (p - q) where it is not negative
part : (x p q w : ℕ) → x ≤ w → x * p ≤ x * q + w * (p - q)
part x p q w h =
    let l : p ≤ q + (p - q) = omega arith in
    omega (arith, mul-le-mul_left x l, mul-le-mul_right (p - q) h)

-- the products of the turn with a plus against those with a minus: the three differences come to at most w
in_box : (ax ay bx by cx cy w : ℕ) → ax ≤ w → ay ≤ w → bx ≤ w → by ≤ w → cx ≤ w → cy ≤ w
    → bx * cy + ax * by + cx * ay ≤ bx * ay + cx * by + ax * cy + w * w
in_box ax ay bx by cx cy w AX AY BX BY CX CY =
    let s : cy - ay + (by - cy) + (ay - by) ≤ w = omega arith in
    omega (arith, part bx cy ay w BX, part ax by cy w AX, part cx ay by w CX, mul-le-mul_left w s)

abbrev turn_e : (ax ay bx by cx cy : E) → E
turn_e ax ay bx by cx cy = (bx ⊖ ax) ⊗ (cy ⊖ ay) ⊖ (by ⊖ ay) ⊗ (cx ⊖ ax)

boxed : {k : ℕ} {a b c : Point} → From k a.x → From k a.y → From k b.x → From k b.y → From k c.x → From k c.y
    → nat_abs (turn a b c) ≤ (k + k) * (k + k)
unfolding turn
boxed {k} AX AY BX BY CX CY =
    rw (AX.is, AY.is, BX.is, BY.is, CX.is, CY.is)
    (rw (ring (turn_e (v 0 ⊖ v 6) (v 1 ⊖ v 6) (v 2 ⊖ v 6) (v 3 ⊖ v 6) (v 4 ⊖ v 6) (v 5 ⊖ v 6))
    ((v 2 ⊗ v 5 ⊕ v 0 ⊗ v 3 ⊕ v 4 ⊗ v 1) ⊖ (v 2 ⊗ v 1 ⊕ v 4 ⊗ v 3 ⊕ v 0 ⊗ v 5))
    (pos AX.n ∷ pos AY.n ∷ pos BX.n ∷ pos BY.n ∷ pos CX.n ∷ pos CY.n ∷ pos k ∷ []) tt)
    (abs_within _ _ ((k + k) * (k + k))
    (in_box AX.n AY.n BX.n BY.n CX.n CY.n (k + k) AX.bound AY.bound BX.bound BY.bound CX.bound CY.bound)
    (omega (arith, in_box AX.n AY.n CX.n CY.n BX.n BY.n (k + k) AX.bound AY.bound CX.bound CY.bound BX.bound BY.bound))))

pub largest_area : {ax ay bx by cx cy : Float} → On ax ay → On bx by → On cx cy → area2 (point_of ax ay) (point_of bx by) (point_of cx cy) ≤ 2 ^ 50
unfolding area2
largest_area {ax} {ay} {bx} {by} {cx} {cy} a b c =
    boxed (from (on_grid_lem ax a.x)) (from (on_grid_lem ay a.y)) (from (on_grid_lem bx b.x))
    (from (on_grid_lem by b.y)) (from (on_grid_lem cx c.x)) (from (on_grid_lem cy c.y))

-- three corners of the grid have it
pub largest_met : area2 (record { x = neg_ℤ (pos reach); y = neg_ℤ (pos reach) }) (record { x = pos reach; y = neg_ℤ (pos reach) }) (record { x = pos reach; y = pos reach }) ≡ 2 ^ 50
unfolding area2
largest_met = refl
