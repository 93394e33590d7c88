-- A float outside the range is off the grid; one inside, with 1.5 * 2^52 added and taken off again, is itself exactly if it is on the grid.
-- Assumes nothing.
use mathlib.Core.Path.{◌≡◌, refl, sym, ap, ◌∙◌, subst}
use mathlib.Core.Bool.{Bool, true, false, ◌&&◌, and-true, and-false, false≢true}
use Prim.Native.Nat.{ℕ, suc, ◌+◌, ◌*◌, ◌-◌, ◌/◌, ◌%◌, ◌^◌, ◌≤◌, ◌<◌, compare}
use native.Mathlib.Nat.{mul-one, mul_right_comm, mul_comm, mul_assoc, mul-pos, mul-le-mul_right, mul-lt-mul_of_pos_right, eq_of_mul-eq-mul_right, le_trans, le_of_eq, lt_trans, lt_of_lt_of_le, lt_of_le_of_lt, lt_of_not-le, not-le_of_lt, div-add-mod', mul-mod_left, div-lt_iff_lt-mul, le-div_iff_mul-le}
use native.Mathlib.Omega.{arith}
use lib.Dec.{T, leb, eqb, eqb→eq, lit<, lit≤}
use lib.Pow.{pow_mono, pow_pos, shl_lt}
use lib.IntN.{ℤ, pos, negsuc, neg_ℤ, ◌-ℤ◌, +ℤ-neg_ℤ_cancel}
use lib.Ieee.{Float, nan, inf, fin, binary64, up, down, round, neg, sum, add, sub, lt, eq}
use lib.Ieee.{size as digits}
use lib.Ieee.Digits.{size-lt, size-le}
use lib.Ieee.Exact.{HasValue}
use lib.Ieee.Fits.{down_pos, nearest-le, and_l}
use lib.Ieee.Nearest.{closest, closest_same}
use lib.Ieee.Scale.{grid, round_val}
use borrow.Author.Tests.{ltb-true, ltb-false, lt-ltb, leb-true, le-leb, lt-leb, eqb-true, eq-eqb}
use Rattle.rule.specs.Sizes.{reach}
use Rattle.rule.specs.Grid.{signed, on_grid, coord}
use Rattle.rule.specs.Segment.{sameℤ}
use Rattle.grid.proofs.Signs.{less_down}
use Rattle.grid.proofs.Values.{alike, eq_values}
use Rattle.grid.proofs.Whole.{Whole, on_grid_lem, sub_mul, add_values, less_is, eq_whole}

-- the ends of the range: 2^24 + 1, either way
abbrev pub high : Float
high = fin false (suc reach) (pos 0)

abbrev pub low : Float
low = fin true (suc reach) (pos 0)

-- ---- the range

beyond : (m : ℕ) (e : ℤ) → suc reach * down e ≤ m * up e * 1 → false ≡ (eqb (m * up e % down e) 0 && leb (m * up e / down e) reach)
beyond m e h =
    let g : suc reach ≤ m * up e / down e = (le-div_iff_mul-le (down_pos e)).1 (omega arith) in
    rw (lt-leb (m * up e / down e) reach (omega arith)) (sym (and-false (eqb (m * up e % down e) 0)))

pub too_high : (v : Float) → lt v high ≡ false → false ≡ on_grid v
unfolding lt on_grid
too_high nan t = refl
too_high (inf s) t = refl
too_high (fin true m e) t = let f : ⊥ = omega (arith, ltb-false 0 (m * up e * 1 + suc reach * down e) t, down_pos e) in absurd f
too_high (fin false m e) t = beyond m e (ltb-false (m * up e * 1) (suc reach * down e) t)

pub too_low : (v : Float) → lt low v ≡ false → false ≡ on_grid v
unfolding lt on_grid
too_low nan t = refl
too_low (inf s) t = refl
too_low (fin false m e) t = let f : ⊥ = omega (arith, ltb-false 0 (suc reach * down e + m * up e * 1) t, down_pos e) in absurd f
too_low (fin true m e) t = beyond m e (ltb-false (m * up e * 1) (suc reach * down e) t)

-- ---- a fraction from 2^52 to 2^53 is rounded to a whole number

closest_whole : (n : ℕ) → closest n 1 ≡ n
closest_whole n = let a : n / 1 ≡ n = omega arith in let b : n % 1 ≡ 0 = omega arith in rw (a, b)

-- from units of 2^-1074 to whole numbers
unscaled : (x : Float) (s : Bool) (q l : ℕ) → 0 < l → HasValue x s (q * l) l → HasValue x s q 1
unscaled nan s q l L v = v
unscaled (inf t) s q l L v = v
unscaled (fin t m e) s q l L v = (v.0, eq_of_mul-eq-mul_right l L (m * up e * 1) (q * down e) (omega (arith, v.1)))

module _ (a d : ℕ) (D : 0 < d) (lo : 2 ^ 52 * d ≤ a) (hi : a < 2 ^ 53 * d) where
  closest_le : closest a d ≤ 2 ^ 53
  closest_le = le_trans (nearest-le (a / d) (compare (a % d * 2) d)) ((div-lt_iff_lt-mul D).1 hi)

  -- a / d in units of 2^-1074 has 53 digits and 1074 more
  dropped : digits (a * 2 ^ 1074 / d) - 53 ≡ 1074
  dropped =
      let w = a * 2 ^ 1074 / d in
      let l : 2 ^ 1126 ≤ w = (le-div_iff_mul-le D).1 (le_trans (le_of_eq (mul_right_comm (2 ^ 52) (2 ^ 1074) d)) (mul-le-mul_right (2 ^ 1074) lo)) in
      let h : w < 2 ^ 1127 = (div-lt_iff_lt-mul D).1 (lt_of_lt_of_le (mul-lt-mul_of_pos_right hi (pow_pos 1074)) (le_of_eq (mul_right_comm (2 ^ 53) d (2 ^ 1074)))) in
      let g : 1126 < digits w = lt_of_not-le (λ (g : digits w ≤ 1126). not-le_of_lt (lt_of_lt_of_le (size-lt w) (pow_mono g)) l) in
      omega (arith, size-le w 1127 h)

  units_is : grid binary64 a d ≡ closest a d * 2 ^ 1074
  units_is =
      ap (λ (k : ℕ). closest (a * 2 ^ 1074) (d * 2 ^ k) * 2 ^ k) dropped
      ∙ ap (λ (q : ℕ). q * 2 ^ 1074)
      (closest_same (a * 2 ^ 1074) (d * 2 ^ 1074) a d (mul-pos D (pow_pos 1074)) D (mul_assoc a (2 ^ 1074) d ∙ ap (λ (z : ℕ). a * z) (mul_comm (2 ^ 1074) d)))

  rounded : HasValue (round binary64 false a d) false (closest a d) 1
  rounded =
      unscaled (round binary64 false a d) false (closest a d) (2 ^ 1074) (pow_pos 1074)
      (subst (λ (n : ℕ). HasValue (round binary64 false a d) false n (2 ^ 1074)) units_is
      (round_val binary64 a d
      (subst (λ (n : ℕ). n < 2 ^ 2098) (sym units_is) (lt_trans (shl_lt 54 1074 (lt_of_le_of_lt closest_le (lit< tt))) (lit< tt)))))

-- ---- there and back

-- 1.5 * 2^52
abbrev mid : ℕ
mid = 3 * 2 ^ 51

abbrev shift : Float
shift = fin false 3 (pos 51)

abbrev pub shifted : Float → Float
shifted v = sub binary64 (add binary64 v shift) shift

-- mid with a / d added, or taken off where it is negative, times d
total : Bool → ℕ → ℕ → ℕ
total false a d = a + mid * d
total true a d = mid * d - a

total_whole : (s : Bool) (w d : ℕ) → total s (w * d) d * 1 ≡ total s w 1 * d
unfolding total
total_whole false w d = omega arith
total_whole true w d = mul-one (mid * d - w * d) ∙ sub_mul mid w d

total_less : (s : Bool) (w : ℕ) → w ≤ reach → pos (total s w 1) -ℤ pos mid ≡ signed s w
unfolding total
total_less false w h = +ℤ-neg_ℤ_cancel (pos w) (pos mid)
total_less true w h =
    let i : mid - (mid - w) ≡ w = omega arith in
    less_down (mid - w) mid (omega arith) ∙ ap (λ (n : ℕ). neg_ℤ (pos n)) i

same_self : (z : ℤ) → sameℤ z z ≡ true
unfolding sameℤ
same_self (pos n) = eq-eqb n n refl
same_self (negsuc n) = eq-eqb n n refl

total_within : (s : Bool) (a d : ℕ) → a * 1 < suc reach * d → (2 ^ 52 * d ≤ total s a d) × (total s a d < 2 ^ 53 * d)
unfolding total
total_within false a d h = (omega arith, omega arith)
total_within true a d h = (omega arith, omega arith)

shift_added : (s : Bool) (m : ℕ) (e : ℤ) → m * up e * 1 < suc reach * down e → add binary64 (fin s m e) shift ≡ round binary64 false (total s (m * up e) (down e)) (down e)
unfolding add sum total
shift_added false m e h = rw (mul-one (m * up e), mul-one (down e))
shift_added true m e h = rw (mul-one (m * up e), mul-one (down e), lt-ltb (m * up e) (mid * down e) (omega arith))

module _ (s : Bool) (m : ℕ) (e : ℤ) (h : m * up e * 1 < suc reach * down e) where
  abbrev v : Float
  v = fin s m e

  abbrev a : ℕ
  a = m * up e

  abbrev d : ℕ
  d = down e

  abbrev q : ℕ
  q = closest (total s a d) d

  there : add binary64 v shift ≡ round binary64 false (total s a d) d
  there = shift_added s m e h

  ends : (2 ^ 52 * d ≤ total s a d) × (total s a d < 2 ^ 53 * d)
  ends = total_within s a d h

  -- what comes back is whole, v on the grid or not
  again : Whole (shifted v) (pos q -ℤ pos mid) (2 ^ 53)
  unfolding sub neg
  again =
      let n = total s a d in
      let i = down_pos e in
      rw (there, add_values (round binary64 false n d) (neg shift) false true q mid (rounded n d i ends.0 ends.1) (refl, refl))
      (less_is q mid (2 ^ 53) (closest_le n d i ends.0 ends.1) (lit≤ tt) (lit≤ tt))

  in_reach : leb (a / d) reach ≡ true
  in_reach = let g : a / d < suc reach = (div-lt_iff_lt-mul (down_pos e)).1 (omega arith) in le-leb (a / d) reach (omega arith)

  inside : eq (shifted v) v ≡ on_grid v
  unfolding on_grid coord
  inside = rw (in_reach, and-true (eqb (a % d) 0)) (alike (eq (shifted v) v) (eqb (a % d) 0) only itself)
    where
      only : eq (shifted v) v ≡ true → eqb (a % d) 0 ≡ true
      only g =
          let w = again in
          let i = eq_values w.sign s w.size 1 a d (lit< tt) (down_pos e) (shifted v) v w.value (refl, refl) in
          let j = eqb→eq (w.size * d) (a * 1) (and_l (eqb (w.size * d) (a * 1)) _ (subst T (sym g ∙ i) tt)) in
          eq-eqb (a % d) 0 (ap (λ (z : ℕ). z % d) (sym (j ∙ mul-one a)) ∙ mul-mod_left w.size d)

      itself : eqb (a % d) 0 ≡ true → eq (shifted v) v ≡ true
      itself g =
          let w = a / d in
          let n = total s w 1 in
          let i : a ≡ w * d = omega (arith, eqb-true (a % d) 0 g, div-add-mod' a d) in
          let j : q ≡ n = closest_same (total s a d) d n 1 (down_pos e) (lit< tt) (ap (λ (z : ℕ). total s z d * 1) i ∙ total_whole s w d) ∙ closest_whole n in
          eq_whole again (on_grid_lem v (rw (g, in_reach) tt))
          ∙ ap (λ (z : ℤ). sameℤ z (signed s w)) (ap (λ (z : ℕ). pos z -ℤ pos mid) j ∙ total_less s w (leb-true w reach in_reach)) ∙ same_self (signed s w)

pub back : (v : Float) → lt v high ≡ true → lt low v ≡ true → eq (shifted v) v ≡ on_grid v
unfolding lt
back nan h k = absurd (false≢true h)
back (inf true) h k = absurd (false≢true k)
back (inf false) h k = absurd (false≢true h)
back (fin false m e) h k = inside false m e (ltb-true (m * up e * 1) (suc reach * down e) h)
back (fin true m e) h k = inside true m e (ltb-true (m * up e * 1) (suc reach * down e) k)
