-- Halves in f64: `half d` is the f64 of the value d / 2. Halves compare as their numbers do, and with the tolerance by its exact value.
-- Assumes nothing.
use mathlib.Core.Path.{◌≡◌, refl, sym, ap, ◌∙◌, subst}
use mathlib.Core.Bool.{Bool, true, false, not, cond, ◌&&◌, and-true, true≢false, false≢true}
use Prim.Native.Nat.{ℕ, zero, suc, ◌+◌, ◌*◌, ◌-◌, ◌/◌, ◌^◌, ◌≤◌, ◌<◌}
use native.Mathlib.Nat.{mul-one, mul_assoc, mul_comm, mul_right_comm, mul-pos, lt_trans, le_trans, lt_of_le_of_lt, zero-lt-suc, eq_of_mul-eq-mul_right}
use native.Mathlib.Omega.{arith}
use lib.Dec.{T, ltb, leb, eqb, lit<, lit≤, eqb-suc-zero}
use lib.Count.{count_trailing_zeros}
use lib.Pow.{shl_lt}
use lib.IntN.{ℤ, pos, negsuc}
use lib.Ieee.{Float, nan, inf, fin, Format, binary64, prec, low, hid, top, up, down, minus, odd, round, fits, of_bits, to_bits, below, mul, lt, eq}
use lib.Ieee.{size as digits}
use lib.Ieee.Bits.{of_bits-to_bits}
use lib.Ieee.Nearest.{div_same}
use lib.Ieee.Exact.{HasValue, odd_sign, round_exact}
use lib.Ieee.Fits.{up_pos, down_pos, odd-fits, round-fits}
use lib.Ieee.Scale.{round_same}
use borrow.Author.Tests.{leb-true, leb-false, lt-ltb, le-ltb, le-leb}
use Rattle.rule.specs.Grid.{half, is_finite, within}
use Rattle.rule.specs.Area.{zero_float}
use Rattle.grid.proofs.Values.{below_scaled, level_scaled, lt_values, eq_values}

-- ---- the value

-- exactly, for every d
pub half_value : (d : ℕ) → HasValue (half d) false d 2
unfolding half
half_value d = subst (λ (x : ℕ). HasValue (odd 64 false d 0 1) false x 2) (mul-one d) (odd_sign 64 false d 0 1)

pub half_zero : half 0 ≡ zero_float
unfolding half odd
half_zero = refl

lower : (t : ℕ) → minus (0 + t) 1 ≡ minus (1073 + t) 1074
lower zero = refl
lower (suc t) =
    let a : 0 + suc t - 1 ≡ 1073 + suc t - 1074 = omega arith in
    simp (le-leb 1 (0 + suc t) (omega arith), le-leb 1074 (1073 + suc t) (omega arith)) (ap pos a)

half_fits : (d : ℕ) → d ≤ 2 ^ 52 → T (fits binary64 (half d))
unfolding half odd
half_fits d h =
    subst (λ (x : Float). T (fits binary64 x)) (sym (go d))
    (odd-fits binary64 64 false d 1073 (lt_of_le_of_lt h (lit< tt)) (le_trans h (lit≤ tt)) (lt_trans (shl_lt 53 1073 (lt_of_le_of_lt h (lit< tt))) (lit< tt)))
  where
    go : (n : ℕ) → odd 64 false n 0 1 ≡ odd 64 false n 1073 1074
    go zero = refl
    go (suc n) = ap (λ (e : ℤ). fin false (suc n / 2 ^ count_trailing_zeros 64 (suc n)) e) (lower (count_trailing_zeros 64 (suc n)))

-- two floats of a format with one value have the same bits, so they are one
unique : (f : Format) (x y : Float) (s : Bool) (a c : ℕ) → 0 < c → T (fits f x) → T (fits f y) → HasValue x s a c → HasValue y s a c → x ≡ y
unfolding to_bits
unique f nan y s a c C p q v w = absurd v
unique f (inf t) y s a c C p q v w = absurd v
unique f (fin t m e) nan s a c C p q v w = absurd w
unique f (fin t m e) (inf u) s a c C p q v w = absurd w
unique f (fin t m e) (fin u n d) s a c C p q v w = sym (of_bits-to_bits f (fin t m e) p) ∙ ap (of_bits f) same ∙ of_bits-to_bits f (fin u n d) q
  where
    crossed : m * up e * down d ≡ n * up d * down e
    crossed = eq_of_mul-eq-mul_right c C (m * up e * down d) (n * up d * down e)
        (omega (arith, ap (λ (x : ℕ). x * down d) v.1, ap (λ (x : ℕ). x * down e) w.1))

    size_same : m * up e * 2 ^ low f / down e ≡ n * up d * 2 ^ low f / down d
    size_same = div_same (m * up e * 2 ^ low f) (down e) (n * up d * 2 ^ low f) (down d) (down_pos e) (down_pos d)
        (mul_right_comm (m * up e) (2 ^ low f) (down d) ∙ ap (λ (x : ℕ). x * 2 ^ low f) crossed ∙ mul_right_comm (n * up d) (down e) (2 ^ low f))

    same : to_bits f (fin t m e) ≡ to_bits f (fin u n d)
    same =
        ap (λ (b : Bool). to_bits f (fin b m e)) (v.0 ∙ sym w.0)
        ∙ ap (λ (k : ℕ). cond u (top f) 0 + (digits k - prec f) * hid f + k / 2 ^ (digits k - prec f)) size_same

-- no other f64 has that value
pub half_only : (x : Float) (d : ℕ) → d ≤ 2 ^ 52 → T (fits binary64 x) → HasValue x false d 2 → x ≡ half d
half_only x d h f v = unique binary64 x (half d) false d 2 (lit< tt) f (half_fits d h) v (half_value d)

-- 0.5
abbrev pub f½ : Float
f½ = fin false 1 (negsuc 0)

-- half of a whole number that is not negative
pub halved : (x : Float) (n : ℕ) → n ≤ 2 ^ 52 → HasValue x false n 1 → mul binary64 x f½ ≡ half n
unfolding mul
halved nan n h v = absurd v
halved (inf s) n h v = absurd v
halved (fin true m e) n h v = absurd (true≢false v.0)
halved (fin false m e) n h v =
    let l : n < 2 ^ 53 = lt_of_le_of_lt h (lit< tt) in
    round_same binary64 false (m * up e * 1) (down e * 2) n 2 (mul-pos (down_pos e) (lit< tt)) (lit< tt) (ap (λ (k : ℕ). k * 2) v.1 ∙ mul_assoc n (down e) 2)
    ∙ half_only (round binary64 false n 2) n h (round-fits binary64 false n 2)
    (round_exact binary64 false n 2 n 1073 (lit< tt) l (lt_trans (shl_lt 53 1073 l) (lit< tt)) (sym (mul_assoc n (2 ^ 1073) 2)))

-- ---- order

pub lt_halves : (m n : ℕ) → lt (half m) (half n) ≡ ltb m n
lt_halves m n = lt_values false false m 2 n 2 (lit< tt) (lit< tt) (half m) (half n) (half_value m) (half_value n) ∙ below_scaled false false m n 2 (lit< tt)

pub eq_halves : (m n : ℕ) → eq (half m) (half n) ≡ eqb m n
eq_halves m n =
    eq_values false false m 2 n 2 (lit< tt) (lit< tt) (half m) (half n) (half_value m) (half_value n) ∙ level_scaled false false m n 2 (lit< tt) ∙ and-true (eqb m n)

-- ---- the tolerance

lt_half : (s : Bool) (m : ℕ) (e : ℤ) (d : ℕ) → lt (fin s m e) (half d) ≡ below s (m * up e * 2) false (d * down e)
lt_half s m e d = lt_values s false (m * up e) (down e) d 2 (down_pos e) (lit< tt) (fin s m e) (half d) (refl, refl) (half_value d)

not_leb : (a b : ℕ) → ltb a b ≡ not (leb b a)
not_leb a b = go (leb b a) (leb-true b a) (leb-false b a)
  where
    go : (t : Bool) → (t ≡ true → b ≤ a) → (t ≡ false → a < b) → ltb a b ≡ not t
    go true f g = le-ltb a b (f refl)
    go false f g = lt-ltb a b (g refl)

not_zeros : (d m u w : ℕ) → 0 < u → 0 < w → ltb 0 (m * u * 2 + d * w) ≡ not (eqb d 0 && eqb m 0)
not_zeros zero zero u w U W = le-ltb 0 (0 * u * 2 + 0 * w) (omega arith)
not_zeros zero (suc m) u w U W = rw (eqb-suc-zero m) (lt-ltb 0 (suc m * u * 2 + 0 * w) (omega (arith, mul-pos (zero-lt-suc m) U)))
not_zeros (suc d) m u w U W = rw (eqb-suc-zero d) (lt-ltb 0 (m * u * 2 + suc d * w) (omega (arith, mul-pos (zero-lt-suc d) W)))

-- an area is above the tolerance exactly if it is not within its exact value
pub above_is : (t : Float) (d : ℕ) → is_finite t ≡ true → lt t (half d) ≡ not (within d t)
unfolding within
above_is nan d h = absurd (false≢true h)
above_is (inf s) d h = absurd (false≢true h)
above_is (fin false m e) d h = rw (mul_comm 2 (m * up e)) (lt_half false m e d ∙ not_leb (m * up e * 2) (d * down e))
above_is (fin true m e) d h = lt_half true m e d ∙ not_zeros d m (up e) (down e) (up_pos e) (down_pos e)
