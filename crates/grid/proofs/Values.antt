-- A comparison of floats sees only their values, a sign and a fraction of two naturals. Assumes nothing.
use mathlib.Core.Path.{◌≡◌, refl, sym, ap, ◌∙◌}
use mathlib.Core.Bool.{Bool, true, false, ◌&&◌, ◌||◌, beq}
use Prim.Native.Nat.{ℕ, ◌+◌, ◌*◌, ◌<◌}
use native.Mathlib.Nat.{zero-mul, add-mul, mul-pos, mul-lt-mul_of_pos_right, lt_of_mul-lt-mul_right, eq_of_mul-eq-mul_right}
use native.Mathlib.Omega.{arith}
use lib.Dec.{ltb, eqb}
use lib.Ieee.{Float, nan, inf, fin, up, down, below, level, lt, eq}
use lib.Ieee.Exact.{HasValue}
use lib.Ieee.Fits.{down_pos}
use borrow.Author.Tests.{ltb-true, lt-ltb, eqb-true, eq-eqb}

-- ---- tests that hold together are one

pub alike : (a b : Bool) → (a ≡ true → b ≡ true) → (b ≡ true → a ≡ true) → a ≡ b
alike true b f g = sym (f refl)
alike false true f g = g refl
alike false false f g = refl

same_lt : (a b c d : ℕ) → (a < b → c < d) → (c < d → a < b) → ltb a b ≡ ltb c d
same_lt a b c d f g = alike (ltb a b) (ltb c d) (λ e. lt-ltb c d (f (ltb-true a b e))) (λ e. lt-ltb a b (g (ltb-true c d e)))

pub same_eq : (a b c d : ℕ) → (a ≡ b → c ≡ d) → (c ≡ d → a ≡ b) → eqb a b ≡ eqb c d
same_eq a b c d f g = alike (eqb a b) (eqb c d) (λ e. eq-eqb c d (f (eqb-true a b e))) (λ e. eq-eqb a b (g (eqb-true c d e)))

-- ---- a common factor

-- a test of two numbers with signs that a common factor does not change
abbrev pub Scaled : (Bool → ℕ → Bool → ℕ → Bool) → Type 0
Scaled R = (s t : Bool) (p q k : ℕ) → 0 < k → R s (p * k) t (q * k) ≡ R s p t q

pub lt_scaled : (p q k : ℕ) → 0 < k → ltb (p * k) (q * k) ≡ ltb p q
lt_scaled p q k h = same_lt (p * k) (q * k) p q (λ l. lt_of_mul-lt-mul_right k l) (λ l. mul-lt-mul_of_pos_right l h)

eq_scaled : (p q k : ℕ) → 0 < k → eqb (p * k) (q * k) ≡ eqb p q
eq_scaled p q k h = same_eq (p * k) (q * k) p q (eq_of_mul-eq-mul_right k h p q) (λ e. ap (λ (x : ℕ). x * k) e)

pub below_scaled : Scaled below
below_scaled false false p q k h = lt_scaled p q k h
below_scaled false true p q k h = refl
below_scaled true false p q k h = ap (λ (x : ℕ). ltb 0 x) (sym (add-mul p q k)) ∙ ap (λ (x : ℕ). ltb x ((p + q) * k)) (sym (zero-mul k)) ∙ lt_scaled 0 (p + q) k h
below_scaled true true p q k h = lt_scaled q p k h

pub level_scaled : Scaled level
level_scaled s t p q k h =
    ap (λ (b : Bool). b && (beq s t || eqb (p * k) 0)) (eq_scaled p q k h)
    ∙ ap (λ (b : Bool). eqb p q && (beq s t || b)) (ap (λ (x : ℕ). eqb (p * k) x) (sym (zero-mul k)) ∙ eq_scaled p 0 k h)

-- ---- values

-- x / e is a / c, and y / g is b / d
values : (R : Bool → ℕ → Bool → ℕ → Bool) → Scaled R → (s t : Bool) (x e a c y g b d : ℕ) → 0 < e → 0 < g → 0 < c → 0 < d
    → x * c ≡ a * e → y * d ≡ b * g → R s (x * g) t (y * e) ≡ R s (a * d) t (b * c)
values R scaled s t x e a c y g b d E G C D v w =
    let l : x * g * (c * d) ≡ a * d * (e * g) = omega (arith, ap (λ (z : ℕ). z * (g * d)) v) in
    let r : y * e * (c * d) ≡ b * c * (e * g) = omega (arith, ap (λ (z : ℕ). z * (e * c)) w) in
    sym (scaled s t (x * g) (y * e) (c * d) (mul-pos C D))
    ∙ ap (λ (z : ℕ). R s z t (y * e * (c * d))) l ∙ ap (λ (z : ℕ). R s (a * d * (e * g)) t z) r
    ∙ scaled s t (a * d) (b * c) (e * g) (mul-pos E G)

module _ (s t : Bool) (a c b d : ℕ) (C : 0 < c) (D : 0 < d) where
  pub lt_values : (x y : Float) → HasValue x s a c → HasValue y t b d → lt x y ≡ below s (a * d) t (b * c)
  unfolding lt
  lt_values nan y v w = absurd v
  lt_values (inf u) y v w = absurd v
  lt_values (fin u m e) nan v w = absurd w
  lt_values (fin u m e) (inf r) v w = absurd w
  lt_values (fin u m e) (fin r n g) v w =
      ap (λ (z : Bool). below z (m * up e * down g) r (n * up g * down e)) v.0 ∙ ap (λ (z : Bool). below s (m * up e * down g) z (n * up g * down e)) w.0
      ∙ values below below_scaled s t (m * up e) (down e) a c (n * up g) (down g) b d (down_pos e) (down_pos g) C D v.1 w.1

  pub eq_values : (x y : Float) → HasValue x s a c → HasValue y t b d → eq x y ≡ level s (a * d) t (b * c)
  unfolding eq
  eq_values nan y v w = absurd v
  eq_values (inf u) y v w = absurd v
  eq_values (fin u m e) nan v w = absurd w
  eq_values (fin u m e) (inf r) v w = absurd w
  eq_values (fin u m e) (fin r n g) v w =
      ap (λ (z : Bool). level z (m * up e * down g) r (n * up g * down e)) v.0 ∙ ap (λ (z : Bool). level s (m * up e * down g) z (n * up g * down e)) w.0
      ∙ values level level_scaled s t (m * up e) (down e) a c (n * up g) (down g) b d (down_pos e) (down_pos g) C D v.1 w.1
