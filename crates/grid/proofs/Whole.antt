-- Whole numbers in f64: sums, differences and products up to 2^53 are exact, and comparisons are those of the integers. A coordinate on the
-- grid is one. Assumes nothing.
use mathlib.Core.Path.{◌≡◌, refl, sym, ap, ◌∙◌}
use mathlib.Core.Bool.{Bool, true, false, not, cond, ◌&&◌, ◌||◌, and-true, and-false, and_self}
use Prim.Native.Nat.{ℕ, zero, suc, ◌+◌, ◌*◌, ◌-◌, ◌/◌, ◌%◌, ◌^◌, ◌≤◌, ◌<◌}
use native.Mathlib.Nat.{mul-one, mul_comm, mul-sub, add-mul, mul-mul-mul_comm, mul-pos, mul-le-mul, zero-add, le_of_lt, le_trans, div-add-mod'}
use native.Mathlib.Omega.{arith}
use lib.Dec.{T, ltb, leb, eqb, lit<, lit≤, leb→le, eqb→eq, ltb→lt, nltb→le, leb-zero, leb-suc-zero, leb-suc-suc, eqb-zero-suc, eqb-suc-zero, eqb-suc-suc}
use lib.IntN.{ℤ, pos, negsuc, neg_ℤ, ◌+ℤ◌, ◌-ℤ◌, ◌*ℤ◌, +ℤ_comm, neg_ℤ-+ℤ}
use lib.Signed.{lt_z, le_z}
use lib.Ieee.{Float, nan, inf, fin, binary64, up, down, unlike, below, level, round, neg, sum, add, sub, mul, lt, eq, le}
use lib.Ieee.Exact.{HasValue}
use lib.Ieee.Fits.{down_pos, and_l, and_r}
use lib.Ieee.Scale.{round_same}
use lib.Ieee.Back.{round_whole}
use borrow.Author.Tests.{lt-ltb}
use Rattle.rule.specs.Sizes.{reach}
use Rattle.rule.specs.Grid.{signed, on_grid, coord}
use Rattle.rule.specs.Segment.{sameℤ}
use Rattle.rule.specs.Area.{zero_float}
use Rattle.grid.proofs.Signs.{neg_signed, less_up, less_down, mul_signed}
use Rattle.grid.proofs.Values.{same_eq, lt_scaled, below_scaled, level_scaled, lt_values, eq_values}

-- x is the whole number z, at most k in size; either zero is 0
pub record Whole (x : Float) (z : ℤ) (k : ℕ) : Type 0 where
  pub sign : Bool
  pub size : ℕ
  pub value : HasValue x sign size 1
  pub is : signed sign size ≡ z
  pub bound : size ≤ k

pub zero_whole : Whole zero_float (pos 0) 0
zero_whole = record { sign = false; size = 0; value = (refl, refl); is = refl; bound = lit≤ tt }

-- ---- the grid

pub on_grid_lem : (x : Float) → T (on_grid x) → Whole x (coord x) reach
unfolding on_grid coord
on_grid_lem nan t = absurd t
on_grid_lem (inf s) t = absurd t
on_grid_lem (fin s m e) t =
    let a = m * up e in
    let r = eqb→eq (a % down e) 0 (and_l (eqb (a % down e) 0) (leb (a / down e) reach) t) in
    record {
      sign = s;
      size = a / down e;
      value = (refl, omega (arith, div-add-mod' a (down e)));
      is = refl;
      bound = leb→le (a / down e) reach (and_r (eqb (a % down e) 0) (leb (a / down e) reach) t);
    }

-- ---- sums

rounded : (s : Bool) (n : ℕ) (z : ℤ) (k : ℕ) → n ≤ k → k ≤ 2 ^ 53 → signed s n ≡ z → Whole (round binary64 s n 1) z k
rounded s n z k h l e = record { sign = s; size = n; value = round_whole binary64 s n (le_trans h l); is = e; bound = h }

round_scaled : (s : Bool) (n c : ℕ) → 0 < c → round binary64 s (n * c) c ≡ round binary64 s n 1
round_scaled s n c C = round_same binary64 s (n * c) c n 1 C (lit< tt) (mul-one (n * c))

pub sub_mul : (p q c : ℕ) → p * c - q * c ≡ (p - q) * c
sub_mul p q c = rw (mul_comm p c, mul_comm q c, ← mul-sub c p q) (mul_comm c (p - q))

sum_scaled : (s t : Bool) (p q c : ℕ) → 0 < c → sum binary64 s (p * c) t (q * c) c ≡ sum binary64 s p t q 1
unfolding sum
sum_scaled s t p q c C =
    rw (
      ← add-mul p q c,
      sub_mul q p c,
      sub_mul p q c,
      lt_scaled p q c C,
      lt_scaled q p c C,
      round_scaled s (p + q) c C,
      round_scaled t (q - p) c C,
      round_scaled (s && ltb q p) (p - q) c C,
    )

-- a difference is no larger than the larger of the two
pub less_is : (p q k : ℕ) → p ≤ k → q ≤ k → k ≤ 2 ^ 53 → Whole (sum binary64 false p true q 1) (pos p -ℤ pos q) k
unfolding sum
less_is p q k i j l = go (ltb p q) (ltb→lt p q) (nltb→le p q)
  where
    go : (b : Bool) → (T b → p < q) → (T (not b) → q ≤ p) → Whole (cond b (round binary64 true (q - p) 1) (round binary64 false (p - q) 1)) (pos p -ℤ pos q) k
    go true f g = rounded true (q - p) (pos p -ℤ pos q) k (omega arith) l (sym (less_down p q (le_of_lt (f tt))))
    go false f g = rounded false (p - q) (pos p -ℤ pos q) k (omega arith) l (sym (less_up p q (g tt)))

module _ (p q k : ℕ) (h : p + q ≤ k) (l : k ≤ 2 ^ 53) where
  sum_is : (s t : Bool) → Whole (sum binary64 s p t q 1) (signed s p +ℤ signed t q) k
  unfolding sum
  sum_is false false = rounded false (p + q) (pos p +ℤ pos q) k h l refl
  sum_is true true = rounded true (p + q) (neg_ℤ (pos p) +ℤ neg_ℤ (pos q)) k h l (neg_ℤ-+ℤ (pos p) (pos q))
  sum_is false true = less_is p q k (omega arith) (omega arith) l
  sum_is true false = go (ltb p q) (ltb q p) (ltb→lt p q) (nltb→le p q) (nltb→le q p)
    where
      z : ℤ
      z = neg_ℤ (pos p) +ℤ pos q

      swap : neg_ℤ (pos p) +ℤ pos q ≡ pos q +ℤ neg_ℤ (pos p)
      swap = +ℤ_comm (neg_ℤ (pos p)) (pos q)

      go : (b d : Bool) → (T b → p < q) → (T (not b) → q ≤ p) → (T (not d) → p ≤ q)
          → Whole (cond b (round binary64 false (q - p) 1) (round binary64 d (p - q) 1)) (neg_ℤ (pos p) +ℤ pos q) k
      go true d f g i = rounded false (q - p) z k (omega arith) l (sym (swap ∙ less_up q p (le_of_lt (f tt))))
      go false true f g i = rounded true (p - q) z k (omega arith) l (sym (swap ∙ less_down q p (g tt)))
      go false false f g i =
          let u : p ≤ q = i tt in
          let e : p - q ≡ q - p = omega (arith, g tt) in
          rounded false (p - q) z k (omega arith) l (ap pos e ∙ sym (swap ∙ less_up q p u))

pub add_values : (x y : Float) (s t : Bool) (p q : ℕ) → HasValue x s p 1 → HasValue y t q 1 → add binary64 x y ≡ sum binary64 s p t q 1
unfolding add
add_values nan y s t p q v w = absurd v
add_values (inf u) y s t p q v w = absurd v
add_values (fin u m e) nan s t p q v w = absurd w
add_values (fin u m e) (inf r) s t p q v w = absurd w
add_values (fin u m e) (fin r n g) s t p q v w =
    let a : m * up e * down g ≡ p * (down e * down g) = omega (arith, ap (λ (k : ℕ). k * down g) v.1) in
    let b : n * up g * down e ≡ q * (down e * down g) = omega (arith, ap (λ (k : ℕ). k * down e) w.1) in
    rw (a, b, v.0, w.0) (sum_scaled s t p q (down e * down g) (mul-pos (down_pos e) (down_pos g)))

mul_values : (x y : Float) (s t : Bool) (p q : ℕ) → HasValue x s p 1 → HasValue y t q 1 → mul binary64 x y ≡ round binary64 (unlike s t) (p * q) 1
unfolding mul
mul_values nan y s t p q v w = absurd v
mul_values (inf u) y s t p q v w = absurd v
mul_values (fin u m e) nan s t p q v w = absurd w
mul_values (fin u m e) (inf r) s t p q v w = absurd w
mul_values (fin u m e) (fin r n g) s t p q v w =
    let a : m * up e ≡ p * down e = omega (arith, v.1) in
    let b : n * up g ≡ q * down g = omega (arith, w.1) in
    rw (a, b, v.0, w.0, mul-mul-mul_comm p (down e) q (down g)) (round_scaled (unlike s t) (p * q) (down e * down g) (mul-pos (down_pos e) (down_pos g)))

pub neg_value : (x : Float) (s : Bool) (a c : ℕ) → HasValue x s a c → HasValue (neg x) (not s) a c
unfolding neg
neg_value nan s a c v = v
neg_value (inf t) s a c v = v
neg_value (fin t m e) s a c v = (ap not v.0, v.1)

pub neg_whole : {x : Float} {z : ℤ} {k : ℕ} → Whole x z k → Whole (neg x) (neg_ℤ z) k
neg_whole {x} v =
    record {
      sign = not v.sign;
      size = v.size;
      value = neg_value x v.sign v.size 1 v.value;
      is = neg_signed v.sign v.size ∙ ap neg_ℤ v.is;
      bound = v.bound;
    }

module _ {x y : Float} {a b : ℤ} {j k : ℕ} (v : Whole x a j) (w : Whole y b k) where
  pub add_whole : j + k ≤ 2 ^ 53 → Whole (add binary64 x y) (a +ℤ b) (j + k)
  add_whole h =
      let g : v.size + w.size ≤ j + k = omega (arith, v.bound, w.bound) in
      rw (add_values x y v.sign w.sign v.size w.size v.value w.value, ← v.is, ← w.is)
      (sum_is v.size w.size (j + k) g h v.sign w.sign)

  pub mul_whole : j * k ≤ 2 ^ 53 → Whole (mul binary64 x y) (a *ℤ b) (j * k)
  mul_whole h =
      rw (mul_values x y v.sign w.sign v.size w.size v.value w.value, ← v.is, ← w.is)
      (rounded (unlike v.sign w.sign) (v.size * w.size) (signed v.sign v.size *ℤ signed w.sign w.size) (j * k)
      (mul-le-mul v.bound w.bound) h (sym (mul_signed v.sign w.sign v.size w.size)))

pub sub_whole : {x y : Float} {a b : ℤ} {j k : ℕ} → Whole x a j → Whole y b k → j + k ≤ 2 ^ 53 → Whole (sub binary64 x y) (a -ℤ b) (j + k)
unfolding sub
sub_whole v w h = add_whole v (neg_whole w) h

-- ---- comparisons

below_signed : (s t : Bool) (p q : ℕ) → below s p t q ≡ lt_z (signed s p) (signed t q)
below_signed false false p q = refl
below_signed false true p zero = sym (leb-suc-zero p)
below_signed false true p (suc q) = refl
below_signed true false zero q = ap (λ (x : ℕ). ltb 0 x) (zero-add q)
below_signed true false (suc p) q = lt-ltb 0 (suc p + q) (omega arith)
below_signed true true zero zero = refl
below_signed true true zero (suc q) = leb-suc-zero (suc q)
below_signed true true (suc p) zero = lt-ltb 0 (suc p) (omega arith)
below_signed true true (suc p) (suc q) = leb-suc-suc (suc q) p

level_signed : (s t : Bool) (p q : ℕ) → level s p t q ≡ sameℤ (signed s p) (signed t q)
unfolding sameℤ
level_signed false false p q = and-true (eqb p q)
level_signed false true p zero = and_self (eqb p 0)
level_signed false true zero (suc q) = rw eqb-zero-suc
level_signed false true (suc p) (suc q) = rw (eqb-suc-zero p) (and-false (eqb (suc p) (suc q)))
level_signed true false zero q = and-true (eqb 0 q)
level_signed true false (suc p) q = rw (eqb-suc-zero p) (and-false (eqb (suc p) q))
level_signed true true zero zero = refl
level_signed true true zero (suc q) = rw eqb-zero-suc
level_signed true true (suc p) zero = rw eqb-suc-zero
level_signed true true (suc p) (suc q) = rw eqb-suc-suc (and-true (eqb p q))

less_or_level : (a b : ℕ) → (ltb a b || eqb a b) ≡ leb a b
less_or_level zero zero = refl
less_or_level zero (suc b) = rw (leb-suc-suc 0 b, leb-zero b, leb-zero (suc b))
less_or_level (suc a) zero = rw (leb-suc-zero (suc a), leb-suc-zero a, eqb-suc-zero a)
less_or_level (suc a) (suc b) = rw (leb-suc-suc (suc a) b, leb-suc-suc a b, eqb-suc-suc a b) (less_or_level a b)

less_or_same : (a b : ℤ) → (lt_z a b || sameℤ a b) ≡ le_z a b
unfolding sameℤ
less_or_same (pos a) (pos b) = less_or_level a b
less_or_same (pos a) (negsuc b) = refl
less_or_same (negsuc a) (pos b) = refl
less_or_same (negsuc a) (negsuc b) = ap (λ (x : Bool). ltb b a || x) (same_eq a b b a (λ h. sym h) (λ h. sym h)) ∙ less_or_level b a

module _ {x y : Float} {a b : ℤ} {j k : ℕ} (v : Whole x a j) (w : Whole y b k) where
  pub lt_whole : lt x y ≡ lt_z a b
  lt_whole =
      lt_values v.sign w.sign v.size 1 w.size 1 (lit< tt) (lit< tt) x y v.value w.value
      ∙ below_scaled v.sign w.sign v.size w.size 1 (lit< tt) ∙ below_signed v.sign w.sign v.size w.size
      ∙ ap (λ (z : ℤ). lt_z z (signed w.sign w.size)) v.is ∙ ap (λ (z : ℤ). lt_z a z) w.is

  pub eq_whole : eq x y ≡ sameℤ a b
  eq_whole =
      eq_values v.sign w.sign v.size 1 w.size 1 (lit< tt) (lit< tt) x y v.value w.value
      ∙ level_scaled v.sign w.sign v.size w.size 1 (lit< tt) ∙ level_signed v.sign w.sign v.size w.size
      ∙ ap (λ (z : ℤ). sameℤ z (signed w.sign w.size)) v.is ∙ ap (λ (z : ℤ). sameℤ a z) w.is

  pub le_whole : le x y ≡ le_z a b
  unfolding le
  le_whole = ap (λ (c : Bool). c || eq x y) lt_whole ∙ ap (λ (c : Bool). lt_z a b || c) eq_whole ∙ less_or_same a b

module _ (x y : Float) (h : T (on_grid x)) (k : T (on_grid y)) where
  pub eq_grid : eq x y ≡ sameℤ (coord x) (coord y)
  eq_grid = eq_whole (on_grid_lem x h) (on_grid_lem y k)

  pub le_grid : le x y ≡ le_z (coord x) (coord y)
  le_grid = le_whole (on_grid_lem x h) (on_grid_lem y k)
