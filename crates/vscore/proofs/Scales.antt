-- Both scales are faithful: the plain rule's, and the preserving rule's for a tolerance above zero. Assumes nothing.
use mathlib.Core.Path.{◌≡◌, refl, sym, ap, ◌∙◌}
use mathlib.Core.Bool.{true, false, not, ◌&&◌, ◌||◌, and-false, true≢false, false≢true}
use Prim.Native.Nat.{ℕ, zero, suc, ◌+◌, ◌*◌, ◌<◌}
use native.Mathlib.Omega.{arith}
use native.Mathlib.Nat.{mul-pos, zero-lt-suc, div-eq_of_eq-mul_left}
use lib.Dec.{ltb, eqb, lit<, leb-suc-zero, leb-suc-suc, eqb-zero-suc, eqb-suc-zero, eqb-suc-suc}
use lib.Ieee.{Float, nan, inf, fin, up, down, neg, lt, eq}
use lib.Ieee.Exact.{HasValue}
use lib.Ieee.Fits.{up_pos, down_pos}
use borrow.Author.Tests.{ltb-true, lt-ltb, le-ltb, eq-eqb, ne_eqb}
use Rattle.rule.specs.Grid.{half, positive, is_finite}
use Rattle.rule.specs.Preserve.{score_within}
use Rattle.grid.proofs.Values.{lt_values, eq_values}
use Rattle.grid.proofs.Halves.{half_value, lt_halves, eq_halves, above_is}
use Rattle.vscore.specs.Scale.{Faithful, doubled, halves, lowered, rank, demotable}

-- ---- the plain rule's

doubled_of : (x : Float) (n : ℕ) → HasValue x false n 2 → doubled x ≡ n
unfolding doubled
doubled_of nan n v = absurd v
doubled_of (inf s) n v = absurd v
doubled_of (fin s m e) n v = div-eq_of_eq-mul_left (down_pos e) v.1

pub halves_faithful : Faithful halves
halves_faithful = record { back = λ n. doubled_of (half n) n (half_value n); less = lt_halves; level = eq_halves }

-- ---- the preserving rule's

rank_of : (x : Float) (n : ℕ) → HasValue x false n 2 → rank x ≡ suc n
unfolding rank
rank_of nan n v = absurd v
rank_of (inf s) n v = absurd v
rank_of (fin true m e) n v = absurd (true≢false v.0)
rank_of (fin false m e) n v = ap suc (div-eq_of_eq-mul_left (down_pos e) v.1)

-- minus the tolerance by itself
record Minus (t : Float) : Type 0 where
  lowest : rank (neg t) ≡ 0
  not_less : lt (neg t) (neg t) ≡ false
  like : eq (neg t) (neg t) ≡ true
  within : lt t (neg t) ≡ false

minus : (t : Float) → positive t ≡ true → Minus t
unfolding rank lt eq neg positive
minus nan p = absurd (false≢true p)
minus (inf true) p = absurd (false≢true p)
minus (inf false) p = record { lowest = refl; not_less = refl; like = refl; within = refl }
minus (fin true m e) p = absurd (false≢true p)
minus (fin false m e) p =
    let a = m * up e * down e in
    record { lowest = refl; not_less = le-ltb a a (omega arith); like = rw (eq-eqb a a refl); within = refl }

not_level : (a b : ℕ) → 0 < a → (eqb a b && (false || eqb a 0)) ≡ false
not_level a b l = rw (ne_eqb a 0 (λ z. omega arith)) (and-false (eqb a b))

level_not : (a b : ℕ) → 0 < b → (eqb a b && (false || eqb a 0)) ≡ false
level_not zero b l = rw (ne_eqb 0 b (λ z. omega arith))
level_not (suc a) b l = not_level (suc a) b (zero-lt-suc a)

-- y is below x
record Below (y x : Float) : Type 0 where
  less : lt y x ≡ true
  not_more : lt x y ≡ false
  unlike : eq y x ≡ false
  not_like : eq x y ≡ false

-- minus the tolerance is below an area that is not negative
neg_below : (t x : Float) (n : ℕ) → positive t ≡ true → HasValue x false n 2 → Below (neg t) x
unfolding lt eq neg positive
neg_below nan x n p v = absurd (false≢true p)
neg_below (inf true) x n p v = absurd (false≢true p)
neg_below (inf false) nan n p v = absurd v
neg_below (inf false) (inf s) n p v = absurd v
neg_below (inf false) (fin s m e) n p v = record { less = refl; not_more = refl; unlike = refl; not_like = refl }
neg_below (fin true m e) x n p v = absurd (false≢true p)
neg_below (fin false m e) x n p v =
    let a = m * up e in
    let h : 0 < a * 2 = mul-pos (mul-pos (ltb-true 0 m p) (up_pos e)) (lit< tt) in
    record {
      less = lt_values true false a (down e) n 2 (down_pos e) (lit< tt) (fin true m e) x (refl, refl) v ∙ lt-ltb 0 (a * 2 + n * down e) (omega arith);
      not_more = lt_values false true n 2 a (down e) (lit< tt) (down_pos e) x (fin true m e) v (refl, refl);
      unlike = eq_values true false a (down e) n 2 (down_pos e) (lit< tt) (fin true m e) x (refl, refl) v ∙ not_level (a * 2) (n * down e) h;
      not_like = eq_values false true n 2 a (down e) (lit< tt) (down_pos e) x (fin true m e) v (refl, refl) ∙ level_not (n * down e) (a * 2) h;
    }

module _ (t : Float) (p : positive t ≡ true) where
  under : (n : ℕ) → Below (neg t) (half n)
  under n = neg_below t (half n) n p (half_value n)

  lowered_back : (n : ℕ) → rank (lowered t n) ≡ n
  lowered_back zero = (minus t p).lowest
  lowered_back (suc n) = rank_of (half n) n (half_value n)

  lowered_less : (m n : ℕ) → lt (lowered t m) (lowered t n) ≡ ltb m n
  lowered_less zero zero = (minus t p).not_less
  lowered_less zero (suc n) = (under n).less ∙ sym (lt-ltb 0 (suc n) (zero-lt-suc n))
  lowered_less (suc m) zero = (under m).not_more ∙ sym (leb-suc-zero (suc m))
  lowered_less (suc m) (suc n) = lt_halves m n ∙ sym (leb-suc-suc (suc m) n)

  lowered_level : (m n : ℕ) → eq (lowered t m) (lowered t n) ≡ eqb m n
  lowered_level zero zero = (minus t p).like
  lowered_level zero (suc n) = (under n).unlike ∙ sym (eqb-zero-suc n)
  lowered_level (suc m) zero = (under m).not_like ∙ sym (eqb-suc-zero m)
  lowered_level (suc m) (suc n) = eq_halves m n ∙ sym (eqb-suc-suc m n)

  pub demotable_faithful : Faithful (demotable t)
  demotable_faithful = record { back = lowered_back; less = lowered_less; level = lowered_level }

-- ---- the tolerance

-- minus the tolerance is within it
pub above_demotable : (t : Float) (n : ℕ) → is_finite t ≡ true → positive t ≡ true → lt t ((demotable t).value n) ≡ not (score_within n t)
unfolding score_within
above_demotable t zero f p = (minus t p).within
above_demotable t (suc d) f p = above_is t d f
