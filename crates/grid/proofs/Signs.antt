-- A number with a sign: its size, negation, sums and products. Assumes nothing.
use mathlib.Core.Path.{◌≡◌, refl, sym, ap, ◌∙◌}
use mathlib.Core.Bool.{Bool, true, false, not}
use Prim.Native.Nat.{ℕ, zero, suc, ◌+◌, ◌*◌, ◌-◌, ◌≤◌}
use native.Mathlib.Nat.{mul_comm}
use native.Mathlib.Omega.{arith}
use lib.IntN.{ℤ, pos, neg_ℤ, nat_abs, ◌+ℤ◌, ◌*ℤ◌, neg_ℤ-neg_ℤ, neg_ℤ-+ℤ, +ℤ_comm, +ℤ-neg_ℤ_cancel, *ℤ_comm}
use lib.Ieee.{unlike}
use Rattle.ring.proofs.Laws.{neg_mul}
use Rattle.rule.specs.Grid.{signed}

pub abs_signed : (s : Bool) (n : ℕ) → nat_abs (signed s n) ≡ n
abs_signed false n = refl
abs_signed true zero = refl
abs_signed true (suc n) = refl

pub neg_signed : (s : Bool) (n : ℕ) → signed (not s) n ≡ neg_ℤ (signed s n)
neg_signed false n = refl
neg_signed true n = sym (neg_ℤ-neg_ℤ (pos n))

-- a difference of two naturals, by which is larger
pub less_up : (p q : ℕ) → q ≤ p → pos p +ℤ neg_ℤ (pos q) ≡ pos (p - q)
less_up p q h =
    let e : p ≡ p - q + q = omega arith in
    ap (λ (x : ℕ). pos x +ℤ neg_ℤ (pos q)) e ∙ +ℤ-neg_ℤ_cancel (pos (p - q)) (pos q)

pub less_down : (p q : ℕ) → p ≤ q → pos p +ℤ neg_ℤ (pos q) ≡ neg_ℤ (pos (q - p))
less_down p q h =
    +ℤ_comm (pos p) (neg_ℤ (pos q)) ∙ ap (λ (x : ℤ). neg_ℤ (pos q) +ℤ x) (sym (neg_ℤ-neg_ℤ (pos p)))
    ∙ sym (neg_ℤ-+ℤ (pos q) (neg_ℤ (pos p))) ∙ ap neg_ℤ (less_up q p h)

mul_neg : (p q : ℕ) → pos p *ℤ neg_ℤ (pos q) ≡ neg_ℤ (pos (p * q))
mul_neg p q = *ℤ_comm (pos p) (neg_ℤ (pos q)) ∙ neg_mul (pos q) (pos p) ∙ ap (λ (x : ℕ). neg_ℤ (pos x)) (mul_comm q p)

pub mul_signed : (s t : Bool) (p q : ℕ) → signed s p *ℤ signed t q ≡ signed (unlike s t) (p * q)
mul_signed false false p q = refl
mul_signed true false p q = neg_mul (pos p) (pos q)
mul_signed false true p q = mul_neg p q
mul_signed true true p q = neg_mul (pos p) (neg_ℤ (pos q)) ∙ ap neg_ℤ (mul_neg p q) ∙ neg_ℤ-neg_ℤ (pos (p * q))
