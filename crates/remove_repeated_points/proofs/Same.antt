-- Equal points are equal either way round. Assumes nothing.
use mathlib.Core.Path.{◌≡◌, refl, sym}
use Prim.Native.Nat.{ℕ}
use lib.Dec.{eqb}
use lib.IntN.{ℤ, pos, negsuc}
use Rattle.rule.specs.Grid.{Point}
use Rattle.rule.specs.Segment.{same, sameℤ}
use Rattle.grid.proofs.Values.{same_eq}

eqb_sym : (m n : ℕ) → eqb m n ≡ eqb n m
eqb_sym m n = same_eq m n n m (λ h. sym h) (λ h. sym h)

sameℤ_sym : (a b : ℤ) → sameℤ a b ≡ sameℤ b a
unfolding sameℤ
sameℤ_sym (pos a) (pos b) = eqb_sym a b
sameℤ_sym (pos a) (negsuc b) = refl
sameℤ_sym (negsuc a) (pos b) = refl
sameℤ_sym (negsuc a) (negsuc b) = eqb_sym a b

pub same_sym : (p q : Point) → same p q ≡ same q p
unfolding same
same_sym p q = rw (sameℤ_sym p.x q.x, sameℤ_sym p.y q.y)
