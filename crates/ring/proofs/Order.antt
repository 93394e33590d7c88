-- The order of ℤ by its test `le_z`: what `lib.Signed` does not have. Assumes nothing.
use mathlib.Core.Path.{◌≡◌, refl}
use mathlib.Core.Bool.{true, false, true≢false, false≢true}
use native.Mathlib.Omega.{arith}
use lib.IntN.{ℤ, pos, negsuc}
use lib.Signed.{le_z}
use borrow.Author.Tests.{leb-true, leb-false, le-leb}

pub le_refl : (x : ℤ) → le_z x x ≡ true
le_refl (pos a) = le-leb a a (omega arith)
le_refl (negsuc a) = le-leb a a (omega arith)

pub le_trans : (x y z : ℤ) → le_z x y ≡ true → le_z y z ≡ true → le_z x z ≡ true
le_trans (pos a) (pos b) (pos c) h k = le-leb a c (omega (arith, leb-true a b h, leb-true b c k))
le_trans (pos a) (pos b) (negsuc c) h k = absurd (false≢true k)
le_trans (pos a) (negsuc b) z h k = absurd (false≢true h)
le_trans (negsuc a) y (pos c) h k = refl
le_trans (negsuc a) (pos b) (negsuc c) h k = absurd (false≢true k)
le_trans (negsuc a) (negsuc b) (negsuc c) h k = le-leb c a (omega (arith, leb-true b a h, leb-true c b k))

pub le_total : (x y : ℤ) → le_z x y ≡ false → le_z y x ≡ true
le_total (pos a) (pos b) e = le-leb b a (omega (arith, leb-false a b e))
le_total (pos a) (negsuc b) e = refl
le_total (negsuc a) (pos b) e = absurd (true≢false e)
le_total (negsuc a) (negsuc b) e = le-leb a b (omega (arith, leb-false b a e))
