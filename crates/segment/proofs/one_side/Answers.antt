-- `segment::one_side` meets its contract: by the signs of the two cross products, which are exact. Assumes nothing.
use Rattle.std.proofs.Common.{rules, ◌≡◌, refl, ◌&&◌, ◌||◌}
use Rattle.std.proofs.lemmas.Grind.{common_steps}
use mathlib.Core.Bool.{or-false}
use Prim.Native.Nat.{ℕ, zero, suc}
use native.Mathlib.Omega.{arith}
use borrow.Author.Tests.{lt-ltb, le-ltb}
use lib.Dec.{ltb}
use lib.IntN.{ℤ, pos, negsuc}
use lib.Signed.{lt_z}
use lib.Ieee.{Float, of_bits, lt}
use Rattle.rule.specs.Area.{zero_float}
use Rattle.rule.specs.Segment.{one_side}
use Rattle.grid.proofs.Whole.{Whole, zero_whole, lt_whole}
use Rattle.grid.proofs.Cross.{turn_is}
use Rattle.segment.proofs.one_side.Goals as goal

signs : (u v : ℤ) → (lt_z (pos 0) u && lt_z (pos 0) v || lt_z u (pos 0) && lt_z v (pos 0)) ≡ one_side u v
unfolding one_side
signs (pos zero) v = refl
signs (pos (suc a)) (pos b) = rw (lt-ltb 0 (suc a) (omega arith), le-ltb (suc a) 0 (omega arith)) (or-false (ltb 0 b))
signs (pos (suc a)) (negsuc b) = rw (le-ltb (suc a) 0 (omega arith), lt-ltb 0 (suc a) (omega arith))
signs (negsuc a) (pos b) = le-ltb b 0 (omega arith)
signs (negsuc a) (negsuc b) = refl

in_f64 : {x y : Float} {u v : ℤ} {j k : ℕ} → Whole x u j → Whole y v k
    → (lt zero_float x && lt zero_float y || lt x zero_float && lt y zero_float) ≡ one_side u v
in_f64 {u = u} {v = v} p q = rw (lt_whole zero_whole p, lt_whole zero_whole q, lt_whole p zero_whole, lt_whole q zero_whole) (signs u v)

pub returns-then-v : goal.returns-then-v
unfolding of_bits
returns-then-v k a b c d = rw (← in_f64 (turn_is a b c) (turn_is a b d), ← k.turn-u.ensures, ← k.turn-v.ensures) (search rules)

pub returns-then-u-2 : goal.returns-then-u-2
unfolding of_bits
returns-then-u-2 k a b c d = rw (← in_f64 (turn_is a b c) (turn_is a b d), ← k.turn-u.ensures, ← k.turn-v.ensures) (grind (arith, common_steps))

pub returns-else-u-2 : goal.returns-else-u-2
unfolding of_bits
returns-else-u-2 k a b c d = rw (← in_f64 (turn_is a b c) (turn_is a b d), ← k.turn-u.ensures, ← k.turn-v.ensures) (grind (arith, common_steps))
