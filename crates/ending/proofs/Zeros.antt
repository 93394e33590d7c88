-- Zeros in the first places of a run, of anything. Assumes nothing.
use mathlib.Core.Path.{◌≡◌, ap}
use mathlib.Core.List.{List, ◌++◌}
use Prim.Native.Nat.{ℕ, ◌+◌, ◌≤◌}
use native.Mathlib.Omega.{arith}
use lib.ListN.{length, get_or, take, drop, replicate, length-drop}
use lib.Seq.{ext_get_or, get_or-drop}
use Rattle.std.proofs.lemmas.List.{length-take-le}
use Rattle.rule.specs.Area.{cleared}

-- the first n places were filled
pub filled : {A : Type 0} (z : A) (n : ℕ) (run : List A) {new : List A} → n ≤ length run → new ≡ replicate (length (take n run)) z → new ++ drop n run ≡ cleared z n run
unfolding cleared
filled z n run h e = rw (e, length-take-le n run h)

-- zeroing does not see what it zeroes
pub cleared_same : {A : Type 0} (z d : A) (n : ℕ) (l l' : List A) → length l' ≡ length l → ((i : ℕ) → n ≤ i → get_or l' i d ≡ get_or l i d) → cleared z n l' ≡ cleared z n l
unfolding cleared
cleared_same {A} z d n l l' e same = ap (λ (r : List A). replicate n z ++ r) (ext_get_or d (drop n l') (drop n l) level (λ i h. simp get_or-drop (same (n + i) (omega arith))))
  where
    level : length (drop n l') ≡ length (drop n l)
    level = simp (length-drop, e)
