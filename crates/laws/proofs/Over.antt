-- A list written from the start of an output: one more index. Assumes nothing.
use mathlib.Core.Path.{◌≡◌, sym}
use mathlib.Core.List.{List, [], ◌∷◌, ◌++◌}
use Prim.Native.Nat.{ℕ, suc, ◌<◌}
use native.Mathlib.Omega.{arith}
use lib.ListN.{length, get_or, drop, set, length-append}
use lib.Seq.{drop-cons, set-append_seam, append_snoc}
use Rattle.rule.specs.Whole.{over}

-- a list over what stood there, and one more index stored
pub over_more : (ks out : List ℕ) (i : ℕ) → length ks < length out → set (over ks out) (length ks) i ≡ over (ks ++ i ∷ []) out
over_more ks out i h =
    let n : length (ks ++ i ∷ []) ≡ suc (length ks) = omega (arith, length-append ks (i ∷ [])) in
    let past = drop (suc (length ks)) out in
    rw (drop-cons out (length ks) 0 h, set-append_seam ks (get_or out (length ks) 0) past i, n) (sym (append_snoc ks i past))
