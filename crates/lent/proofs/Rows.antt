-- What it says of the input that no reason applies. Assumes nothing.
use mathlib.Core.Path.{◌≡◌, refl}
use mathlib.Core.Bool.{true, false, ◌||◌}
use mathlib.Core.List.{List, [], ◌∷◌, ◌++◌}
use mathlib.Core.Option.{Option, none, some}
use Prim.Native.Nat.{ℕ, ◌≤◌}
use lib.Dec.{ltb, eqb}
use lib.ListN.{length}
use lib.Ieee.{Float}
use borrow.Author.Tests.{eqb-true, ltb-false, not-false}
use Rattle.std.proofs.lemmas.Bool.{or_parts}
use Rattle.rule.specs.Sizes.{most_points, scratch_floats, scratch_words}
use Rattle.rule.specs.Grid.{is_finite}
use Rattle.rule.specs.Reasons.{Row, first_of, is_some, first_off_grid, lengths_differ, too_many_points, some_off_grid, output_short, scratch_short, line_rows, repeat_reason}
use Rattle.rule.specs.Whole.{Lent}
use Rattle.rule.proofs.Reasons.{NoneApplies, none_applies}
use Rattle.lent.specs.Fine.{Fine, Ready}
use Rattle.lent.proofs.Scan.{on_all}

nowhere : (o : Option ℕ) → is_some o ≡ false → o ≡ none
nowhere none e = refl
nowhere (some i) e = cc

fine_of : (us vs : List Float) → (lengths_differ us vs).applies ≡ false → (too_many_points us).applies ≡ false → (some_off_grid us vs).applies ≡ false → Fine us vs
fine_of us vs a b c =
    let l = eqb-true (length us) (length vs) (not-false (eqb (length us) (length vs)) a) in
    record { level = l; few = ltb-false most_points (length us) b; on = on_all us vs (nowhere (first_off_grid us vs) c) l }

-- no reason of a line with a tolerance
module _ (us vs : List Float) (t : Float) (e : first_of (line_rows us vs t) ≡ 0) where
  pub line_fine : Fine us vs
  line_fine = let a = none_applies (line_rows us vs t) tt e in fine_of us vs a.0 a.1.0 a.1.1.1.0

  pub line_finite : is_finite t ≡ true
  line_finite = not-false (is_finite t) (none_applies (line_rows us vs t) tt e).1.1.0

-- no reason of a call on repeated points
module _ (us vs : List Float) (room : ℕ) (e : repeat_reason us vs room ≡ 0) where
  unapplied : NoneApplies (lengths_differ us vs ∷ too_many_points us ∷ some_off_grid us vs ∷ output_short room (length us) ∷ [])
  unfolding repeat_reason
  unapplied = none_applies (lengths_differ us vs ∷ too_many_points us ∷ some_off_grid us vs ∷ output_short room (length us) ∷ []) tt e

  pub repeat_fine : Fine us vs
  repeat_fine = fine_of us vs unapplied.0 unapplied.1.0 unapplied.1.1.0

  pub repeat_room : length us ≤ room
  repeat_room = ltb-false room (length us) unapplied.1.1.1.0

-- neither of two lent slices is short: what 7 and 8 say of an output, a scratch, a work area
pub room_for : (m n p q : ℕ) → (ltb m n || ltb p q) ≡ false → (n ≤ m) × (q ≤ p)
room_for m n p q e = let h = or_parts (ltb m n) (ltb p q) e in (ltb-false m n h.0, ltb-false p q h.1)

-- no reason of a line, room in the output, and no reason of the scratch
pub ready_of : (us vs : List Float) (t : Float) (m : Lent) (rs : List Row) → NoneApplies (line_rows us vs t ++ rs) → length us ≤ length m.out
    → (scratch_short (length m.floats) (length m.words) (length us)).applies ≡ false → Ready us vs t m
ready_of us vs t m rs a h s =
    let short = room_for (length m.floats) (scratch_floats (length us)) (length m.words) (scratch_words (length us)) s in
    record { fine = fine_of us vs a.0 a.1.0 a.1.1.1.0; finite = not-false (is_finite t) a.1.1.0; room = h; floats = short.0; words = short.1 }
