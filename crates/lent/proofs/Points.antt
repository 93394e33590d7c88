-- Lent coordinates as points: how many, what stands at an index, and that they are where the layout of a scratch has them, whose runs lie in what is lent.
-- Assumes nothing.
use mathlib.Core.Path.{◌≡◌, refl, ap}
use mathlib.Core.List.{List, [], ◌∷◌}
use Prim.Native.Nat.{ℕ, zero, suc, ◌<◌, ◌≤◌}
use native.Mathlib.Omega.{arith}
use native.Mathlib.Nat.{zero-add}
use lib.ListN.{length, get_or}
use lib.Ieee.{Float, nan}
use Rattle.rule.specs.Sizes.{most_points}
use Rattle.rule.specs.Grid.{points, at, point_of}
use Rattle.rule.specs.Whole.{lent}
use Rattle.layout.specs.declared.Layout.{Layout}
use Rattle.layout.specs.Layout.{scratch_of, Room}
use Rattle.layout.specs.Points.{HasPoints, PlacedIn}
use Rattle.lent.specs.Fine.{Fine, Ready}

count : (us vs : List Float) → length us ≡ length vs → length (points us vs) ≡ length us
unfolding points
count [] vs e = refl
count (u ∷ us) [] e = absurd (omega arith)
count (u ∷ us) (v ∷ vs) e = ap suc (count us vs (omega arith))

stands : (us vs : List Float) (i : ℕ) → length us ≡ length vs → i < length us → at (points us vs) i ≡ point_of (get_or us i nan) (get_or vs i nan)
unfolding points
stands [] vs i e h = absurd (omega arith)
stands (u ∷ us) [] i e h = absurd (omega arith)
stands (u ∷ us) (v ∷ vs) zero e h = refl
stands (u ∷ us) (v ∷ vs) (suc i) e h = stands us vs i (omega arith) (omega arith)

module _ {us vs : List Float} (f : Fine us vs) where
  pub length_points : length (points us vs) ≡ length us
  length_points = count us vs f.level

  pub at_points : (i : ℕ) → i < length us → at (points us vs) i ≡ point_of (get_or us i nan) (get_or vs i nan)
  at_points i h = stands us vs i f.level h

  pub placed_points : PlacedIn us vs (scratch_of (length us)) (points us vs)
  placed_points = record { on = λ i h. rw zero-add (f.on i h); is = λ i h. rw zero-add (at_points i h) }

-- the runs of the scratch's layout lie in what is lent
pub runs_fit : {us vs : List Float} {t : Float} {out : List ℕ} {fs : List Float} {ws : List ℕ} {m : Layout} → Ready us vs t (lent out fs ws) → m ≡ scratch_of (length us)
    → HasPoints m us vs × Room m fs ws × (m.points ≤ most_points)
runs_fit ready e =
    rw e (
      record { x = omega arith; y = omega (arith, ready.fine.level) },
      record { areas = omega (arith, ready.floats); scores = omega arith; linked = omega (arith, ready.words) },
      ready.fine.few,
    )
