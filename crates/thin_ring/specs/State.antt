-- A ring under way in lent memory, beside the other rings. Assumes nothing.
use Rattle.std.specs.Prelude.{◌≡◌, true, false, List, [], ◌∷◌, ◌++◌, ℕ, ◌+◌, ◌*◌, ◌≤◌, ◌<◌, length, get_or, Float}
use Rattle.std.specs.Float.{nan}
use Rattle.rule.specs.Grid.{Point, is_finite, positive}
use Rattle.rule.specs.Plain.{leave}
use Rattle.rule.specs.Preserve.{Minima, member, score_of, Move, move, ring_removals}
use Rattle.layout.specs.declared.Layout.{Layout}
use Rattle.layout.specs.Points.{PlacedIn}
use Rattle.vscore.specs.Scale.{demotable}
use Rattle.links.specs.Ring.{Ring, Rings}
use Rattle.blocks.specs.declared.Blocks.{Blocks}
use Rattle.blocks.specs.Boxes.{Boxed}
use Rattle.thin.specs.Queue.{View}
use Rattle.thin.specs.State.{Rep}

-- What stays while a ring is thinned: the points, where the ring starts and ends, and the other rings before and after it, by where each ends and what
-- is kept of it.
pub record Setting : Type 0 where
  pub points : List Point
  pub lo : ℕ
  pub hi : ℕ
  pub ends_before : List ℕ
  pub before : List (List ℕ)
  pub ends_after : List ℕ
  pub after : List (List ℕ)

-- ---- the rule in this setting

abbrev pub beside : Setting → List (List ℕ)
beside g = g.before ++ g.after

abbrev pub move_in : Setting → Float → Minima → List ℕ → List ℕ → Move
move_in g t q dem ks = move g.points t q (beside g) dem ks

-- what is left of ks, where dem are demoted
abbrev pub left_in : Setting → Float → Minima → List ℕ → List ℕ → List ℕ
left_in g t q dem ks = leave (ring_removals (length ks) g.points t q (beside g) dem ks) ks

-- ---- in memory

-- nothing stands twice
abbrev pub Once : List ℕ → Type 0
Once [] = Unit {0}
Once (k ∷ ks) = (member k ks ≡ false) × Once ks

abbrev pub view : Setting → Float → List ℕ → List ℕ → View
view g t dem ks = record { scale = demotable t; score = score_of g.points dem; lo = g.lo; hi = g.hi; kept = ks }

-- the other rings
pub record Others (g : Setting) (ws : List ℕ) (m : Layout) : Type 0 where
  pub before : Rings ws m 0 g.lo g.ends_before g.before
  pub after : Rings ws m g.hi m.points g.ends_after g.after

-- the ring, of which ks are kept and dem demoted
pub record State (b : Blocks) (g : Setting) (t : Float) (dem ks : List ℕ) (fs : List Float) (ws : List ℕ) (m : Layout) (len : ℕ) : Type 0 where
  pub rep : Rep (view g t dem ks) fs ws m len
  pub once : Once dem
  pub others : Others g ws m
  pub boxed : Boxed b m g.points fs ws

-- the ring, of which ks are kept, at its end
pub record Ended (b : Blocks) (g : Setting) (ks : List ℕ) (fs : List Float) (ws : List ℕ) (m : Layout) : Type 0 where
  pub ring : Ring ws m g.lo g.hi ks
  pub others : Others g ws m
  pub boxed : Boxed b m g.points fs ws

-- the points are lent, with a tolerance above zero
pub record Given (us vs : List Float) (m : Layout) (t : Float) (g : Setting) : Type 0 where
  pub placed : PlacedIn us vs m g.points
  pub finite : is_finite t ≡ true
  pub above : positive t ≡ true

-- nothing but the floats before `end`, the heap and the links changed
pub record Outside (end : ℕ) (fs : List Float) (ws : List ℕ) (m : Layout) (fs' : List Float) (ws' : List ℕ) : Type 0 where
  pub floats : (i : ℕ) → end ≤ i → get_or fs' i nan ≡ get_or fs i nan
  pub before : (i : ℕ) → i < m.heap → get_or ws' i 0 ≡ get_or ws i 0
  pub after : (i : ℕ) → m.links + 3 * m.points ≤ i → get_or ws' i 0 ≡ get_or ws i 0
