-- A ring under way in lent memory, in a scratch and in a slot's part alike, for both rules; how it begins, and what a removal does to it.
-- Assumes nothing.
use Rattle.std.specs.Prelude.{◌≡◌, Option, List, ℕ, suc, ◌+◌, ◌*◌, ◌-◌, ◌≤◌, ◌<◌, length, get_or, Float}
use Rattle.std.specs.Float.{nan}
use Rattle.rule.specs.Grid.{Point, half}
use Rattle.rule.specs.Plain.{indices, without, area_at}
use Rattle.layout.specs.declared.Layout.{Layout}
use Rattle.vscore.specs.declared.VScore.{VScore}
use Rattle.vscore.specs.Scale.{Scale, Faithful}
use Rattle.scores.specs.Memory.{Framed}
use Rattle.links.specs.Ring.{Triple}
use Rattle.links.specs.Words.{unlinked}
use Rattle.layout.specs.Points.{PlacedIn}
use Rattle.scoring.specs.Plot.{priced}
use Rattle.thin.specs.Queue.{View, RingOf, QueueOf, Pick}

-- at most 2 (n - 2) scores ever stand on the heap: n - 2 at first, and a removal takes one off and puts at most two on
abbrev pub most : Layout → ℕ
most m = 2 * (m.points - 2)

-- The links are those of the kept points, the heap has their candidates, and there is room for all scores that are to come.
pub record Rep (v : View) (fs : List Float) (ws : List ℕ) (m : Layout) (len : ℕ) : Type 0 where
  pub ring : RingOf v ws m
  pub queue : QueueOf v fs ws m len (Triple v.kept)
  pub room : len + (length v.kept - 2) ≤ most m
  pub fits : most m ≤ m.capacity

-- ---- a removal

-- the view once s's point is removed, with the scores g from then on
abbrev pub less : View → VScore → (ℕ → ℕ → ℕ → ℕ) → View
less v s g = record { scale = v.scale; score = g; lo = v.lo; hi = v.hi; kept = without s.current v.kept }

-- The scores g suit the state without s's point: as before for what keeps the neighbours it had, and by the areas put on for the point's two neighbours.
pub record Suits (v : View) (s : VScore) (ps : List Point) (g : ℕ → ℕ → ℕ → ℕ) (demotion : Option Float) : Type 0 where
  pub stay : (l c r : ℕ) → (c ≡ s.left → ⊥) → (c ≡ s.right → ⊥) → g l c r ≡ v.score l c r
  pub left : (a : ℕ) → priced demotion (area_at ps a s.left s.right) ≡ v.scale.value (g a s.left s.right)
  pub right : (b : ℕ) → half (area_at ps s.left s.right b) ≡ v.scale.value (g s.left s.right b)

-- A picked point removed: whatever scores suit, the state is that without it. Nothing but the heap and the links changes.
pub record Removed (us vs : List Float) (fs : List Float) (ws : List ℕ) (m : Layout) (len : ℕ) (s : VScore) (demotion : Option Float)
    (fs' : List Float) (ws' : List ℕ) (r : ℕ) : Type 0 where
  pub floats : (i : ℕ) → m.capacity ≤ i → get_or fs' i nan ≡ get_or fs i nan
  pub before : (i : ℕ) → i < m.heap → get_or ws' i 0 ≡ get_or ws i 0
  pub links : (i : ℕ) → m.links ≤ i → get_or ws' i 0 ≡ get_or (unlinked ws m s) i 0
  pub few : r ≤ m.capacity
  pub rep : (v : View) (ps : List Point) (g : ℕ → ℕ → ℕ → ℕ) (t : Float) → Faithful v.scale → PlacedIn us vs m ps → RingOf v ws m → Pick v fs ws m len t s
      → suc len + (length v.kept - 2) ≤ most m → most m ≤ m.capacity → Suits v s ps g demotion → Rep (less v s g) fs' ws' m r

-- ---- the beginning

-- every point of the ring from lo to hi is kept
abbrev pub fresh : Scale → (ℕ → ℕ → ℕ → ℕ) → ℕ → ℕ → View
fresh σ f lo hi = record { scale = σ; score = f; lo = lo; hi = hi; kept = indices lo (hi - lo) }

-- the scores of a ring of which every point is kept
pub record Seeded (us vs : List Float) (fs : List Float) (ws : List ℕ) (m : Layout) (lo hi : ℕ) (fs' : List Float) (ws' : List ℕ) (r : ℕ) : Type 0 where
  pub framed : Framed fs ws m m.capacity fs' ws'
  pub few : r ≤ m.capacity
  pub rep : (σ : Scale) (f : ℕ → ℕ → ℕ → ℕ) (ps : List Point) → Faithful σ → PlacedIn us vs m ps → ((a b c : ℕ) → half (area_at ps a b c) ≡ σ.value (f a b c))
      → RingOf (fresh σ f lo hi) ws m → most m ≤ m.capacity → Rep (fresh σ f lo hi) fs' ws' m r
