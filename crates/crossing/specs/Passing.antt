-- Which blocks are left out, and what a walk through the links finds. Assumes nothing.
use Rattle.std.specs.Prelude.{◌≡◌, Bool, true, false, ◌&&◌, List, ℕ, ◌≤◌, ◌<◌, ltb, Float, Option, Some, None}
use Rattle.rule.specs.Grid.{Point}
use Rattle.rule.specs.Preserve.{against, crosses}
use Rattle.layout.specs.declared.Layout.{Layout}
use Rattle.layout.specs.Points.{PlacedIn}
use Rattle.links.specs.Words.{next_at, Starts}
use Rattle.links.specs.Ring.{Rings}
use Rattle.bounds.specs.declared.Bounds.{Bounds}
use Rattle.bounds.specs.Bounds.{apart}
use Rattle.blocks.specs.declared.Blocks.{Blocks}
use Rattle.blocks.specs.Boxes.{box_at}

-- block k, which ends at `end`, is left out, if the points below `from` are passed: exactly where its box is apart from the new segment's
abbrev pub left_out : (fs : List Float) (b : Blocks) (k : ℕ) (new : Bounds) (from end : ℕ) → Bool
left_out fs b k new from end = ltb from end && ltb k b.number && apart (box_at fs b k) new

-- the links are those of rings, each by where it ends and what is kept of it
pub record Ringed (ws : List ℕ) (m : Layout) : Type 0 where
  pub ends : List ℕ
  pub kept : List (List ℕ)
  pub rings : Rings ws m 0 m.points ends kept

-- no present segment that starts from point lo to point hi is against the one from l to r
abbrev pub NoneAgainst : Layout → List Point → List ℕ → (lo hi l r : ℕ) → Type 0
NoneAgainst m ps ws lo hi l r = (i : ℕ) → lo ≤ i → i < hi → Starts ws m i → against ps l r i (next_at ws m i) ≡ false

-- the walk came to point j, which is not before hi, and none is against that starts before it
pub record Walks (m : Layout) (us vs : List Float) (ws : List ℕ) (lo hi l r j : ℕ) : Type 0 where
  pub far : hi ≤ j
  pub none : (ps : List Point) → PlacedIn us vs m ps → Ringed ws m → NoneAgainst m ps ws lo j l r

-- one is
abbrev pub Crosses : Layout → (us vs : List Float) (ws : List ℕ) (l r : ℕ) → Type 0
Crosses m us vs ws l r = (ps : List Point) (ends : List ℕ) (kss : List (List ℕ)) → PlacedIn us vs m ps → Rings ws m 0 m.points ends kss → crosses ps l r kss ≡ true

abbrev pub WalkIs : Layout → (us vs : List Float) (ws : List ℕ) (lo hi l r : ℕ) → Option ℕ → Type 0
WalkIs m us vs ws lo hi l r None = Crosses m us vs ws l r
WalkIs m us vs ws lo hi l r (Some j) = Walks m us vs ws lo hi l r j

pub record WalkDone (m : Layout) (us vs : List Float) (ws : List ℕ) (lo hi l r : ℕ) (c : Option ℕ) : Type 0 where
  pub walked : WalkIs m us vs ws lo hi l r c
