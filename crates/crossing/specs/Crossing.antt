-- A new segment and the present ones, read from the links of all rings. Assumes nothing.
use Rattle.std.specs.Prelude.{◌≡◌, Bool, List, ℕ, Float, Option, Some, None}
use Rattle.rule.specs.Grid.{Point}
use Rattle.rule.specs.Preserve.{crosses}
use Rattle.layout.specs.declared.Layout.{Layout}
use Rattle.layout.specs.Points.{from, PlacedIn}
use Rattle.links.specs.Words.{next_at, Starts}
use Rattle.links.specs.Ring.{Rings}
use Rattle.segment.specs.Against.{AgainstIs}
use Rattle.blocks.specs.declared.Blocks.{Blocks}
use Rattle.blocks.specs.Boxes.{Boxed}

-- the present segment that starts at point i ends at j, if r is that; or none starts there
pub record LeadsTo (ws : List ℕ) (m : Layout) (i : ℕ) (r : Option ℕ) : Type 0 where
  pub some : (j : ℕ) → r ≡ Some j → Starts ws m i × (j ≡ next_at ws m i)
  pub none : r ≡ None → Starts ws m i → ⊥

-- of the segment from point i to point j and the new one from l to r
abbrev pub AgainstAt : Layout → List Float → List Float → (i j l r : ℕ) → Bool → Type 0
AgainstAt m us vs i j l r c =
    AgainstIs (from us m.x i) (from vs m.y i) (from us m.x j) (from vs m.y j) (from us m.x l) (from vs m.y l) (from us m.x r) (from vs m.y r) c

-- does the new segment from l to r cross a present one of any ring, if these lie in their blocks' boxes
abbrev pub CrossesIs : Blocks → Layout → (us vs fs : List Float) (ws : List ℕ) (l r : ℕ) → Bool → Type 0
CrossesIs b m us vs fs ws l r c = (ps : List Point) (ends : List ℕ) (kss : List (List ℕ)) → PlacedIn us vs m ps → Boxed b m ps fs ws
    → Rings ws m 0 m.points ends kss → c ≡ crosses ps l r kss
