-- The places below a place, and which of them is first. Assumes nothing.
use Rattle.std.specs.Prelude.{◌≡◌, cond, List, ℕ, ◌+◌, ◌≤◌, ◌<◌, get_or, Float}
use Rattle.std.specs.Float.{nan}
use Rattle.layout.specs.declared.Layout.{Layout}
use Rattle.vscore.specs.Score.{sooner}
use Rattle.vscore.specs.Scale.{Scale, Faithful}
use Rattle.scores.specs.declared.Child.{Child}
use Rattle.scores.specs.Memory.{Holds, score_at}
use Rattle.scores.specs.Scores.{Proper, Le}

-- places below a place
abbrev pub children : ℕ
children = 4

abbrev pub child_at : List Float → ℕ → Child
child_at fs j = record { place = j; area = get_or fs j nan }

-- the memory has the place, and a's area is the one there
pub record IsChild (fs : List Float) (ws : List ℕ) (m : Layout) (a : Child) : Type 0 where
  pub held : Holds m a.place fs ws
  pub same : a.area ≡ get_or fs a.place nan

-- b if its score is sooner than a's, a otherwise
unfoldable pub sooner_of : List Float → List ℕ → Layout → Child → Child → Child
sooner_of fs ws m a b = cond (sooner (score_at fs ws m b.place) (score_at fs ws m a.place)) b a

-- of the places from c on, as many as stand below a place and before n, r is the first
pub record FirstOf (fs : List Float) (ws : List ℕ) (m : Layout) (c n r : ℕ) : Type 0 where
  pub low : c ≤ r
  pub high : r < c + children
  pub within : r < n
  pub first : (σ : Scale) → Faithful σ → ((k : ℕ) → c ≤ k → k < n → Proper σ (score_at fs ws m k))
      → (k : ℕ) → c ≤ k → k < c + children → k < n → Le σ (score_at fs ws m r) (score_at fs ws m k)

-- a is the child at the first of the places from c to d
pub record First (fs : List Float) (ws : List ℕ) (m : Layout) (c d : ℕ) (a : Child) : Type 0 where
  pub child : IsChild fs ws m a
  pub first : FirstOf fs ws m c d a.place
