-- A heap of scores, for any scale of areas, and what push and pop do to it. Assumes nothing.
use Rattle.std.specs.Prelude.{◌≡◌, Bool, List, ◌⊎◌, ℕ, suc, ◌+◌, ◌<◌, Float}
use Rattle.layout.specs.declared.Layout.{Layout}
use Rattle.vscore.specs.declared.VScore.{VScore}
use Rattle.vscore.specs.Scale.{Scale, Faithful}
use Rattle.scores.specs.Memory.{score_at, Framed}
use Rattle.scores.specs.Scores.{Proper, Le}
use Rattle.heap.specs.Order.{HeapBy, tick, count}

abbrev pub Heap : Scale → ℕ → (ℕ → VScore) → Type 0
Heap σ n h = HeapBy (Le σ) n h

-- the first n places
abbrev pub AllProper : Scale → ℕ → (ℕ → VScore) → Type 0
AllProper σ n h = (k : ℕ) → k < n → Proper σ (h k)

-- x stands at one of the first n places
pub record Among (n : ℕ) (h : ℕ → VScore) (x : VScore) : Type 0 where
  pub place : ℕ
  pub below : place < n
  pub same : x ≡ h place

-- s is added to the heap of the first len places: the scores are the old ones and s
pub record Pushed (fs : List Float) (ws : List ℕ) (m : Layout) (len : ℕ) (s : VScore) (fs' : List Float) (ws' : List ℕ) : Type 0 where
  pub framed : Framed fs ws m (suc len) fs' ws'
  pub made : (q : VScore → Bool) → count q (suc len) (score_at fs' ws' m) ≡ count q len (score_at fs ws m) + tick (q s)
  pub from : (k : ℕ) → k < suc len → (score_at fs' ws' m k ≡ s) ⊎ Among len (score_at fs ws m) (score_at fs' ws' m k)
  pub heap : (σ : Scale) → Faithful σ → AllProper σ len (score_at fs ws m) → Proper σ s → Heap σ len (score_at fs ws m) → Heap σ (suc len) (score_at fs' ws' m)

-- s was the first of the heap of n + 1 places, and is taken off: the old scores are the new ones and s
pub record Popped (fs : List Float) (ws : List ℕ) (m : Layout) (n : ℕ) (s : VScore) (fs' : List Float) (ws' : List ℕ) : Type 0 where
  pub root : s ≡ score_at fs ws m 0
  pub framed : Framed fs ws m (suc n) fs' ws'
  pub made : (q : VScore → Bool) → count q n (score_at fs' ws' m) + tick (q s) ≡ count q (suc n) (score_at fs ws m)
  pub from : (k : ℕ) → k < n → Among (suc n) (score_at fs ws m) (score_at fs' ws' m k)
  pub heap : (σ : Scale) → Faithful σ → AllProper σ (suc n) (score_at fs ws m) → Heap σ (suc n) (score_at fs ws m) → Heap σ n (score_at fs' ws' m)
