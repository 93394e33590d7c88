-- A score put on the heap, if there is one and room for it. Assumes nothing.
use Rattle.std.specs.Prelude.{◌≡◌, Option, Some, None, List, ℕ, suc, ◌≤◌, ◌<◌, Float}
use Rattle.layout.specs.declared.Layout.{Layout}
use Rattle.vscore.specs.declared.VScore.{VScore}
use Rattle.heap.specs.Heap.{Pushed}

pub record Unchanged (fs : List Float) (ws : List ℕ) (len : ℕ) (fs' : List Float) (ws' : List ℕ) (r : ℕ) : Type 0 where
  pub floats : fs' ≡ fs
  pub words : ws' ≡ ws
  pub count : r ≡ len

pub record Put (fs : List Float) (ws : List ℕ) (m : Layout) (len : ℕ) (s : VScore) (fs' : List Float) (ws' : List ℕ) (r : ℕ) : Type 0 where
  pub room : len < m.capacity
  pub pushed : Pushed fs ws m len s fs' ws'
  pub count : r ≡ suc len

-- pushed, if there is one and room for it
pub data PutIs (fs : List Float) (ws : List ℕ) (m : Layout) (len : ℕ) (fs' : List Float) (ws' : List ℕ) (r : ℕ) : Option VScore → Type 0 where
  pushes : {s : VScore} → Put fs ws m len s fs' ws' r → PutIs fs ws m len fs' ws' r (Some s)
  full : {s : VScore} → m.capacity ≤ len → Unchanged fs ws len fs' ws' r → PutIs fs ws m len fs' ws' r (Some s)
  nothing : Unchanged fs ws len fs' ws' r → PutIs fs ws m len fs' ws' r None
