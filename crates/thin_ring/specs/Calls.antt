-- What one move and one ring promise. Assumes nothing.
use Rattle.std.specs.Prelude.{◌≡◌, Bool, true, false, List, [], ℕ, ◌-◌, ◌≤◌, length, get_or, Float}
use Rattle.std.specs.Float.{nan}
use Rattle.rule.specs.Plain.{Candidate, indices, without}
use Rattle.rule.specs.Preserve.{Minima, stop, remove, demoted}
use Rattle.layout.specs.declared.Layout.{Layout}
use Rattle.blocks.specs.declared.Blocks.{Blocks}
use Rattle.blocks.specs.Boxes.{boxes_end}
use Rattle.thin.specs.State.{most}
use Rattle.thin_ring.specs.State.{Setting, move_in, left_in, State, Ended, Given, Outside}
use Rattle.thin_ring.specs.declared.Minima as declared

-- the rule's minima, as the code has them
abbrev pub of_minima : declared.Minima → Minima
of_minima q = record { first = q.first; second = q.second }

-- ---- one move

-- the rule removes a candidate, and the state is that without it
pub record Removal (b : Blocks) (g : Setting) (t : Float) (q : Minima) (dem ks : List ℕ) (fs' : List Float) (ws' : List ℕ) (m : Layout) (k : ℕ) : Type 0 where
  pub candidate : Candidate
  pub crossed : Bool
  pub moves : move_in g t q dem ks ≡ remove candidate crossed
  pub state : State b g t (demoted candidate crossed dem) (without candidate.current ks) fs' ws' m k

-- boxes and links are as they were
pub record Untouched (b : Blocks) (fs : List Float) (ws : List ℕ) (m : Layout) (fs' : List Float) (ws' : List ℕ) : Type 0 where
  pub boxes : (i : ℕ) → b.at ≤ i → get_or fs' i nan ≡ get_or fs i nan
  pub links : (i : ℕ) → m.links ≤ i → get_or ws' i 0 ≡ get_or ws i 0

-- a removal, with so many scores left; or the ring's end
abbrev pub MoveIs : Blocks → (us vs fs : List Float) (ws : List ℕ) (m : Layout) (len count : ℕ) (q : Minima) (t : Float) (fs' : List Float) (ws' : List ℕ)
    (k : ℕ) → Bool → Type 0
MoveIs b us vs fs ws m len count q t fs' ws' k false = Untouched b fs ws m fs' ws'
    × ((g : Setting) (dem ks : List ℕ) → Given us vs m t g → count ≡ length ks → State b g t dem ks fs ws m len → move_in g t q dem ks ≡ stop)
MoveIs b us vs fs ws m len count q t fs' ws' k true = (k ≤ m.capacity)
    × ((g : Setting) (dem ks : List ℕ) → Given us vs m t g → count ≡ length ks → State b g t dem ks fs ws m len → Removal b g t q dem ks fs' ws' m k)

pub record MoveDone (b : Blocks) (us vs fs : List Float) (ws : List ℕ) (m : Layout) (len count : ℕ) (q : Minima) (t : Float)
    (fs' : List Float) (ws' : List ℕ) (k : ℕ) (r : Bool) : Type 0 where
  pub frame : Outside (boxes_end b) fs ws m fs' ws'
  pub moved : MoveIs b us vs fs ws m len count q t fs' ws' k r

-- ---- one ring

-- a ring of `count` kept points thinned to its end
pub record RunDone (b : Blocks) (us vs fs : List Float) (ws : List ℕ) (m : Layout) (len count : ℕ) (q : Minima) (t : Float) (fs' : List Float) (ws' : List ℕ) : Type 0 where
  pub frame : Outside (boxes_end b) fs ws m fs' ws'
  pub does : (g : Setting) (dem ks : List ℕ) → Given us vs m t g → count ≡ length ks → State b g t dem ks fs ws m len → Ended b g (left_in g t q dem ks) fs' ws' m

-- a ring of which every point is kept, thinned to its end
pub record RingDone (b : Blocks) (us vs fs : List Float) (ws : List ℕ) (m : Layout) (lo hi : ℕ) (q : Minima) (t : Float) (fs' : List Float) (ws' : List ℕ) : Type 0 where
  pub frame : Outside (boxes_end b) fs ws m fs' ws'
  pub does : (g : Setting) → Given us vs m t g → g.lo ≡ lo → g.hi ≡ hi → most m ≤ m.capacity → Ended b g (indices lo (hi - lo)) fs ws m
      → Ended b g (left_in g t q [] (indices lo (hi - lo))) fs' ws' m
