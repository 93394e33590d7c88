-- One step of the plain rule: nothing is demoted, and scores are doubled areas. Assumes nothing.
use Rattle.std.specs.Prelude.{◌≡◌, true, List, ℕ, ◌+◌, ◌*◌, ◌≤◌, ◌<◌, get_or, Float, Some, None}
use Rattle.std.specs.Prelude as prelude
use Rattle.std.proofs.Math.Option.{none, some}
use Rattle.std.specs.Float.{nan}
use Rattle.rule.specs.Grid.{Point, half, is_finite}
use Rattle.rule.specs.Plain.{Candidate, next, without, area_at}
use Rattle.layout.specs.declared.Layout.{Layout}
use Rattle.vscore.specs.Scale.{halves}
use Rattle.layout.specs.Points.{PlacedIn}
use Rattle.thin.specs.Queue.{View}
use Rattle.thin.specs.State.{Rep}
use Rattle.thin.specs.declared.Removal.{Removal}

-- the line of n points ps, of which ks are kept
abbrev pub line : List Point → ℕ → List ℕ → View
line ps n ks = record { scale = halves; score = area_at ps; lo = 0; hi = n; kept = ks }

abbrev pub LineRep : List Point → List ℕ → List Float → List ℕ → Layout → ℕ → Type 0
LineRep ps ks fs ws m len = Rep (line ps m.points ks) fs ws m len

-- point i is removed, of the area a: the rule's next
pub record Gone (ps : List Point) (t : Float) (ks : List ℕ) (i : ℕ) (a : Float) (fs' : List Float) (ws' : List ℕ) (m : Layout) (k : ℕ) : Type 0 where
  pub removal : Candidate
  pub next_is : next ps t ks ≡ some removal
  pub index : i ≡ removal.current
  pub area : a ≡ half removal.score
  pub rep : LineRep ps (without removal.current ks) fs' ws' m k

pub record Over (ps : List Point) (t : Float) (ks : List ℕ) (fs' : List Float) (ws' : List ℕ) (m : Layout) (k : ℕ) : Type 0 where
  pub next_is : next ps t ks ≡ none
  pub rep : LineRep ps ks fs' ws' m k

abbrev pub StepIs : List Point → Float → List ℕ → List Float → List ℕ → Layout → ℕ → prelude.Option Removal → Type 0
StepIs ps t ks fs' ws' m k (Some r) = Gone ps t ks r.index r.area fs' ws' m k
StepIs ps t ks fs' ws' m k None = Over ps t ks fs' ws' m k

pub record StepDone (us vs : List Float) (fs : List Float) (ws : List ℕ) (m : Layout) (len : ℕ) (t : Float)
    (fs' : List Float) (ws' : List ℕ) (k : ℕ) (r : prelude.Option Removal) : Type 0 where
  pub floats : (i : ℕ) → m.capacity ≤ i → get_or fs' i nan ≡ get_or fs i nan
  pub before : (i : ℕ) → i < m.heap → get_or ws' i 0 ≡ get_or ws i 0
  pub after : (i : ℕ) → m.links + 3 * m.points ≤ i → get_or ws' i 0 ≡ get_or ws i 0
  pub few : k ≤ m.capacity
  pub does : (ps : List Point) (ks : List ℕ) → is_finite t ≡ true → PlacedIn us vs m ps → LineRep ps ks fs ws m len → StepIs ps t ks fs' ws' m k r
