-- A heap of scores that has each candidate of the kept points, with stale ones among them, for both rules; and what picking gives. Assumes nothing.
use Rattle.std.specs.Prelude.{◌≡◌, Bool, cond, ◌&&◌, List, ℕ, ◌≤◌, ◌<◌, eqb, Float, Some, None}
use Rattle.std.specs.Prelude as prelude
use Rattle.std.proofs.Math.Option.{Option, none, some}
use Rattle.std.specs.Float.Ieee.{lt}
use Rattle.rule.specs.Plain.{Candidate, least}
use Rattle.layout.specs.declared.Layout.{Layout}
use Rattle.vscore.specs.declared.VScore.{VScore}
use Rattle.vscore.specs.Score.{candidate}
use Rattle.vscore.specs.Scale.{Scale, Faithful}
use Rattle.scores.specs.Memory.{score_at, Framed}
use Rattle.scores.specs.Scores.{Proper}
use Rattle.heap.specs.Order.{count}
use Rattle.heap.specs.Heap.{Heap}
use Rattle.links.specs.Ring.{In, Triple, Ring, Live}

-- What the memory stands for: the scale of areas, the score of three points now, the ring's points from lo to hi, and those kept.
pub record View : Type 0 where
  pub scale : Scale
  pub score : ℕ → ℕ → ℕ → ℕ
  pub lo : ℕ
  pub hi : ℕ
  pub kept : List ℕ

abbrev pub RingOf : View → List ℕ → Layout → Type 0
RingOf v ws m = Ring ws m v.lo v.hi v.kept

-- ---- the scores

-- A score, stale or not: no kept point but its own stands within it, and while it is of a candidate, its area is that of the candidate's score.
pub record Entry (v : View) (s : VScore) : Type 0 where
  pub proper : Proper v.scale s
  pub low : v.lo ≤ s.current
  pub high : s.current < v.hi
  pub clear : (k : ℕ) → s.left < k → k < s.right → In v.kept k → k ≡ s.current
  pub exact : Triple v.kept s.left s.current s.right → s.area ≡ v.scale.value (v.score s.left s.current s.right)

-- the score is of the points l, c and r
unfoldable pub triple : ℕ → ℕ → ℕ → VScore → Bool
triple l c r s = eqb s.left l && (eqb s.current c && eqb s.right r)

-- the first len places are a heap of scores that are P, among them one for each triple that All names
pub record Queue (σ : Scale) (P : VScore → Type 0) (fs : List Float) (ws : List ℕ) (m : Layout) (len : ℕ) (All : ℕ → ℕ → ℕ → Type 0) : Type 0 where
  pub each : (k : ℕ) → k < len → P (score_at fs ws m k)
  pub order : Heap σ len (score_at fs ws m)
  pub all : (l c r : ℕ) → All l c r → 0 < count (triple l c r) len (score_at fs ws m)

abbrev pub QueueOf : View → List Float → List ℕ → Layout → ℕ → (ℕ → ℕ → ℕ → Type 0) → Type 0
QueueOf v fs ws m len All = Queue v.scale (Entry v) fs ws m len All

-- ---- a score picked

-- a candidate whose area is not above the tolerance
unfoldable pub chosen : Scale → Float → Option Candidate → Option Candidate
chosen σ t none = none
chosen σ t (some c) = cond (lt t (σ.value c.score)) none (some c)

-- the rule's next removal, as far as the tolerance decides
abbrev pub Choice : View → Float → Option Candidate
Choice v t = chosen v.scale t (least v.score v.kept)

abbrev pub candidate_of : View → VScore → Candidate
candidate_of v s = candidate s (v.score s.left s.current s.right)

-- the candidates but that of s's point
abbrev pub But : List ℕ → VScore → ℕ → ℕ → ℕ → Type 0
But ks s l c r = Triple ks l c r × (c ≡ s.current → ⊥)

-- s is the rule's choice, and taken off
pub record Pick (v : View) (fs : List Float) (ws : List ℕ) (m : Layout) (len : ℕ) (t : Float) (s : VScore) : Type 0 where
  pub chose : Choice v t ≡ some (candidate_of v s)
  pub area : s.area ≡ v.scale.value (v.score s.left s.current s.right)
  pub stands : Triple v.kept s.left s.current s.right
  pub queue : QueueOf v fs ws m len (But v.kept s)

-- What is picked from the first len places: stale scores go, and then the first score goes, unless its area is above the tolerance.
abbrev pub PickIs : List Float → List ℕ → Layout → ℕ → Float → List Float → List ℕ → ℕ → prelude.Option VScore → Type 0
PickIs fs ws m len t fs' ws' k (Some s) = (k < len) × Live ws' m s
    × ((v : View) → Faithful v.scale → RingOf v ws m → QueueOf v fs ws m len (Triple v.kept) → Pick v fs' ws' m k t s)
PickIs fs ws m len t fs' ws' k None = (k ≤ len)
    × ((v : View) → Faithful v.scale → RingOf v ws m → QueueOf v fs ws m len (Triple v.kept)
    → (Choice v t ≡ none) × QueueOf v fs' ws' m k (Triple v.kept))

pub record PickDone (fs : List Float) (ws : List ℕ) (m : Layout) (len : ℕ) (t : Float)
    (fs' : List Float) (ws' : List ℕ) (k : ℕ) (r : prelude.Option VScore) : Type 0 where
  pub framed : Framed fs ws m len fs' ws'
  pub picked : PickIs fs ws m len t fs' ws' k r
