-- Scores in memory that is the same where it counts. Assumes nothing.
use mathlib.Core.Path.{◌≡◌, refl, ◌∙◌}
use mathlib.Core.List.{List}
use Prim.Native.Nat.{ℕ, ◌+◌, ◌*◌, ◌≤◌, ◌<◌}
use native.Mathlib.Omega.{arith}
use lib.ListN.{length, get_or}
use lib.Ieee.{Float, nan}
use Rattle.layout.specs.declared.Layout.{Layout}
use Rattle.layout.specs.Layout.{Room}
use Rattle.scores.specs.Memory.{Holds, score_at, Framed}

-- ---- the memory has a place
pub room_holds : {m : Layout} {fs : List Float} {ws : List ℕ} → Room m fs ws → {k : ℕ} → k < m.capacity → Holds m k fs ws
room_holds r l = record { area = omega (arith, r.areas); words = omega (arith, r.scores, r.linked) }

-- an earlier one, of memory as long
pub holds_at : {m : Layout} {n : ℕ} {fs : List Float} {ws : List ℕ} → Holds m n fs ws
    → {fs' : List Float} {ws' : List ℕ} → length fs' ≡ length fs → length ws' ≡ length ws → {k : ℕ} → k ≤ n → Holds m k fs' ws'
holds_at h f w l = record { area = omega (arith, h.area); words = omega (arith, h.words) }

-- ---- nothing of the first n places changed
pub scores_same : (fs : List Float) (ws : List ℕ) (fs' : List Float) (ws' : List ℕ) (m : Layout) (n : ℕ) → ((k : ℕ) → k < n → get_or fs' k nan ≡ get_or fs k nan)
    → ((i : ℕ) → m.heap ≤ i → i < m.heap + 3 * n → get_or ws' i 0 ≡ get_or ws i 0) → (k : ℕ) → k < n → score_at fs' ws' m k ≡ score_at fs ws m k
scores_same fs ws fs' ws' m n f w k l i = record {
  left = w (m.heap + 3 * k) (omega arith) (omega arith) i;
  current = w (m.heap + 3 * k + 1) (omega arith) (omega arith) i;
  right = w (m.heap + 3 * k + 2) (omega arith) (omega arith) i;
  area = f k l i;
}

-- ---- nothing but the first n places changed
pub framed_self : {fs : List Float} {ws : List ℕ} {m : Layout} {n : ℕ} → Framed fs ws m n fs ws
framed_self = record { floats = λ i h. refl; before = λ i h. refl; after = λ i h. refl }

pub framed_more : {fs : List Float} {ws : List ℕ} {m : Layout} {k n : ℕ} {fs' : List Float} {ws' : List ℕ}
    → k ≤ n → Framed fs ws m k fs' ws' → Framed fs ws m n fs' ws'
framed_more l f = record { floats = λ i h. f.floats i (omega arith); before = f.before; after = λ i h. f.after i (omega arith) }

pub framed_then : {fs fs' fs'' : List Float} {ws ws' ws'' : List ℕ} {m : Layout} {n : ℕ}
    → Framed fs ws m n fs' ws' → Framed fs' ws' m n fs'' ws'' → Framed fs ws m n fs'' ws''
framed_then f g = record {
  floats = λ i h. g.floats i h ∙ f.floats i h;
  before = λ i h. g.before i h ∙ f.before i h;
  after = λ i h. g.after i h ∙ f.after i h;
}
