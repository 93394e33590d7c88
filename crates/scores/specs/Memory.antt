-- Scores in lent memory, as a function of the place. Assumes nothing.
use Rattle.std.specs.Prelude.{◌≡◌, List, ℕ, ◌+◌, ◌*◌, ◌≤◌, ◌<◌, length, get_or, set, Float}
use Rattle.std.specs.Float.{nan}
use Rattle.layout.specs.declared.Layout.{Layout}
use Rattle.vscore.specs.declared.VScore.{VScore}
use Rattle.vscore.specs.Score.{score}

-- the memory has place j, and so all before it
pub record Holds (m : Layout) (j : ℕ) (fs : List Float) (ws : List ℕ) : Type 0 where
  pub area : j < length fs
  pub words : m.heap + 3 * j + 2 < length ws

abbrev pub score_at : List Float → List ℕ → Layout → ℕ → VScore
score_at fs ws m j = score (get_or ws (m.heap + 3 * j) 0) (get_or ws (m.heap + 3 * j + 1) 0) (get_or ws (m.heap + 3 * j + 2) 0) (get_or fs j nan)

-- the floats, and the words, with s at place j
abbrev pub put_floats : List Float → ℕ → VScore → List Float
put_floats fs j s = set fs j s.area

abbrev pub put_words : List ℕ → Layout → ℕ → VScore → List ℕ
put_words ws m j s = set (set (set ws (m.heap + 3 * j) s.left) (m.heap + 3 * j + 1) s.current) (m.heap + 3 * j + 2) s.right

-- nothing but the first n places of the heap changed
pub record Framed (fs : List Float) (ws : List ℕ) (m : Layout) (n : ℕ) (fs' : List Float) (ws' : List ℕ) : Type 0 where
  pub floats : (i : ℕ) → n ≤ i → get_or fs' i nan ≡ get_or fs i nan
  pub before : (i : ℕ) → i < m.heap → get_or ws' i 0 ≡ get_or ws i 0
  pub after : (i : ℕ) → m.heap + 3 * n ≤ i → get_or ws' i 0 ≡ get_or ws i 0
