-- The links of each point in lent memory: three runs of words, the previous point of each, the next of each, the mark of each. Assumes nothing.
use Rattle.std.specs.Prelude.{◌≡◌, List, ◌⊎◌, ℕ, ◌+◌, ◌*◌, ◌≤◌, ◌<◌, length, get_or, set}
use Rattle.layout.specs.declared.Layout.{Layout}
use Rattle.vscore.specs.declared.VScore.{VScore}

-- the memory has the links of every point
abbrev pub HasLinks : Layout → List ℕ → Type 0
HasLinks m ws = m.links + 3 * m.points ≤ length ws

abbrev pub previous_at : List ℕ → Layout → ℕ → ℕ
previous_at ws m i = get_or ws (m.links + i) 0

abbrev pub next_at : List ℕ → Layout → ℕ → ℕ
next_at ws m i = get_or ws (m.links + m.points + i) 0

abbrev pub mark_at : List ℕ → Layout → ℕ → ℕ
mark_at ws m i = get_or ws (m.links + 2 * m.points + i) 0

-- point i is kept and has a next one, so that a present segment starts there
pub record Starts (ws : List ℕ) (m : Layout) (i : ℕ) : Type 0 where
  pub kept : mark_at ws m i ≡ 0
  pub ahead : next_at ws m i < m.points

-- p is the previous point of a, q the next of b, and k the mark of c
abbrev pub written : List ℕ → Layout → ℕ → ℕ → ℕ → ℕ → ℕ → ℕ → List ℕ
written ws m a p b q c k = set (set (set ws (m.links + a) p) (m.links + m.points + b) q) (m.links + 2 * m.points + c) k

-- point i is kept between p and q
abbrev pub linked_as : List ℕ → Layout → ℕ → ℕ → ℕ → List ℕ
linked_as ws m i p q = written ws m i p i q i 0

-- s's point is taken out: its neighbours become each other's, and it is marked
abbrev pub unlinked : List ℕ → Layout → VScore → List ℕ
unlinked ws m s = written ws m s.right s.left s.left s.right s.current 1

-- ---- what stays

-- the links of point i are the same in both
pub record SameLinks (ws : List ℕ) (m : Layout) (ws' : List ℕ) (i : ℕ) : Type 0 where
  pub previous : previous_at ws' m i ≡ previous_at ws m i
  pub next : next_at ws' m i ≡ next_at ws m i
  pub mark : mark_at ws' m i ≡ mark_at ws m i

-- only the links of the points from lo to hi may differ
pub record OnlyLinks (ws : List ℕ) (m : Layout) (lo hi : ℕ) (ws' : List ℕ) : Type 0 where
  pub others : (i : ℕ) → i < m.points → (i < lo) ⊎ (hi ≤ i) → SameLinks ws m ws' i
  pub before : (j : ℕ) → j < m.links → get_or ws' j 0 ≡ get_or ws j 0
  pub after : (j : ℕ) → m.links + 3 * m.points ≤ j → get_or ws' j 0 ≡ get_or ws j 0
