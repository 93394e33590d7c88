-- A ring's kept points as links: a line is the ring of all points, a polygon's rings follow one another. Assumes nothing.
use Rattle.std.specs.Prelude.{◌≡◌, true, cond, List, [], ◌∷◌, ◌⊎◌, ℕ, zero, suc, ◌-◌, ◌≤◌, ◌<◌, eqb}
use Rattle.layout.specs.declared.Layout.{Layout}
use Rattle.rule.specs.Preserve.{member}
use Rattle.vscore.specs.declared.VScore.{VScore}
use Rattle.links.specs.Words.{previous_at, next_at, mark_at}

-- ---- the kept points, by their marks

-- of n points from i on, those whose mark is 0
unfoldable pub kept_from : (ℕ → ℕ) → ℕ → ℕ → List ℕ
kept_from mark i zero = []
kept_from mark i (suc n) = let r = kept_from mark (suc i) n in cond (eqb (mark i) 0) (i ∷ r) r

-- of the points from lo to hi
abbrev pub unmarked : List ℕ → Layout → ℕ → ℕ → List ℕ
unmarked ws m lo hi = kept_from (mark_at ws m) lo (hi - lo)

-- of all points
abbrev pub all_unmarked : List ℕ → Layout → List ℕ
all_unmarked ws m = kept_from (mark_at ws m) 0 m.points

-- ---- neighbours

abbrev pub In : List ℕ → ℕ → Type 0
In ks i = member i ks ≡ true

-- b comes right after a among the kept
pub record Then (ks : List ℕ) (a b : ℕ) : Type 0 where
  pub from : In ks a
  pub to : In ks b
  pub up : a < b
  pub none : (k : ℕ) → a < k → k < b → In ks k → ⊥

-- l, c and r are kept, one right after the other
pub record Triple (ks : List ℕ) (l c r : ℕ) : Type 0 where
  pub low : Then ks l c
  pub high : Then ks c r

-- ---- a ring

-- Of n points, those from lo to hi with no mark are ks, and the links of these are to the ones before and after them in ks; n is none.
pub record Linked (previous next mark : ℕ → ℕ) (lo hi n : ℕ) (ks : List ℕ) : Type 0 where
  pub from : lo ≤ hi
  pub to : hi ≤ n
  pub kept : ks ≡ kept_from mark lo (hi - lo)
  pub before : (i : ℕ) → In ks i → ((previous i ≡ n) × ((k : ℕ) → k < i → In ks k → ⊥)) ⊎ Then ks (previous i) i
  pub after : (i : ℕ) → In ks i → ((next i ≡ n) × ((k : ℕ) → i < k → In ks k → ⊥)) ⊎ Then ks i (next i)

abbrev pub Ring : List ℕ → Layout → ℕ → ℕ → List ℕ → Type 0
Ring ws m lo hi ks = Linked (previous_at ws m) (next_at ws m) (mark_at ws m) lo hi m.points ks

-- a line is one ring
abbrev pub Line : List ℕ → Layout → List ℕ → Type 0
Line ws m ks = Ring ws m 0 m.points ks

-- the rings from point lo to point end: where each ends, and what is kept of it
abbrev pub Rings : List ℕ → Layout → ℕ → ℕ → List ℕ → List (List ℕ) → Type 0
Rings ws m lo end [] [] = lo ≡ end
Rings ws m lo end [] (ks ∷ kss) = ⊥
Rings ws m lo end (hi ∷ his) [] = ⊥
Rings ws m lo end (hi ∷ his) (ks ∷ kss) = Ring ws m lo hi ks × Rings ws m hi end his kss

-- ---- a score that is not stale

-- the score is of a kept point and its present neighbours
pub record Alive (previous next mark : ℕ → ℕ) (n : ℕ) (s : VScore) : Type 0 where
  pub left : s.left < n
  pub current : s.current < n
  pub right : s.right < n
  pub unmarked : mark s.current ≡ 0
  pub behind : previous s.current ≡ s.left
  pub ahead : next s.current ≡ s.right

abbrev pub Live : List ℕ → Layout → VScore → Type 0
Live ws m s = Alive (previous_at ws m) (next_at ws m) (mark_at ws m) m.points s
