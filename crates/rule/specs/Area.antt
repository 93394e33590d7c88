-- The work area in lent memory: a slot's part, what is open, what zeroing leaves, and what may change. Assumes nothing.
use Rattle.std.specs.Prelude.{◌≡◌, Bool, false, not, List, ◌++◌, ℕ, suc, ◌*◌, eqb, length, take, drop, get_or, replicate, pos, Float}
use Rattle.std.specs.Float.{fin}
use Rattle.rule.specs.Sizes.{slot_floats, slot_words, area_floats, area_words}

-- two lent slices: a work area, or a slot's part of it
pub record Area : Type 0 where
  pub floats : List Float
  pub words : List ℕ

abbrev pub area : List Float → List ℕ → Area
area fs ws = record { floats = fs; words = ws }

-- the k-th of parts of n places each
abbrev pub piece : {A : Type 0} → ℕ → ℕ → List A → List A
piece n k l = take n (drop (k * n) l)

-- the part of slot k
abbrev pub part : ℕ → Area → Area
part k a = area (piece slot_floats k a.floats) (piece slot_words k a.words)

-- a slot is open exactly if the first u32 of its part is not 0
unfoldable pub is_open : Area → Bool
is_open p = not (eqb (get_or p.words 0 0) 0)

-- ---- zeros

-- +0.0
abbrev pub zero_float : Float
zero_float = fin false 0 (pos 0)

-- z in the first n places, and the rest as it was
unfoldable pub cleared : {A : Type 0} → A → ℕ → List A → List A
cleared z n l = replicate n z ++ drop n l

-- z in the k-th part of n places, and the rest as it was
unfoldable pub cleared_piece : {A : Type 0} → A → ℕ → ℕ → List A → List A
cleared_piece z n k l = take (k * n) l ++ (replicate n z ++ drop (suc k * n) l)

-- clear zeroes up to the table's size
unfoldable pub zeroed : Area → Area
unfolding cleared
zeroed a = area (cleared zero_float area_floats a.floats) (cleared 0 area_words a.words)

-- close zeroes the part of slot k
unfoldable pub closed_at : ℕ → Area → Area
unfolding cleared_piece
closed_at k a = area (cleared_piece zero_float slot_floats k a.floats) (cleared_piece 0 slot_words k a.words)

-- ---- what may change

-- only the k-th part of n places may differ
pub record OnlyPiece {A : Type 0} (n k : ℕ) (l l' : List A) : Type 0 where
  pub before : take (k * n) l' ≡ take (k * n) l
  pub after : drop (suc k * n) l' ≡ drop (suc k * n) l
  pub level : length l' ≡ length l

-- only the part of slot k
pub record OnlyPart (k : ℕ) (a b : Area) : Type 0 where
  pub floats : OnlyPiece slot_floats k a.floats b.floats
  pub words : OnlyPiece slot_words k a.words b.words
