-- Checkpoints P1 to P12 of document 01, of the definitions, as one table: what is computed, and what is wanted. Assumes nothing.
use Rattle.std.specs.Prelude.{false, List, [], ◌∷◌, map, ℕ, pos, negsuc, Float}
use Rattle.std.proofs.Math.Option.{Option, none, some}
use Rattle.std.specs.Float.{fin}
use Rattle.rule.specs.Grid.{Point}
use Rattle.rule.specs.Plain.{Candidate, all, next, removed, index_rule, point_rule}
use Rattle.rule.specs.Preserve.{preserve_removed, of_line}
use Rattle.rule.specs.Repeat.{consecutive, anywhere}
use Rattle.rule.specs.Rings.{line_rule, polygon_rule}

-- ---- the lines

abbrev pub pt : ℕ → ℕ → Point
pt a b = record { x = pos a; y = pos b }

abbrev pub L : List Point
L = pt 5 2 ∷ pt 3 8 ∷ pt 6 20 ∷ pt 7 25 ∷ pt 10 10 ∷ []

abbrev pub M : List Point
M = pt 10 60 ∷ pt 135 68 ∷ pt 94 48 ∷ pt 126 31 ∷ pt 280 19 ∷ pt 117 48 ∷ pt 300 40 ∷ pt 301 10 ∷ []

abbrev pub flat : List Point
flat = pt 0 0 ∷ pt 1 1 ∷ pt 2 2 ∷ []

abbrev pub zigzag : List Point
zigzag = pt 0 0 ∷ pt 1 1 ∷ pt 2 0 ∷ pt 3 1 ∷ pt 4 0 ∷ []

abbrev pub square : List Point
square = pt 0 0 ∷ pt 4 0 ∷ pt 4 4 ∷ pt 0 4 ∷ pt 0 0 ∷ []

abbrev pub doubles : List Point
doubles = pt 0 0 ∷ pt 0 0 ∷ pt 1 0 ∷ pt 0 0 ∷ []

-- ---- tolerances

abbrev pub whole : ℕ → Float
whole n = fin false n (pos 0)

-- n / 2, of an odd n
abbrev pub half_of : ℕ → Float
half_of n = fin false n (negsuc 0)

-- the f64 nearest to 668.6
abbrev pub near668_6 : Float
near668_6 = fin false 5881067794648269 (negsuc 42)

-- ---- removals as numbers

-- index, doubled area, index, doubled area, ..
unfoldable pub in_turn : List Candidate → List ℕ
in_turn [] = []
in_turn (c ∷ cs) = c.current ∷ c.score ∷ in_turn cs

unfoldable pub currents : List Candidate → List ℕ
currents [] = []
currents (c ∷ cs) = c.current ∷ currents cs

-- nothing for finished; index and doubled area for a removal
unfoldable pub answer : Option Candidate → List ℕ
answer none = []
answer (some c) = c.current ∷ c.score ∷ []

-- ---- the table

pub record Checkpoint : Type 0 where
  pub given : List (List ℕ)
  pub wanted : List (List ℕ)

infix 3 ◌⊢◌
abbrev pub ◌⊢◌ : List (List ℕ) → List (List ℕ) → Checkpoint
g ⊢ w = record { given = g; wanted = w }

abbrev pub one : List ℕ → List (List ℕ)
one ks = ks ∷ []

unfoldable pub table : List Checkpoint
unfolding index_rule point_rule removed preserve_removed line_rule polygon_rule next all consecutive anywhere in_turn currents answer
table =
    -- P1
    (index_rule L (whole 30) ∷ in_turn (removed L (whole 30)) ∷ [] ⊢ (0 ∷ 3 ∷ 4 ∷ []) ∷ (2 ∷ 3 ∷ 1 ∷ 58 ∷ []) ∷ [])
    -- P2
    ∷ (index_rule L (whole 29) ∷ in_turn (removed L (whole 29)) ∷ [] ⊢ (0 ∷ 3 ∷ 4 ∷ []) ∷ (2 ∷ 3 ∷ 1 ∷ 58 ∷ []) ∷ [])
    -- P3
    ∷ (one (index_rule L (half_of 57)) ⊢ one (0 ∷ 1 ∷ 3 ∷ 4 ∷ []))
    -- P4, P5
    ∷ (one (index_rule flat (whole 0)) ⊢ one (0 ∷ 2 ∷ []))
    ∷ (one (point_rule flat (whole 0)) ⊢ one (0 ∷ 1 ∷ 2 ∷ []))
    -- P6
    ∷ (one (index_rule zigzag (whole 1)) ⊢ one (0 ∷ 3 ∷ 4 ∷ []))
    -- P7
    ∷ (one (index_rule M near668_6) ⊢ one (0 ∷ 1 ∷ 3 ∷ 4 ∷ 5 ∷ 6 ∷ 7 ∷ []))
    -- P8
    ∷ (one (line_rule M near668_6) ⊢ one (0 ∷ 3 ∷ 4 ∷ 5 ∷ 6 ∷ 7 ∷ []))
    ∷ (map currents (preserve_removed M near668_6 of_line (one (all M))) ⊢ one (2 ∷ 1 ∷ []))
    -- P9, by both rules
    ∷ (index_rule M (whole 668) ∷ line_rule M (whole 668) ∷ [] ⊢ (0 ∷ 1 ∷ 2 ∷ 3 ∷ 4 ∷ 5 ∷ 6 ∷ 7 ∷ []) ∷ (0 ∷ 1 ∷ 2 ∷ 3 ∷ 4 ∷ 5 ∷ 6 ∷ 7 ∷ []) ∷ [])
    -- P10
    ∷ (polygon_rule square (whole 100) (5 ∷ []) ⊢ one (0 ∷ 2 ∷ 3 ∷ 4 ∷ []))
    -- P11
    ∷ (consecutive doubles ∷ anywhere doubles ∷ [] ⊢ (0 ∷ 2 ∷ 3 ∷ []) ∷ (0 ∷ 2 ∷ []) ∷ [])
    -- P12
    ∷ (index_rule [] (whole 1) ∷ answer (next [] (whole 1) []) ∷ [] ⊢ [] ∷ [] ∷ [])
    ∷ []
