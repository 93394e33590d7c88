-- The reasons of document 01: when each row applies, and the first that applies in the order of each call. Assumes nothing.
use Rattle.std.specs.Prelude.{Bool, true, false, not, ◌&&◌, ◌||◌, cond, List, [], ◌∷◌, ◌++◌, ℕ, suc, ltb, eqb, length, Float}
use Rattle.std.proofs.Math.Option.{Option, none, some}
use Rattle.rule.specs.Sizes.{most_points, slots, scratch_floats, scratch_words, area_floats, area_words}
use Rattle.rule.specs.Grid.{on_grid, points, is_finite}
use Rattle.rule.specs.Rings.{bad_table, rings_from, all_closed}
use Rattle.rule.specs.Answers.{Answer, refused}
use Rattle.rule.specs.Area.{Area, part, is_open}

-- of points that stand from index i on, the least index with a coordinate off the grid
unfoldable pub off_grid_from : ℕ → List Float → List Float → Option ℕ
unfolding on_grid
off_grid_from i [] vs = none
off_grid_from i (u ∷ us) [] = none
off_grid_from i (u ∷ us) (v ∷ vs) = let r = off_grid_from (suc i) us vs in cond (on_grid u && on_grid v) r (some i)

unfoldable pub first_off_grid : List Float → List Float → Option ℕ
unfolding off_grid_from
first_off_grid us vs = off_grid_from 0 us vs

abbrev pub is_some : Option ℕ → Bool
is_some none = false
is_some (some i) = true

abbrev pub or_zero : Option ℕ → ℕ
or_zero none = 0
or_zero (some i) = i

-- ---- the rows

pub record Row : Type 0 where
  pub applies : Bool
  pub number : ℕ

infix 4 ◌⇒◌
abbrev pub ◌⇒◌ : Bool → ℕ → Row
b ⇒ n = record { applies = b; number = n }

abbrev pub lengths_differ : List Float → List Float → Row
lengths_differ us vs = not (eqb (length us) (length vs)) ⇒ 1

abbrev pub too_many_points : List Float → Row
too_many_points us = ltb most_points (length us) ⇒ 2

abbrev pub some_off_grid : List Float → List Float → Row
some_off_grid us vs = is_some (first_off_grid us vs) ⇒ 3

abbrev pub tolerance_not_finite : Float → Row
tolerance_not_finite t = not (is_finite t) ⇒ 4

abbrev pub ring_table : ℕ → List ℕ → Row
ring_table n table = bad_table n table ⇒ 5

abbrev pub ring_not_closed : List Float → List Float → List ℕ → Row
ring_not_closed us vs table = not (all_closed (points us vs) (rings_from 0 table)) ⇒ 6

-- an output of so many places, for so many
abbrev pub output_short : ℕ → ℕ → Row
output_short room n = ltb room n ⇒ 7

abbrev pub outputs_short : ℕ → ℕ → ℕ → ℕ → Row
outputs_short room n ringRoom rings = (ltb room n || ltb ringRoom rings) ⇒ 7

-- lent floats and words, for the scratch of n points
abbrev pub scratch_short : ℕ → ℕ → ℕ → Row
scratch_short floats words n = (ltb floats (scratch_floats n) || ltb words (scratch_words n)) ⇒ 8

abbrev pub area_short : Area → Row
area_short a = (ltb (length a.floats) area_floats || ltb (length a.words) area_words) ⇒ 8

abbrev pub no_such_slot : ℕ → Row
no_such_slot k = not (ltb k slots) ⇒ 9

abbrev pub slot_is_open : ℕ → Area → Row
slot_is_open k a = is_open (part k a) ⇒ 10

abbrev pub slot_not_open : ℕ → Area → Row
slot_not_open k a = not (is_open (part k a)) ⇒ 11

-- the number of the first row that applies, or 0
abbrev pub first_of : List Row → ℕ
first_of [] = 0
first_of (r ∷ rs) = let n = first_of rs in cond r.applies r.number n

-- the refusal of that number, with the place that comes with 3
abbrev pub refusal : ℕ → Option ℕ → Answer
refusal n off = refused n (cond (eqb n 3) (or_zero off) 0)

-- ---- whole calls

-- 1, 2, 4, 3
abbrev pub line_rows : List Float → List Float → Float → List Row
line_rows us vs t = lengths_differ us vs ∷ too_many_points us ∷ tolerance_not_finite t ∷ some_off_grid us vs ∷ []

-- 1, 2, 3, 7
unfoldable pub repeat_reason : List Float → List Float → ℕ → ℕ
repeat_reason us vs room = first_of (lengths_differ us vs ∷ too_many_points us ∷ some_off_grid us vs ∷ output_short room (length us) ∷ [])

-- 1, 2, 4, 3, 7, 8
unfoldable pub thin_reason : List Float → List Float → Float → ℕ → ℕ → ℕ → ℕ
thin_reason us vs t room floats words = first_of (line_rows us vs t ++ (output_short room (length us) ∷ scratch_short floats words (length us) ∷ []))

-- 1, 2, 4, 3, 5, 6, 7, 8
unfoldable pub polygon_reason : List Float → List Float → Float → List ℕ → ℕ → ℕ → ℕ → ℕ → ℕ
polygon_reason us vs t table room ringRoom floats words =
    first_of (line_rows us vs t ++ (ring_table (length us) table ∷ ring_not_closed us vs table ∷ outputs_short room (length us) ringRoom (length table) ∷ scratch_short floats words (length us) ∷ []))

-- ---- slots

-- 8
unfoldable pub clear_reason : Area → ℕ
clear_reason a = first_of (area_short a ∷ [])

-- 8, 9, 10, 1, 2, 4, 3
unfoldable pub open_reason : ℕ → List Float → List Float → Float → Area → ℕ
open_reason k us vs t a = first_of (area_short a ∷ no_such_slot k ∷ slot_is_open k a ∷ line_rows us vs t)

-- step and close: 8, 9, 11
unfoldable pub slot_reason : ℕ → Area → ℕ
slot_reason k a = first_of (area_short a ∷ no_such_slot k ∷ slot_not_open k a ∷ [])

-- read, where so many points are left: 8, 9, 11, 7
unfoldable pub read_reason : ℕ → Area → ℕ → ℕ → ℕ
read_reason k a room left = first_of (area_short a ∷ no_such_slot k ∷ slot_not_open k a ∷ output_short room left ∷ [])
