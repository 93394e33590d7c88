-- S12: the checkpoints P1 to P12 hold; and rows of our own for what they let pass. Assumes nothing.
use mathlib.Core.Path.{◌≡◌, refl}
use mathlib.Core.Bool.{true, false}
use mathlib.Core.List.{List, [], ◌∷◌, map}
use mathlib.Core.Option.{none, some}
use Prim.Native.Nat.{◌*◌}
use lib.ListN.{replicate}
use lib.IntN.{pos, negsuc}
use lib.Ieee.{Float, nan, inf, fin, binary64, of_bits}
use Rattle.rule.specs.Sizes.{slots, slot_floats, slot_words, area_floats, area_words}
use Rattle.rule.specs.Grid.{Point, on_grid, coord, points, half, within, positive}
use Rattle.rule.specs.Segment.{sameℤ}
use Rattle.rule.specs.Plain.{index_rule}
use Rattle.rule.specs.Preserve.{area_of, score_of, demoted}
use Rattle.rule.specs.Rings.{bad_table, rings_from, ends_from, all_closed, line_rule, polygon_rule}
use Rattle.rule.specs.Answers.{done, kept, removal, finished, refused}
use Rattle.rule.specs.Area.{area, is_open, zero_float}
use Rattle.rule.specs.Reasons.{first_off_grid, refusal, repeat_reason, thin_reason, polygon_reason, clear_reason, open_reason, slot_reason, read_reason}
use Rattle.rule.specs.SlotCalls.{is_refused}
use Rattle.rule.specs.Slots.{step_answer}
use Rattle.rule.specs.Checkpoints.{pt, L, M, square, whole, half_of, near668_6, Checkpoint, ◌⊢◌, one, table}

-- ---- P1 to P12, as one table under one claim
pub checkpoints : map (λ r. r.given) table ≡ map (λ r. r.wanted) table
unfolding table
checkpoints = refl

-- 668.6 by its bits
pub near_is : of_bits binary64 0x4084E4CCCCCCCCCD ≡ near668_6
unfolding of_bits
near_is = refl

-- ---- the preserving rule

-- A square with a hole across both diagonals: at the second minimum a crossing stops it, and the other ring is seen.
abbrev pub holed : List Point
holed = pt 0 0 ∷ pt 4 0 ∷ pt 4 4 ∷ pt 0 4 ∷ pt 0 0 ∷ pt 1 2 ∷ pt 2 1 ∷ pt 3 3 ∷ pt 1 2 ∷ []

-- So too where the other ring comes first.
abbrev hole_first : List Point
hole_first = pt 1 2 ∷ pt 2 1 ∷ pt 3 3 ∷ pt 1 2 ∷ pt 0 0 ∷ pt 4 0 ∷ pt 4 4 ∷ pt 0 4 ∷ pt 0 0 ∷ []

-- The hole is thinned beside the shell already thinned: beside the whole shell it would keep its point 6.
abbrev beside : List Point
beside = pt 3 1 ∷ pt 1 0 ∷ pt 0 2 ∷ pt 0 0 ∷ pt 3 1 ∷ pt 0 1 ∷ pt 3 1 ∷ pt 1 1 ∷ pt 1 3 ∷ pt 0 1 ∷ []

-- The new segment has the coordinates of a present one's end under another index: no crossing.
abbrev revisited : List Point
revisited = pt 3 1 ∷ pt 0 3 ∷ pt 3 1 ∷ pt 1 1 ∷ pt 3 1 ∷ []

-- The ring has four points, at the first minimum, and stays.
abbrev spike : List Point
spike = pt 0 0 ∷ pt 2 0 ∷ pt 1 0 ∷ pt 0 0 ∷ []

-- The removal of point 3 crosses, and demotes the point before it, not the one after.
abbrev hook : List Point
hook = pt 0 2 ∷ pt 2 1 ∷ pt 0 0 ∷ pt 0 1 ∷ pt 1 2 ∷ []

abbrev crossed : List Point
crossed = pt 3 1 ∷ pt 2 2 ∷ pt 0 4 ∷ pt 3 4 ∷ pt 1 1 ∷ []

-- A removal that does not cross demotes nothing.
abbrev bend : List Point
bend = pt 0 2 ∷ pt 2 2 ∷ pt 0 1 ∷ pt 1 1 ∷ []

-- Segments that touch in a point, lie on one line or have no length.
abbrev touching : List Point
touching = pt 3 0 ∷ pt 1 0 ∷ pt 4 3 ∷ pt 2 0 ∷ pt 2 0 ∷ []

abbrev upright : List Point
upright = pt 1 3 ∷ pt 5 1 ∷ pt 1 5 ∷ pt 1 4 ∷ pt 1 1 ∷ []

-- Segments that share an end with the new one, at either end of each.
abbrev four_points : List Point
four_points = pt 1 0 ∷ pt 4 3 ∷ pt 0 4 ∷ pt 0 1 ∷ []

abbrev other_four : List Point
other_four = pt 5 2 ∷ pt 1 3 ∷ pt 3 3 ∷ pt 0 1 ∷ []

-- Of six points one goes though its new segment crosses: that is above the second minimum.
abbrev six_around : List Point
six_around = pt 1 0 ∷ pt 0 0 ∷ pt 0 1 ∷ pt 1 1 ∷ pt 0 0 ∷ pt 1 0 ∷ []

-- Each segment is looked at, not every second one.
abbrev folded : List Point
folded = pt 0 2 ∷ pt 0 1 ∷ pt 2 0 ∷ pt 0 2 ∷ pt 0 1 ∷ pt 0 0 ∷ []

unfoldable pub our_rows : List Checkpoint
unfolding index_rule line_rule polygon_rule
our_rows =
    (polygon_rule holed (whole 100) (5 ∷ 9 ∷ []) ⊢ (0 ∷ 1 ∷ 2 ∷ 3 ∷ 4 ∷ []) ∷ (5 ∷ 6 ∷ 7 ∷ 8 ∷ []) ∷ [])
    ∷ (polygon_rule hole_first (whole 100) (4 ∷ 9 ∷ []) ⊢ (0 ∷ 1 ∷ 2 ∷ 3 ∷ []) ∷ (4 ∷ 5 ∷ 6 ∷ 7 ∷ 8 ∷ []) ∷ [])
    ∷ (polygon_rule beside (whole 100) (5 ∷ 10 ∷ []) ⊢ (0 ∷ 1 ∷ 3 ∷ 4 ∷ []) ∷ (5 ∷ 7 ∷ 8 ∷ 9 ∷ []) ∷ [])
    ∷ (polygon_rule revisited (whole 3) (5 ∷ []) ⊢ one (0 ∷ 2 ∷ 3 ∷ 4 ∷ []))
    ∷ (polygon_rule spike (whole 6) (4 ∷ []) ⊢ one (0 ∷ 1 ∷ 2 ∷ 3 ∷ []))
    ∷ (polygon_rule six_around (whole 1) (6 ∷ []) ⊢ one (0 ∷ 3 ∷ 4 ∷ 5 ∷ []))
    -- an empty ring is never crossed
    ∷ (polygon_rule square (whole 100) (5 ∷ 5 ∷ []) ⊢ (0 ∷ 2 ∷ 3 ∷ 4 ∷ []) ∷ [] ∷ [])
    ∷ (one (line_rule folded (whole 1)) ⊢ one (0 ∷ 2 ∷ 5 ∷ []))
    ∷ (one (line_rule hook (whole 1)) ⊢ one (0 ∷ 4 ∷ []))
    ∷ (one (line_rule crossed (whole 2)) ⊢ one (0 ∷ 2 ∷ 3 ∷ 4 ∷ []))
    ∷ (one (line_rule bend (half_of 1)) ⊢ one (0 ∷ 1 ∷ 3 ∷ []))
    ∷ (one (line_rule touching (half_of 1)) ⊢ one (0 ∷ 4 ∷ []))
    ∷ (one (line_rule upright (whole 1)) ⊢ one (0 ∷ 1 ∷ 4 ∷ []))
    ∷ (one (line_rule four_points (whole 6)) ⊢ one (0 ∷ 3 ∷ []))
    ∷ (one (line_rule other_four (whole 3)) ⊢ one (0 ∷ 2 ∷ 3 ∷ []))
    -- a tolerance above all areas keeps the ends, and one of zero keeps all
    ∷ (index_rule M (whole 100000) ∷ line_rule M (whole 100000) ∷ [] ⊢ (0 ∷ 7 ∷ []) ∷ (0 ∷ 7 ∷ []) ∷ [])
    ∷ (line_rule touching (whole 0) ∷ index_rule touching (whole 0) ∷ [] ⊢ (0 ∷ 1 ∷ 2 ∷ 3 ∷ 4 ∷ []) ∷ (0 ∷ 1 ∷ 2 ∷ 4 ∷ []) ∷ [])
    ∷ []

pub our_rows_lem : map (λ r. r.given) our_rows ≡ map (λ r. r.wanted) our_rows
unfolding our_rows
our_rows_lem = refl

-- A removal ends the demotion of both neighbours, and one that crossed demotes the left one.
pub demoted_row : map (λ crossed. demoted (record { left = 1; current = 2; right = 3; score = 0 }) crossed (3 ∷ 1 ∷ 7 ∷ [])) (false ∷ true ∷ []) ≡ (7 ∷ []) ∷ (1 ∷ 7 ∷ []) ∷ []
unfolding demoted
demoted_row = refl

-- What point 2 of L is ranked by: its area of 1.5, also beside demoted neighbours; minus the tolerance while it is demoted itself.
pub demoted_area_row : map (λ dem. area_of L (whole 30) dem 1 2 3) ([] ∷ (1 ∷ 3 ∷ []) ∷ (2 ∷ []) ∷ []) ≡ half_of 3 ∷ half_of 3 ∷ fin true 30 (pos 0) ∷ []
unfolding area_of
demoted_area_row = refl

pub demoted_score_row : map (λ dem. score_of L dem 1 2 3) ([] ∷ (1 ∷ 3 ∷ []) ∷ (2 ∷ []) ∷ []) ≡ 4 ∷ 4 ∷ 0 ∷ []
unfolding score_of
demoted_score_row = refl

-- ---- the grid, and exact values

-- 2^24 either way and -0.0 are on it; 2^24 + 1 either way, 0.5, NaN and the infinities are not
pub on_grid_row : map on_grid (fin false 1 (pos 24) ∷ fin true 1 (pos 24) ∷ fin true 0 (pos 0) ∷ fin false 16777217 (pos 0) ∷ fin true 16777217 (pos 0) ∷ fin false 1 (negsuc 0) ∷ nan ∷ inf false ∷ inf true ∷ [])
    ≡ true ∷ true ∷ true ∷ false ∷ false ∷ false ∷ false ∷ false ∷ false ∷ []
unfolding on_grid
on_grid_row = refl

pub coord_row : map coord (fin true 0 (pos 0) ∷ fin true 1 (pos 24) ∷ fin false 3 (pos 2) ∷ []) ≡ pos 0 ∷ negsuc 16777215 ∷ pos 12 ∷ []
unfolding coord
coord_row = refl

pub points_row : points (whole 1 ∷ whole 2 ∷ []) (whole 3 ∷ whole 4 ∷ whole 5 ∷ []) ≡ pt 1 3 ∷ pt 2 4 ∷ []
unfolding points
points_row = refl

-- equal by their signs too
pub same_row : map (λ a. map (λ b. sameℤ a b) (pos 3 ∷ negsuc 3 ∷ negsuc 4 ∷ [])) (pos 3 ∷ negsuc 3 ∷ []) ≡ (true ∷ false ∷ false ∷ []) ∷ (false ∷ true ∷ false ∷ []) ∷ []
unfolding sameℤ
same_row = refl

-- what zeroing writes, by its bits
pub zero_is : of_bits binary64 0 ≡ zero_float
unfolding of_bits
zero_is = refl

-- 0, 1.5, 29 and the largest area, 2^49
pub half_row : map half (0 ∷ 3 ∷ 58 ∷ 1125899906842624 ∷ []) ≡ fin false 0 (pos 0) ∷ fin false 3 (negsuc 0) ∷ fin false 29 (pos 0) ∷ fin false 1 (pos 49) ∷ []
unfolding half
half_row = refl

-- areas of 0, 28.5 and 29 against 28.5, against 0, against -0.0, against -1, and against what is no tolerance
pub within_row : map (λ t. map (λ d. within d t) (0 ∷ 57 ∷ 58 ∷ [])) (half_of 57 ∷ whole 0 ∷ fin true 0 (pos 0) ∷ fin true 1 (pos 0) ∷ inf false ∷ inf true ∷ nan ∷ [])
    ≡ (true ∷ true ∷ false ∷ []) ∷ (true ∷ false ∷ false ∷ []) ∷ (true ∷ false ∷ false ∷ []) ∷ (false ∷ false ∷ false ∷ [])
    ∷ (true ∷ true ∷ true ∷ []) ∷ (false ∷ false ∷ false ∷ []) ∷ (false ∷ false ∷ false ∷ []) ∷ []
unfolding within
within_row = refl

pub positive_row : map positive (whole 1 ∷ whole 0 ∷ fin true 0 (pos 0) ∷ fin true 1 (pos 0) ∷ inf false ∷ inf true ∷ nan ∷ [])
    ≡ true ∷ false ∷ false ∷ false ∷ true ∷ false ∷ false ∷ []
unfolding positive
positive_row = refl

-- ---- ring tables of nine points: good ones, an empty one, one too short, one that decreases, one that ends late
pub table_row : map (bad_table 9) ((9 ∷ []) ∷ (5 ∷ 5 ∷ 9 ∷ []) ∷ [] ∷ (5 ∷ 8 ∷ []) ∷ (9 ∷ 5 ∷ 9 ∷ []) ∷ (5 ∷ 10 ∷ []) ∷ [])
    ≡ false ∷ false ∷ true ∷ true ∷ true ∷ true ∷ []
unfolding bad_table
table_row = refl

-- 64 rings, and 65
pub most_rings_lem : map (λ n. bad_table 0 (replicate n 0)) (64 ∷ 65 ∷ []) ≡ false ∷ true ∷ []
unfolding bad_table
most_rings_lem = refl

pub rings_row : rings_from 0 (2 ∷ 2 ∷ 5 ∷ []) ≡ (0 ∷ 1 ∷ []) ∷ [] ∷ (2 ∷ 3 ∷ 4 ∷ []) ∷ []
unfolding rings_from
rings_row = refl

pub closed_row : map (λ table. all_closed holed (rings_from 0 table)) ((5 ∷ 9 ∷ []) ∷ (5 ∷ 5 ∷ 9 ∷ []) ∷ (4 ∷ 9 ∷ []) ∷ []) ≡ true ∷ true ∷ false ∷ []
unfolding all_closed rings_from
closed_row = refl

pub ends_row : ends_from 0 ((0 ∷ 2 ∷ []) ∷ [] ∷ (5 ∷ []) ∷ []) ≡ 2 ∷ 2 ∷ 3 ∷ []
unfolding ends_from
ends_row = refl

-- ---- the work area

-- the first word says whether a slot is open
pub open_row : map (λ ws. is_open (area [] ws)) ([] ∷ (0 ∷ 1 ∷ []) ∷ (1 ∷ 0 ∷ []) ∷ (2 ∷ []) ∷ []) ≡ false ∷ false ∷ true ∷ true ∷ []
unfolding is_open
open_row = refl

-- it is so many slots
pub area_is_slots : (area_floats ≡ slots * slot_floats) × (area_words ≡ slots * slot_words)
area_is_slots = (refl, refl)

-- ---- the reasons: each number is given, and of two that apply the one that comes first in the call's order

-- two points, and what may be wrong with them
abbrev pub xs : List Float
xs = whole 1 ∷ whole 2 ∷ []

abbrev pub off : List Float
off = whole 1 ∷ half_of 1 ∷ []

abbrev pub three : List Float
three = whole 1 ∷ whole 2 ∷ whole 1 ∷ []

-- 1 by the longer y; 1 by the longer x; 3; 7; 0; 1 before 3; 3 before 7
pub repeat_row : repeat_reason xs three 9 ∷ repeat_reason three xs 9 ∷ repeat_reason xs off 2 ∷ repeat_reason xs xs 1 ∷ repeat_reason xs xs 2 ∷ repeat_reason off three 2
    ∷ repeat_reason off xs 0 ∷ []
    ≡ 1 ∷ 1 ∷ 3 ∷ 7 ∷ 0 ∷ 1 ∷ 3 ∷ []
unfolding repeat_reason first_off_grid
repeat_row = refl

-- 4,096 points, and 4,097
pub most_points_lem : map (λ n. repeat_reason (replicate n (whole 0)) (replicate n (whole 0)) n) (4096 ∷ 4097 ∷ []) ≡ 0 ∷ 2 ∷ []
unfolding repeat_reason first_off_grid
most_points_lem = refl

-- the least point off the grid comes with 3, and no place with another
pub refusal_row : refusal 3 (some 5) ∷ refusal 4 (some 5) ∷ refusal 3 none ∷ [] ≡ refused 3 5 ∷ refused 4 0 ∷ refused 3 0 ∷ []
refusal_row = refl

pub off_row : first_off_grid xs off ∷ first_off_grid off off ∷ first_off_grid (nan ∷ off) three ∷ first_off_grid xs xs ∷ [] ≡ some 1 ∷ some 1 ∷ some 0 ∷ none ∷ []
unfolding first_off_grid
off_row = refl

-- 1; 4; 3; 7; 8 by the floats; 8 by the words; 0; 1 before 4; 4 before 3; 7 before 8
pub thin_row : thin_reason xs three (whole 1) 2 6 24 ∷ thin_reason xs xs nan 2 6 24 ∷ thin_reason xs off (whole 1) 2 6 24 ∷ thin_reason xs xs (whole 1) 1 6 24
    ∷ thin_reason xs xs (whole 1) 2 5 24 ∷ thin_reason xs xs (whole 1) 2 6 23 ∷ thin_reason xs xs (whole 1) 2 6 24 ∷ thin_reason xs three nan 2 6 24
    ∷ thin_reason xs off (inf true) 2 6 24 ∷ thin_reason xs xs (whole 1) 1 5 24 ∷ []
    ≡ 1 ∷ 4 ∷ 3 ∷ 7 ∷ 8 ∷ 8 ∷ 0 ∷ 1 ∷ 4 ∷ 7 ∷ []
unfolding thin_reason first_off_grid
thin_row = refl

-- 5; 6; 7 by the output; 7 by the ring output; 8; 0; 3 before 5; 5 before 6; 6 before 7
pub polygon_row : polygon_reason three three (whole 1) (2 ∷ []) 3 1 9 36 ∷ polygon_reason xs xs (whole 1) (2 ∷ []) 2 1 6 24 ∷ polygon_reason three three (whole 1) (3 ∷ []) 2 1 9 36
    ∷ polygon_reason three three (whole 1) (3 ∷ []) 3 0 9 36 ∷ polygon_reason three three (whole 1) (3 ∷ []) 3 1 8 36 ∷ polygon_reason three three (whole 1) (3 ∷ []) 3 1 9 36
    ∷ polygon_reason off xs (whole 1) [] 2 1 6 24 ∷ polygon_reason xs xs (whole 1) (2 ∷ 1 ∷ []) 2 2 6 24 ∷ polygon_reason xs xs (whole 1) (2 ∷ []) 0 0 6 24 ∷ []
    ≡ 5 ∷ 6 ∷ 7 ∷ 7 ∷ 8 ∷ 0 ∷ 3 ∷ 5 ∷ 6 ∷ []
unfolding polygon_reason first_off_grid bad_table all_closed rings_from points
polygon_row = refl

-- a short area is 8 for every slot call, whatever else is wrong
pub slots_row : clear_reason (area [] []) ∷ open_reason 9 xs off nan (area [] []) ∷ slot_reason 9 (area [] []) ∷ read_reason 9 (area [] []) 0 1 ∷ [] ≡ 8 ∷ 8 ∷ 8 ∷ 8 ∷ []
unfolding clear_reason open_reason slot_reason read_reason
slots_row = refl

-- ---- what the answers mean

pub refused_row : map is_refused (done ∷ kept 0 ∷ removal 0 zero_float ∷ finished ∷ refused 1 0 ∷ []) ≡ false ∷ false ∷ false ∷ false ∷ true ∷ []
refused_row = refl

-- the point's index, not a neighbour's, and its area of 1.5
pub step_row : map step_answer (none ∷ some (record { left = 1; current = 2; right = 4; score = 3 }) ∷ []) ≡ finished ∷ removal 2 (half_of 3) ∷ []
unfolding step_answer
step_row = refl
