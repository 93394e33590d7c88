-- A script of calls as they were made, and what the definitions give on it. It pins them. Assumes nothing.
use mathlib.Core.Path.{◌≡◌, refl}
use mathlib.Core.Bool.{true, false}
use mathlib.Core.List.{List, [], ◌∷◌, ◌++◌, map}
use Prim.Native.Nat.{ℕ}
use Rattle.rule.specs.Checkpoints.{whole, half_of}
use Rattle.rule.specs.Answers.{done, kept, removal, finished, refused}
use Rattle.rule.specs.Area.{area}
use Rattle.rule.specs.Slots.{SlotCall, clear, open', step, read, close, act}
use Rattle.rule.proofs.Script.{xs, ys, six}
use Rattle.history.specs.History.{Lending, is_cut, front, renewed, lent_area, left_area, Made, made, none_open, output_of, expected, counted}
use Rattle.history.specs.Since.{concerns, closes, has_opened, is_step, NoneOf, steps_of, removes, removed_by, Since}

-- ---- how a call is lent the area

-- so many floats and words, and four more lie behind the area
abbrev places : ℕ → ℕ → Lending
places n k = record { floats = n; words = k; behind = area (whole 6 ∷ whole 7 ∷ whole 8 ∷ whole 9 ∷ []) (6 ∷ 7 ∷ 8 ∷ 9 ∷ []) }

abbrev full : Lending
full = places 163840 393344

abbrev few_floats : Lending
few_floats = places 163839 393344

abbrev few_words : Lending
few_words = places 163840 393343

-- the area, and more; a float or a word less; nothing
pub cut_row : map is_cut (full ∷ places 163841 393345 ∷ few_floats ∷ few_words ∷ places 0 0 ∷ []) ≡ false ∷ false ∷ true ∷ true ∷ true ∷ []
cut_row = refl

abbrev three : List ℕ
three = 1 ∷ 2 ∷ 3 ∷ []

-- fewer places than there are, as many, one more, and more than lie there
pub front_row : map (λ n. front n three (6 ∷ 7 ∷ [])) (2 ∷ 3 ∷ 4 ∷ 9 ∷ []) ≡ (1 ∷ 2 ∷ []) ∷ (1 ∷ 2 ∷ 3 ∷ []) ∷ (1 ∷ 2 ∷ 3 ∷ 6 ∷ []) ∷ (1 ∷ 2 ∷ 3 ∷ 6 ∷ 7 ∷ []) ∷ []
front_row = refl

-- so many of them given back
pub renewed_row : renewed 2 three (4 ∷ 5 ∷ []) ∷ renewed 3 three (4 ∷ 5 ∷ 6 ∷ []) ∷ renewed 4 three (4 ∷ 5 ∷ 6 ∷ 7 ∷ []) ∷ []
    ≡ (4 ∷ 5 ∷ 3 ∷ []) ∷ (4 ∷ 5 ∷ 6 ∷ []) ∷ (4 ∷ 5 ∷ 6 ∷ []) ∷ []
renewed_row = refl

-- of three floats and two words: two floats and three words lent, and given back
pub lent_row : lent_area (places 2 3) (area (whole 1 ∷ whole 2 ∷ whole 3 ∷ []) (1 ∷ 2 ∷ [])) ≡ area (whole 1 ∷ whole 2 ∷ []) (1 ∷ 2 ∷ 6 ∷ [])
lent_row = refl

pub left_row : left_area (places 2 3) (area (whole 1 ∷ whole 2 ∷ whole 3 ∷ []) (1 ∷ 2 ∷ [])) (area (whole 4 ∷ whole 5 ∷ []) (3 ∷ 4 ∷ 5 ∷ []))
    ≡ area (whole 4 ∷ whole 5 ∷ whole 3 ∷ []) (3 ∷ 4 ∷ [])
left_row = refl

-- ---- tests of a call

-- each call on slot 1, and on slot 2; xs and ys are L of document 01
abbrev every : List SlotCall
every = clear ∷ open' 1 xs ys (whole 30) ∷ open' 2 xs ys (whole 30) ∷ step 1 ∷ step 2 ∷ read 1 six ∷ read 2 six ∷ close 1 ∷ close 2 ∷ []

pub output_row : map output_of every ≡ [] ∷ [] ∷ [] ∷ [] ∷ [] ∷ six ∷ six ∷ [] ∷ [] ∷ []
output_row = refl

pub concerns_row : map (concerns 1) every ≡ true ∷ true ∷ false ∷ true ∷ false ∷ true ∷ false ∷ true ∷ false ∷ []
concerns_row = refl

pub closes_row : map (closes 1) every ≡ true ∷ false ∷ false ∷ false ∷ false ∷ false ∷ false ∷ true ∷ false ∷ []
closes_row = refl

pub opened_row : map (λ c. has_opened 1 c done) every ≡ false ∷ true ∷ false ∷ false ∷ false ∷ false ∷ false ∷ false ∷ false ∷ []
opened_row = refl

pub not_opened_row : map (λ c. has_opened 1 c (refused 10 0)) every ≡ false ∷ false ∷ false ∷ false ∷ false ∷ false ∷ false ∷ false ∷ false ∷ []
not_opened_row = refl

pub step_row : map (is_step 1) every ≡ false ∷ false ∷ false ∷ true ∷ false ∷ false ∷ false ∷ false ∷ false ∷ []
step_row = refl

pub removes_row : map removes (done ∷ kept 3 ∷ removal 2 (half_of 3) ∷ finished ∷ refused 3 1 ∷ []) ≡ [] ∷ [] ∷ (2 ∷ []) ∷ [] ∷ [] ∷ []
removes_row = refl

-- ---- the script

abbrev opening : Made
opening = made (open' 1 xs ys (whole 30)) full done []

abbrev between : List Made
between =
    made (step 1) full (removal 2 (half_of 3)) []
    ∷ made (open' 2 xs ys (whole 2)) full done []
    ∷ made (step 2) full (removal 2 (half_of 3)) []
    ∷ made (open' 1 xs ys (whole 2)) full (refused 10 0) []
    ∷ made (step 1) (places 163841 393345) (removal 1 (whole 29)) []
    ∷ []

abbrev reading : Made
reading = made (read 1 six) full (kept 3) (0 ∷ 3 ∷ 4 ∷ 9 ∷ 9 ∷ 9 ∷ [])

abbrev closing : Made
closing = made (close 1) full done []

-- slot 1 is closed, and opened again
abbrev later : List Made
later =
    closing
    ∷ made (step 1) full (refused 11 0) []
    ∷ made (open' 1 xs ys (whole 2)) full done []
    ∷ made (step 1) full (removal 2 (half_of 3)) []
    ∷ made (step 1) full finished []
    ∷ made (step 2) full finished []
    ∷ made clear full done []
    ∷ []

-- with calls that are lent the area cut short
abbrev script : List Made
script =
    made (step 1) few_floats (refused 8 0) []
    ∷ opening
    ∷ made (read 1 six) few_words (refused 8 0) six
    ∷ (between ++ (made (close 1) few_floats (refused 8 0) [] ∷ reading ∷ made clear few_words (refused 8 0) [] ∷ later))

-- what is expected does not come from what was answered
pub expected_row : expected none_open (map (λ m. made m.call m.lending (kept 7) (7 ∷ [])) script) ≡ script
unfolding act
expected_row = refl

pub counted_row : counted script ≡ opening ∷ (between ++ (reading ∷ later))
counted_row = refl

pub steps_row : map (λ k. steps_of k between) (1 ∷ 2 ∷ 3 ∷ []) ≡ 2 ∷ 1 ∷ 0 ∷ []
steps_row = refl

pub removed_row : map (λ k. removed_by k between) (1 ∷ 2 ∷ 3 ∷ []) ≡ (2 ∷ 1 ∷ []) ∷ (2 ∷ []) ∷ [] ∷ []
removed_row = refl

-- the read comes after the opening, with slot 1 open between them
pub since_row : Since script 1 xs ys (whole 30) between reading
since_row = record {
  earlier = [];
  opening = opening;
  later = later;
  opens = refl;
  was_done = refl;
  among = refl;
  stays = (refl, (refl, (refl, (refl, (refl, tt)))));
}

-- and the step between closing and opening again opens nothing
pub closed_row : NoneOf (λ m. has_opened 1 m.call m.answer) (made (step 1) full (refused 11 0) [] ∷ [])
closed_row = (refl, tt)
