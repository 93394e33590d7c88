-- A script of calls on the slots as a reader thinks of them, and what each call says. It pins `act` and what it is made of. Assumes nothing.
use mathlib.Core.Path.{◌≡◌, refl}
use mathlib.Core.List.{List, [], ◌∷◌, map}
use Prim.Native.Nat.{ℕ}
use lib.Ieee.{Float, nan}
use Rattle.rule.specs.Answers.{Answer, done, kept, removal, finished, refused}
use Rattle.rule.specs.Slots.{Slots, closed, SlotCall, clear, open', step, read, close, act}
use Rattle.rule.specs.Checkpoints.{whole, half_of}

-- what a call says: the answer, and what the output then holds
pub record Said : Type 0 where
  pub answer : Answer
  pub out : List ℕ

-- a line of a script: a call, and what it must say
pub record Line : Type 0 where
  pub call : SlotCall
  pub wanted : Said

infix 3 ◌⊢◌leaving◌
abbrev pub ◌⊢◌leaving◌ : SlotCall → Answer → List ℕ → Line
c ⊢ r leaving o = record { call = c; wanted = record { answer = r; out = o } }

unfoldable pub played : Slots → List Line → List Said
unfolding act
played s [] = []
played s (l ∷ ls) = let e = act s l.call in record { answer = e.answer; out = e.out } ∷ played e.slots ls

-- L of document 01: point 2 goes first, with an area of 1.5, then point 1, with one of 29
abbrev pub xs : List Float
xs = whole 5 ∷ whole 3 ∷ whole 6 ∷ whole 7 ∷ whole 10 ∷ []

abbrev pub ys : List Float
ys = whole 2 ∷ whole 8 ∷ whole 20 ∷ whole 25 ∷ whole 10 ∷ []

abbrev pub six : List ℕ
six = 9 ∷ 9 ∷ 9 ∷ 9 ∷ 9 ∷ 9 ∷ []

abbrev script : List Line
script =
    (step 0 ⊢ refused 11 0 leaving [])
    ∷ (read 0 six ⊢ refused 11 0 leaving six)
    ∷ (close 0 ⊢ refused 11 0 leaving [])
    ∷ (open' 0 xs ys nan ⊢ refused 4 0 leaving [])
    ∷ (open' 0 xs (whole 2 ∷ half_of 3 ∷ whole 20 ∷ whole 25 ∷ whole 10 ∷ []) (whole 30) ⊢ refused 3 1 leaving [])
    ∷ (open' 0 xs ys (whole 30) ⊢ done leaving [])
    ∷ (open' 7 xs ys (whole 2) ⊢ done leaving [])
    ∷ (open' 0 xs ys nan ⊢ refused 10 0 leaving [])
    ∷ (read 0 six ⊢ kept 5 leaving (0 ∷ 1 ∷ 2 ∷ 3 ∷ 4 ∷ 9 ∷ []))
    ∷ (step 0 ⊢ removal 2 (half_of 3) leaving [])
    ∷ (read 7 six ⊢ kept 5 leaving (0 ∷ 1 ∷ 2 ∷ 3 ∷ 4 ∷ 9 ∷ []))
    ∷ (read 0 six ⊢ kept 4 leaving (0 ∷ 1 ∷ 3 ∷ 4 ∷ 9 ∷ 9 ∷ []))
    ∷ (read 0 (9 ∷ 9 ∷ 9 ∷ []) ⊢ refused 7 0 leaving (9 ∷ 9 ∷ 9 ∷ []))
    ∷ (step 7 ⊢ removal 2 (half_of 3) leaving [])
    ∷ (step 0 ⊢ removal 1 (whole 29) leaving [])
    ∷ (step 7 ⊢ finished leaving [])
    ∷ (step 0 ⊢ finished leaving [])
    ∷ (step 0 ⊢ finished leaving [])
    ∷ (read 0 (9 ∷ 9 ∷ 9 ∷ []) ⊢ kept 3 leaving (0 ∷ 3 ∷ 4 ∷ []))
    ∷ (close 0 ⊢ done leaving [])
    ∷ (step 0 ⊢ refused 11 0 leaving [])
    ∷ (open' 0 xs ys (whole 30) ⊢ done leaving [])
    ∷ (step 0 ⊢ removal 2 (half_of 3) leaving [])
    ∷ (read 7 six ⊢ kept 4 leaving (0 ∷ 1 ∷ 3 ∷ 4 ∷ 9 ∷ 9 ∷ []))
    ∷ (open' 8 xs ys (whole 30) ⊢ refused 9 0 leaving [])
    ∷ (step 8 ⊢ refused 9 0 leaving [])
    ∷ (read 8 six ⊢ refused 9 0 leaving six)
    ∷ (close 8 ⊢ refused 9 0 leaving [])
    ∷ (clear ⊢ done leaving [])
    ∷ (step 0 ⊢ refused 11 0 leaving [])
    ∷ (step 7 ⊢ refused 11 0 leaving [])
    ∷ []

pub script_row : played (λ j. closed) script ≡ map (λ l. l.wanted) script
unfolding played
script_row = refl
