-- What a text says from a place on. A text is a list of bytes, and past its end it goes on as a line ends. Assumes nothing.
use Rattle.std.specs.Prelude.{◌≡◌, ℕ, zero, suc, ◌+◌, ◌-◌, ◌*◌, ◌%◌, ◌^◌, min, Bool, cond, ◌&&◌, ◌||◌, List, [], ◌∷◌, ◌++◌, length, drop, pos, ◌==◌, from_bits, nat_le, slice_index_or, Float}
use Rattle.std.specs.List.{prefix_len, position_or_len, take_while, fold}
use Rattle.std.specs.Float.{binary64}
use Rattle.std.specs.Float.Ieee.{of_int, neg}

abbrev pub byte_at : List ℕ → ℕ → ℕ
byte_at text at = slice_index_or text at 10

-- ---- lines

-- how many bytes the first line of a text has, its end counted
abbrev pub line_length : List ℕ → ℕ
line_length t = min (position_or_len (λ b. b == 10) t + 1) (length t)

abbrev pub next_line : List ℕ → ℕ → ℕ
next_line text at = at + line_length (drop at text)

-- ---- a whole number

abbrev pub is_blank : ℕ → Bool
is_blank b = b == 32

abbrev pub is_digit : ℕ → Bool
is_digit b = nat_le 48 b && nat_le b 57

-- the first place from here on whose byte is not of the kind
abbrev pub past : (ℕ → Bool) → List ℕ → ℕ → ℕ
past kind text at = at + prefix_len kind (drop at text)

-- v with one more digit, or the greatest number of 64 bits where that is more
abbrev pub with_digit : ℕ → ℕ → ℕ
with_digit v b = min (v * 10 + (b - 48)) (2 ^ 64 - 1)

-- v with all the digits that a text starts with
abbrev pub with_digits : ℕ → List ℕ → ℕ
with_digits v t = fold with_digit v (take_while is_digit t)

-- Blanks may stand before a number. No digit at all says 0.
abbrev pub number : List ℕ → ℕ → ℕ
number text at = with_digits 0 (drop (past is_blank text at) text)

abbrev pub past_number : List ℕ → ℕ → ℕ
past_number text at = past is_digit text (past is_blank text at)

-- the lower half of a number
abbrev pub index : List ℕ → ℕ → ℕ
index text at = number text at % 2 ^ 32

-- ---- a coordinate

abbrev pub whole : List ℕ → ℕ → Float
whole text at = of_int binary64 (pos (number text at))

-- a whole number, `-` and one, or `b` and the 64 bits, from the first place that is no blank
abbrev pub coordinate_from : List ℕ → ℕ → Float
coordinate_from text p =
    cond (byte_at text p == 98) (from_bits binary64 (number text (p + 1)))
    (cond (byte_at text p == 45) (neg (whole text (p + 1))) (whole text p))

abbrev pub coordinate : List ℕ → ℕ → Float
coordinate text at = coordinate_from text (past is_blank text at)

abbrev pub past_coordinate : List ℕ → ℕ → ℕ
past_coordinate text at = let p = past is_blank text at in cond (byte_at text p == 98 || byte_at text p == 45) (past_number text (p + 1)) (past_number text p)

-- ---- several, one after another: `next` gives the place past the one at a place, `value` what it says

abbrev pub past_all : (ℕ → ℕ) → ℕ → ℕ → ℕ
past_all next at zero = at
past_all next at (suc n) = next (past_all next at n)

abbrev pub all : {A : Type 0} → (ℕ → A) → (ℕ → ℕ) → ℕ → ℕ → List A
all value next at zero = []
all value next at (suc n) = all value next at n ++ (value (past_all next at n) ∷ [])

-- n of them, or as many as there is room for, were read over what stood there, as far as `place`
pub record ReadInto {A : Type 0} (value : ℕ → A) (next : ℕ → ℕ) (at n : ℕ) (into into' : List A) (place : ℕ) : Type 0 where
  pub far : place ≡ past_all next at (min n (length into))
  pub read : into' ≡ all value next at (min n (length into)) ++ drop (min n (length into)) into
  -- which follows, and is what lending an array needs
  pub long : length into' ≡ length into
