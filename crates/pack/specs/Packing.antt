-- How C gets an answer: one number of 64 bits, and the area of a removal beside it. Assumes nothing.
use Rattle.std.specs.Prelude.{◌≡◌, ℕ, ◌+◌, ◌*◌, ◌^◌, ◌<◌, Float}
use Rattle.rule.specs.Answers.{Answer, done, kept, removal, finished, refused}

-- n has h in its high 32 bits and l in its low 32 bits
pub record Halves (h l n : ℕ) : Type 0 where
  pub fits : l < 2 ^ 32
  pub number : n ≡ h * 2 ^ 32 + l

-- the high 32 bits: 0 where the call is accepted, 255 where it is finished, else the reason's number
abbrev pub high : Answer → ℕ
high done = 0
high (kept n) = 0
high (removal i a) = 0
high finished = 255
high (refused n i) = n

-- the low 32 bits: how many were listed, the removed point's index, the place that comes with reason 3
abbrev pub low : Answer → ℕ
low done = 0
low (kept n) = n
low (removal i a) = i
low finished = 0
low (refused n i) = i

abbrev pub packed : Answer → ℕ
packed r = high r * 2 ^ 32 + low r

-- what C finds in the place for the area, where `old` stood: it is written on a removal alone
abbrev pub area_after : Answer → Float → Float
area_after done old = old
area_after (kept n) old = old
area_after (removal i a) old = a
area_after finished old = old
area_after (refused n i) old = old

-- n is the packing of r
abbrev pub Packed : Answer → ℕ → Type 0
Packed r n = Halves (high r) (low r) n

-- What a C function promises: there is an answer of the Rattle call, which answers in A, that the call's own promise allows, and n is its packing.
pub record Packs {A : Type 0} (of : A → Answer) (Allows : Answer → Type 0) (n : ℕ) : Type 0 where
  pub answer : A
  pub allows : Allows (of answer)
  pub is : Packed (of answer) n
