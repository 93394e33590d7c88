-- What the tests of a call answer. Assumes nothing.
use Rattle.std.specs.Prelude.{Bool, List, [], ◌∷◌, ℕ, zero, suc}
use Rattle.std.proofs.Math.Option.{Option}
use Rattle.rule.specs.Answers.{Answer, done}
use Rattle.rule.specs.Reasons.{Row, ◌⇒◌, scratch_short, refusal}

-- the number of the first reason that applies, or 0, and the first point off the grid: done, or that refusal
abbrev pub verdict : ℕ → Option ℕ → Answer
verdict zero off = done
verdict (suc n) off = refusal (suc n) off

-- the last rows of a call that thins n points: is the output short, are the lent floats and words
abbrev pub memory_rows : Bool → ℕ → ℕ → ℕ → List Row
memory_rows short floats words n = (short ⇒ 7) ∷ scratch_short floats words n ∷ []
