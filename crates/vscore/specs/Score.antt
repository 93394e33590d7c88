-- What the methods of a score give. Assumes nothing.
use Rattle.std.specs.Prelude.{Bool, ◌&&◌, ◌||◌, ℕ, ltb, Float}
use Rattle.std.specs.Float.Ieee.{neg, lt, eq}
use Rattle.rule.specs.Plain.{Candidate}
use Rattle.vscore.specs.declared.VScore.{VScore}

abbrev pub score : ℕ → ℕ → ℕ → Float → VScore
score l c r a = record { left = l; current = c; right = r; area = a }

-- the order of scores: the area, then the lower index
unfoldable pub sooner : VScore → VScore → Bool
sooner s u = lt s.area u.area || (eq s.area u.area && ltb s.current u.current)

abbrev pub demoted_by : Float → VScore → VScore
demoted_by t s = score s.left s.current s.right (neg t)

-- the candidate that a score stands for, where its area stands for n
abbrev pub candidate : VScore → ℕ → Candidate
candidate s n = record { left = s.left; current = s.current; right = s.right; score = n }
