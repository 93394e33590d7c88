-- The plain rule: which point goes next, the removals in order, and the points left. Assumes nothing.
use Rattle.std.specs.Prelude.{Bool, true, false, ◌&&◌, ◌||◌, cond, List, [], ◌∷◌, ℕ, zero, suc, ltb, eqb, length, Float}
use Rattle.std.proofs.Math.Option.{Option, none, some}
use Rattle.rule.specs.Grid.{Point, at, area2, within, positive}

-- ---- candidates

-- a kept point that is not first or last, its two kept neighbours, and what it is ranked by
pub record Candidate : Type 0 where
  pub left : ℕ
  pub current : ℕ
  pub right : ℕ
  pub score : ℕ

-- the score, then the lower index
unfoldable pub before : Candidate → Candidate → Bool
before a b = ltb a.score b.score || (eqb a.score b.score && ltb a.current b.current)

unfoldable pub better : Candidate → Option Candidate → Candidate
unfolding before
better a none = a
better a (some b) = cond (before b a) b a

-- the least of the candidates among kept indices, by the score f of three points
unfoldable pub least : (ℕ → ℕ → ℕ → ℕ) → List ℕ → Option Candidate
unfolding better
least f [] = none
least f (a ∷ []) = none
least f (a ∷ b ∷ []) = none
least f (a ∷ b ∷ c ∷ ks) = some (better (record { left = a; current = b; right = c; score = f a b c }) (least f (b ∷ c ∷ ks)))

-- ---- lists of indices

-- n indices from i on
unfoldable pub indices : ℕ → ℕ → List ℕ
indices i zero = []
indices i (suc n) = i ∷ indices (suc i) n

unfoldable pub all : List Point → List ℕ
unfolding indices
all ps = indices 0 (length ps)

unfoldable pub without : ℕ → List ℕ → List ℕ
without i [] = []
without i (k ∷ ks) = let r = k ∷ without i ks in cond (eqb i k) ks r

-- what removals leave
unfoldable pub leave : List Candidate → List ℕ → List ℕ
unfolding without
leave [] ks = ks
leave (c ∷ cs) ks = leave cs (without c.current ks)

-- ---- the rule

-- the score of the plain rule: the doubled area
abbrev pub area_at : List Point → ℕ → ℕ → ℕ → ℕ
area_at ps a b c = area2 (at ps a) (at ps b) (at ps c)

-- unless its area is greater than the tolerance
unfoldable pub at_most : Float → Option Candidate → Option Candidate
unfolding within
at_most t none = none
at_most t (some c) = cond (within c.score t) (some c) none

-- the next removal, or none: finished
unfoldable pub next : List Point → Float → List ℕ → Option Candidate
unfolding least at_most area2
next ps t ks = at_most t (least (area_at ps) ks)

-- the first n removals
unfoldable pub removals : ℕ → List Point → Float → List ℕ → List Candidate
unfolding next without
removals zero ps t ks = []
removals (suc n) ps t ks = elim (next ps t ks) [ none ↦ [] | some c ↦ c ∷ removals n ps t (without c.current ks) ]

-- all removals; there are fewer than points
unfoldable pub removed : List Point → Float → List Candidate
unfolding removals all
removed ps t = removals (length ps) ps t (all ps)

-- the first n removals where no tolerance stops them
unfoldable pub order : ℕ → List Point → List ℕ → List Candidate
unfolding least without area2
order zero ps ks = []
order (suc n) ps ks = elim (least (area_at ps) ks) [ none ↦ [] | some c ↦ c ∷ order n ps (without c.current ks) ]

-- the longest start of areas at most the tolerance
unfoldable pub up_to : Float → List Candidate → List Candidate
unfolding within
up_to t [] = []
up_to t (c ∷ cs) = let r = c ∷ up_to t cs in cond (within c.score t) r []

-- `simplify_vw_idx`
unfoldable pub index_rule : List Point → Float → List ℕ
unfolding removed leave all
index_rule ps t = leave (removed ps t) (all ps)

-- `simplify_vw`: a tolerance of zero or less keeps every point
unfoldable pub point_rule : List Point → Float → List ℕ
unfolding index_rule positive
point_rule ps t = elim (positive t) [ true ↦ index_rule ps t | false ↦ all ps ]
