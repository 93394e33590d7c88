-- What a call promises that is settled by its input, for all inputs: the whole calls. Assumes nothing.
use Rattle.std.specs.Prelude.{◌≡◌, List, ◌++◌, ℕ, suc, length, drop, Float}
use Rattle.std.proofs.Math.Option.{Option}
use Rattle.rule.specs.Sizes.{scratch_floats, scratch_words}
use Rattle.rule.specs.Grid.{Point, points}
use Rattle.rule.specs.Rings.{joined, ends_from, polygon_rule}
use Rattle.rule.specs.Answers.{Answer, kept}
use Rattle.rule.specs.Area.{zero_float, cleared}
use Rattle.rule.specs.Reasons.{first_off_grid, refusal, repeat_reason, thin_reason, polygon_reason}

-- `reason` is the number of the first reason that applies, or 0, and `off` the first point off the grid. The lent memory, of the kind S,
-- held `before` and holds `after`. A refusal gives the reason and writes nothing; an accepted call answers `answer` and leaves `left`.
pub record Call {S : Type 0} (reason : ℕ) (off : Option ℕ) (answer : Answer) (left before : S) (r : Answer) (after : S) : Type 0 where
  pub refuses : (n : ℕ) → reason ≡ suc n → (r ≡ refusal (suc n) off) × (after ≡ before)
  pub does : reason ≡ 0 → (r ≡ answer) × (after ≡ left)

-- the list from the start, and after it what stood there
abbrev pub over : {A : Type 0} → List A → List A → List A
over ks out = ks ++ drop (length ks) out

-- ---- no tolerance and no scratch: repeated points, by a rule

abbrev pub Lists : (List Point → List ℕ) → (us vs : List Float) (out : List ℕ) → Answer → List ℕ → Type 0
Lists rule us vs out r out' =
    Call (repeat_reason us vs (length out)) (first_off_grid us vs) (kept (length (rule (points us vs)))) (over (rule (points us vs)) out) out r out'

-- ---- thinning a line, by a rule

-- the output and the scratch
pub record Lent : Type 0 where
  pub out : List ℕ
  pub floats : List Float
  pub words : List ℕ

abbrev pub lent : List ℕ → List Float → List ℕ → Lent
lent out floats words = record { out = out; floats = floats; words = words }

-- the list in the output, and zeros in the scratch of n points
abbrev pub thinned : ℕ → List ℕ → Lent → Lent
thinned n ks m = lent (over ks m.out) (cleared zero_float (scratch_floats n) m.floats) (cleared 0 (scratch_words n) m.words)

abbrev pub Thins : (List Point → Float → List ℕ) → (us vs : List Float) (t : Float) → Lent → Answer → Lent → Type 0
Thins rule us vs t m r m' =
    Call (thin_reason us vs t (length m.out) (length m.floats) (length m.words)) (first_off_grid us vs)
    (kept (length (rule (points us vs) t))) (thinned (length us) (rule (points us vs) t) m) m r m'

-- ---- thinning a polygon

-- the ring output beside the others
pub record LentRings : Type 0 where
  pub line : Lent
  pub ring_out : List ℕ

abbrev pub lent_rings : List ℕ → List ℕ → List Float → List ℕ → LentRings
lent_rings out ring_out floats words = record { line = lent out floats words; ring_out = ring_out }

-- what is kept of each ring: the list, and its ring table
abbrev pub thinned_rings : ℕ → List (List ℕ) → LentRings → LentRings
thinned_rings n kss m = record { line = thinned n (joined kss) m.line; ring_out = over (ends_from 0 kss) m.ring_out }

abbrev pub ThinsRings : (us vs : List Float) (t : Float) (table : List ℕ) → LentRings → Answer → LentRings → Type 0
ThinsRings us vs t table m r m' =
    Call (polygon_reason us vs t table (length m.line.out) (length m.ring_out) (length m.line.floats) (length m.line.words)) (first_off_grid us vs)
    (kept (length (joined (polygon_rule (points us vs) t table)))) (thinned_rings (length us) (polygon_rule (points us vs) t table) m) m r m'
