-- What the calls on one slot's part promise, whatever it holds. Assumes nothing.
use Rattle.std.specs.Prelude.{get_or, ◌<◌, ◌+◌, ◌≡◌, false, List, [], ◌∷◌, ℕ, ◌≤◌, length, drop, Float}
use Rattle.std.specs.Float.{nan}
use Rattle.std.proofs.Math.Option.{none}
use Rattle.rule.specs.Grid.{Point}
use Rattle.rule.specs.Plain.{next}
use Rattle.rule.specs.Answers.{Answer, kept, refused}
use Rattle.rule.specs.Area.{Area, area}
use Rattle.rule.specs.Reasons.{first_of, output_short}
use Rattle.rule.specs.Whole.{Call, over}
use Rattle.rule.specs.Slots.{step_answer}
use Rattle.rule.specs.SlotCalls.{is_refused, less_by}
use Rattle.part.specs.Rep.{Rep}

-- one removal, and a part changed by other hands is no reason to refuse
pub record StepsPart (p : Area) (r : Answer) (p' : Area) : Type 0 where
  pub answers : is_refused r ≡ false
  pub does : (ps : List Point) (t : Float) (ks : List ℕ) → Rep p ps t ks → (r ≡ step_answer (next ps t ks)) × Rep p' ps t (less_by (next ps t ks) ks)

-- the part's words are read alone
pub record ReadsPart (ws out : List ℕ) (r : Answer) (out' : List ℕ) : Type 0 where
  pub short : (n i : ℕ) → r ≡ refused n i → (n ≡ 7) × (i ≡ 0) × (out' ≡ out)
  pub past : (n : ℕ) → r ≡ kept n → (n ≤ length out) × (length out' ≡ length out) × (drop n out' ≡ drop n out)
  pub does : (fs : List Float) (ps : List Point) (t : Float) (ks : List ℕ) → Rep (area fs ws) ps t ks
      → Call (first_of (output_short (length out) (length ks) ∷ [])) none (kept (length ks)) (over ks out) out r out'

-- the first n places of us were copied to the places from `start` on, and nothing else changed
pub record Copied (fs : List Float) (start : ℕ) (us : List Float) (n : ℕ) (fs' : List Float) : Type 0 where
  pub there : (i : ℕ) → i < n → get_or fs' (start + i) nan ≡ get_or us i nan
  pub before : (j : ℕ) → j < start → get_or fs' j nan ≡ get_or fs j nan
  pub after : (j : ℕ) → start + n ≤ j → get_or fs' j nan ≡ get_or fs j nan
