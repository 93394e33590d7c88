-- The slots as a reader thinks of them: closed, or open with points, tolerance and the number of steps made. Assumes nothing.
use Rattle.std.specs.Prelude.{cond, List, [], ℕ, zero, suc, ltb, eqb, length, take, Float}
use Rattle.std.proofs.Math.Option.{Option, none, some}
use Rattle.std.proofs.Math.ListN.{get_elem?}
use Rattle.rule.specs.Sizes.{slots}
use Rattle.rule.specs.Grid.{Point, points, half}
use Rattle.rule.specs.Plain.{Candidate, all, removed, leave}
use Rattle.rule.specs.Answers.{Answer, done, kept, removal, finished, refused}
use Rattle.rule.specs.Reasons.{first_off_grid, line_rows, first_of, refusal}
use Rattle.rule.specs.Whole.{over}

pub data Slot : Type 0 where
  closed : Slot
  opened : List Point → Float → ℕ → Slot

-- the slot of each number
abbrev pub Slots : Type 0
Slots = ℕ → Slot

abbrev pub put : Slots → ℕ → Slot → Slots
put s k v = λ j. cond (eqb j k) v (s j)

-- ---- after n steps

-- the next removal: the n-th of the rule, from 0
unfoldable pub nth : List Point → Float → ℕ → Option Candidate
unfolding removed
nth ps t n = get_elem? (removed ps t) n

-- the points left
unfoldable pub left_after : List Point → Float → ℕ → List ℕ
unfolding removed leave all
left_after ps t n = leave (take n (removed ps t)) (all ps)

-- a removal answers with the index and the area
unfoldable pub step_answer : Option Candidate → Answer
unfolding half
step_answer none = finished
step_answer (some c) = removal c.current (half c.score)

-- ---- calls

pub data SlotCall : Type 0 where
  clear : SlotCall
  -- the slot, x, y and the tolerance
  open' : ℕ → List Float → List Float → Float → SlotCall
  step : ℕ → SlotCall
  -- the slot, and what the lent output holds
  read : ℕ → List ℕ → SlotCall
  close : ℕ → SlotCall

-- what a call answers, what the output then holds (nothing where none is lent), and the slots after it
pub record Effect : Type 0 where
  pub answer : Answer
  pub out : List ℕ
  pub slots : Slots

abbrev pub says : Answer → Slots → Effect
says r s = record { answer = r; out = []; slots = s }

-- what each call does where slot k is v
unfoldable pub open_slot : Slots → ℕ → Slot → List Float → List Float → Float → Effect
unfolding first_off_grid points
open_slot s k (opened ps t n) us vs t' = says (refused 10 0) s
open_slot s k closed us vs t' =
    elim (first_of (line_rows us vs t')) [
      | zero ↦ says done (put s k (opened (points us vs) t' 0))
      | suc n ↦ says (refusal (suc n) (first_off_grid us vs)) s
    ]

unfoldable pub step_slot : Slots → ℕ → Slot → Effect
unfolding step_answer nth
step_slot s k closed = says (refused 11 0) s
step_slot s k (opened ps t n) = says (step_answer (nth ps t n)) (put s k (opened ps t (suc n)))

unfoldable pub read_slot : Slots → Slot → List ℕ → Effect
unfolding left_after
read_slot s closed out = record { answer = refused 11 0; out = out; slots = s }
read_slot s (opened ps t n) out =
    let ks = left_after ps t n in
    cond (ltb (length out) (length ks)) (record { answer = refused 7 0; out = out; slots = s }) (record { answer = kept (length ks); out = over ks out; slots = s })

unfoldable pub close_slot : Slots → ℕ → Slot → Effect
close_slot s k closed = says (refused 11 0) s
close_slot s k (opened ps t n) = says done (put s k closed)

-- a slot number above 7 is refused with 9
unfoldable pub numbered : Slots → ℕ → List ℕ → Effect → Effect
numbered s k out e = cond (ltb k slots) e (record { answer = refused 9 0; out = out; slots = s })

unfoldable pub act : Slots → SlotCall → Effect
unfolding open_slot step_slot read_slot close_slot numbered
act s clear = says done (λ j. closed)
act s (open' k us vs t) = numbered s k [] (open_slot s k (s k) us vs t)
act s (step k) = numbered s k [] (step_slot s k (s k))
act s (read k out) = numbered s k out (read_slot s (s k) out)
act s (close k) = numbered s k [] (close_slot s k (s k))
