-- What the answers mean: the number that document 01 gives each case, with its values. Assumes nothing.
use Rattle.std.specs.Prelude.{ℕ, Float, ⊤, Result, Ok, Err}
use Rattle.rule.specs.declared.Reason.{Reason}
use Rattle.rule.specs.declared.Reason.TheVariants.{LengthsDiffer, TooManyPoints, OffGrid, ToleranceNotFinite, RingTable, RingNotClosed, OutputShort, MemoryShort, NoSuchSlot, SlotIsOpen, SlotNotOpen}
use Rattle.rule.specs.declared.Step.{Step}
use Rattle.rule.specs.declared.Step.TheVariants.{Removed, Finished}
use Rattle.rule.specs.declared.Step.TheVariants as step

-- ---- the reasons

abbrev pub number : Reason → ℕ
number LengthsDiffer = 1
number TooManyPoints = 2
number (OffGrid i) = 3
number ToleranceNotFinite = 4
number RingTable = 5
number RingNotClosed = 6
number OutputShort = 7
number MemoryShort = 8
number NoSuchSlot = 9
number SlotIsOpen = 10
number SlotNotOpen = 11

-- the point that comes with reason 3; 0 with any other
abbrev pub place : Reason → ℕ
place LengthsDiffer = 0
place TooManyPoints = 0
place (OffGrid i) = i.0
place ToleranceNotFinite = 0
place RingTable = 0
place RingNotClosed = 0
place OutputShort = 0
place MemoryShort = 0
place NoSuchSlot = 0
place SlotIsOpen = 0
place SlotNotOpen = 0

-- ---- one answer for every call

pub data Answer : Type 0 where
  -- clear, open and close
  done : Answer
  -- a list was written, of this many
  kept : ℕ → Answer
  -- the point's index and the area
  removal : ℕ → Float → Answer
  finished : Answer
  -- the reason's number, and the place that comes with 3
  refused : ℕ → ℕ → Answer

abbrev pub refused_for : Reason → Answer
refused_for w = refused (number w) (place w)

abbrev pub of_thinned : Result ℕ Reason → Answer
of_thinned (Ok n) = kept n
of_thinned (Err w) = refused_for w

abbrev pub of_outcome : Result ⊤ Reason → Answer
of_outcome (Ok _) = done
of_outcome (Err w) = refused_for w

abbrev pub of_step : Step → Answer
of_step (Removed i a) = removal i.0 a
of_step Finished = finished
of_step (step.Refused w) = refused_for w

-- a list is a list
abbrev pub of_listing : Result ℕ Reason → Answer
of_listing r = of_thinned r
