-- A history is made of what the contracts of slots' calls say: what a caller learns of a call from its contract is what `States` says of it. Assumes nothing.
use mathlib.Core.Path.{refl}
use mathlib.Core.List.{[]}
use contract.Lifetimes.{Lfts}
use borrow.Fn.World.{ArgsD, ResD}
use denote.Triple.Clauses.{AtExit}
use Rattle.rule.specs.Answers.{of_outcome, of_step, of_listing}
use Rattle.rule.specs.Area.{area}
use Rattle.rule.specs.Slots.{clear, open', step, read, close}
use Rattle.slots.specs.contracts.clear as clearing
use Rattle.slots.proofs.clear.Reads as of-clear
use Rattle.slots.specs.contracts.open as opening
use Rattle.slots.proofs.open.Reads as of-open
use Rattle.slots.specs.contracts.step as stepping
use Rattle.slots.proofs.step.Reads as of-step
use Rattle.slots.specs.contracts.read as reading
use Rattle.slots.proofs.read.Reads as of-read
use Rattle.slots.specs.contracts.close as closing
use Rattle.slots.proofs.close.Reads as of-close
use Rattle.history.specs.History.{States}

-- a has what is lent, in the order of the parameters, r is what is returned, and s has what is left. The floats and the words come first, then the slot.

module _ (κs : Lfts 2) (a : ArgsD clearing.signature κs) (r : ResD clearing.signature κs) (s : AtExit clearing.ended κs) where
  pub clear_states : of-clear.Learnt κs a r s → States clear (of_outcome r) [] (area a.0.now a.1.0.now) (area s.0.now s.1.0.now)
  clear_states p = (p, refl)

-- then x, y and the tolerance
module _ (κs : Lfts 4) (a : ArgsD opening.signature κs) (r : ResD opening.signature κs) (s : AtExit opening.ended κs) where
  pub open_states : of-open.Learnt κs a r s
      → States (open' a.1.1.0.0 a.1.1.1.0.now a.1.1.1.1.0.now a.1.1.1.1.1.0) (of_outcome r) []
      (area a.0.now a.1.0.now) (area s.0.now s.1.0.now)
  open_states p = (p, refl)

module _ (κs : Lfts 2) (a : ArgsD stepping.signature κs) (r : ResD stepping.signature κs) (s : AtExit stepping.ended κs) where
  pub step_states : of-step.Learnt κs a r s
      → States (step a.1.1.0.0) (of_step r) [] (area a.0.now a.1.0.now) (area s.0.now s.1.0.now)
  step_states p = (p, refl)

-- then the output; the area is lent to be read, and so stays as it is
module _ (κs : Lfts 3) (a : ArgsD reading.signature κs) (r : ResD reading.signature κs) (s : AtExit reading.ended κs) where
  pub read_states : of-read.Learnt κs a r s
      → States (read a.1.1.0.0 a.1.1.1.0.now) (of_listing r) s.1.1.1.0.now (area a.0.now a.1.0.now) (area a.0.now a.1.0.now)
  read_states p = (p, refl)

module _ (κs : Lfts 2) (a : ArgsD closing.signature κs) (r : ResD closing.signature κs) (s : AtExit closing.ended κs) where
  pub close_states : of-close.Learnt κs a r s
      → States (close a.1.1.0.0) (of_outcome r) [] (area a.0.now a.1.0.now) (area s.0.now s.1.0.now)
  close_states p = (p, refl)
