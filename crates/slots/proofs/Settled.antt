-- Each call on slots is settled by its statement: any two results that it allows for the same input are equal. What an open slot's part holds is left
-- open, and so is what a step or a read does to a part that the calls have not made. Assumes nothing.
use mathlib.Core.Path.{◌≡◌}
use mathlib.Core.List.{List}
use Prim.Native.Nat.{ℕ}
use lib.Ieee.{Float}
use Rattle.std.specs.Prelude.{⊤, Result}
use Rattle.rule.specs.declared.Reason.{Reason}
use Rattle.rule.specs.declared.Step.{Step}
use Rattle.rule.specs.Answers.{of_outcome, of_step, of_listing}
use Rattle.rule.specs.Area.{Area}
use Rattle.rule.specs.Reasons.{open_reason}
use Rattle.rule.specs.SlotCalls.{Clears, Opens, Steps, Reads, Closes}
use Rattle.rule.proofs.Settled.{OpenSettled, StepSettled, ReadSettled}
use Rattle.rule.proofs.Settled as rule
use Rattle.part.specs.Rep.{Rep}

pub clear_settled : (a : Area) (r s : Result ⊤ Reason) (p q : Area) → Clears a (of_outcome r) p → Clears a (of_outcome s) q → (r ≡ s) × (p ≡ q)
clear_settled = rule.clear_settled

pub open_settled : (k : ℕ) (us vs : List Float) (t : Float) (a : Area) (r s : Result ⊤ Reason) (p q : Area) → Opens Rep k us vs t a (of_outcome r) p
    → Opens Rep k us vs t a (of_outcome s) q → OpenSettled (open_reason k us vs t a) k r s p q
open_settled = rule.open_settled Rep

pub step_settled : (k : ℕ) (a : Area) (r s : Step) (p q : Area) → Steps Rep k a (of_step r) p → Steps Rep k a (of_step s) q → StepSettled Rep k a r s p q
step_settled = rule.step_settled Rep

pub read_settled : (k : ℕ) (a : Area) (out : List ℕ) (r s : Result ℕ Reason) (p q : List ℕ) → Reads Rep k a out (of_listing r) p → Reads Rep k a out (of_listing s) q
    → ReadSettled Rep k a r s p q
read_settled = rule.read_settled Rep

pub close_settled : (k : ℕ) (a : Area) (r s : Result ⊤ Reason) (p q : Area) → Closes k a (of_outcome r) p → Closes k a (of_outcome s) q → (r ≡ s) × (p ≡ q)
close_settled = rule.close_settled
