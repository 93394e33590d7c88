-- An answer says which it is: its number and values are document 01's, and no two cases of an answer type share them. Assumes nothing.
use mathlib.Core.Path.{◌≡◌, refl, sym, ap, ◌∙◌, ap₂}
use mathlib.Core.List.{[], ◌∷◌, map}
use Prim.Native.Nat.{ℕ, ◌-◌}
use native.Mathlib.Omega.{arith}
use lib.ListN.{get_or}
use lib.Ieee.{Float}
use Rattle.std.specs.Prelude.{⊤, Result, Ok, Err}
use Rattle.rule.specs.declared.PointIndex.{PointIndex}
use Rattle.rule.specs.declared.Reason.{Reason}
use Rattle.rule.specs.declared.Reason.TheVariants.{LengthsDiffer, TooManyPoints, OffGrid, ToleranceNotFinite, RingTable, RingNotClosed}
use Rattle.rule.specs.declared.Reason.TheVariants.{OutputShort, MemoryShort, NoSuchSlot, SlotIsOpen, SlotNotOpen}
use Rattle.rule.specs.declared.Step.{Step}
use Rattle.rule.specs.declared.Step.TheVariants.{Removed, Finished}
use Rattle.rule.specs.declared.Step.TheVariants as step
use Rattle.rule.specs.Answers.{number, place, done, kept, removal, finished, refused, refused_for, of_thinned, of_outcome, of_step, of_listing}

-- the numbers of the table of reasons, and the place that comes with 3
pub reason_row : (i : PointIndex) → map refused_for (LengthsDiffer ∷ TooManyPoints ∷ OffGrid i ∷ ToleranceNotFinite ∷ RingTable ∷ RingNotClosed ∷ OutputShort ∷ MemoryShort ∷ NoSuchSlot ∷ SlotIsOpen ∷ SlotNotOpen ∷ [])
    ≡ refused 1 0 ∷ refused 2 0 ∷ refused 3 i.0 ∷ refused 4 0 ∷ refused 5 0 ∷ refused 6 0 ∷ refused 7 0 ∷ refused 8 0 ∷ refused 9 0 ∷ refused 10 0 ∷ refused 11 0 ∷ []
reason_row i = refl

-- what comes with each answer that is no refusal
pub value_row : (n : ℕ) (i : PointIndex) (v : Float)
    → of_thinned (Ok n) ∷ of_outcome (Ok tt) ∷ of_step (Removed i v) ∷ of_step Finished ∷ of_listing (Ok n) ∷ [] ≡ kept n ∷ done ∷ removal i.0 v ∷ finished ∷ kept n ∷ []
value_row n i v = refl

-- the reason of a number and a place: the table, read from 1
abbrev reason : ℕ → ℕ → Reason
reason n i =
    get_or (LengthsDiffer ∷ TooManyPoints ∷ OffGrid (record { 0 = i }) ∷ ToleranceNotFinite ∷ RingTable ∷ RingNotClosed ∷ OutputShort ∷ MemoryShort
    ∷ NoSuchSlot ∷ SlotIsOpen ∷ SlotNotOpen ∷ []) (n - 1) LengthsDiffer

reason_of : (w : Reason) → reason (number w) (place w) ≡ w
reason_of LengthsDiffer = refl
reason_of TooManyPoints = refl
reason_of (OffGrid i) = refl
reason_of ToleranceNotFinite = refl
reason_of RingTable = refl
reason_of RingNotClosed = refl
reason_of OutputShort = refl
reason_of MemoryShort = refl
reason_of NoSuchSlot = refl
reason_of SlotIsOpen = refl
reason_of SlotNotOpen = refl

pub reason_same : (u w : Reason) → refused_for u ≡ refused_for w → u ≡ w
reason_same u w e =
    let n : number u ≡ number w = cc in
    let i : place u ≡ place w = cc in
    sym (reason_of u) ∙ ap₂ reason n i ∙ reason_of w

pub number_not_0 : (w : Reason) → number w ≡ 0 → ⊥
number_not_0 w e = let f : number w ≡ 1 = ap number (sym (reason_of w) ∙ ap (λ (n : ℕ). reason n (place w)) e) in omega arith

pub thinned_same : (r s : Result ℕ Reason) → of_thinned r ≡ of_thinned s → r ≡ s
thinned_same (Ok m) (Ok n) e = ap Ok (cc)
thinned_same (Ok m) (Err w) e = cc
thinned_same (Err u) (Ok n) e = cc
thinned_same (Err u) (Err w) e = ap Err (reason_same u w e)

pub outcome_same : (r s : Result ⊤ Reason) → of_outcome r ≡ of_outcome s → r ≡ s
outcome_same (Ok _) (Ok _) e = refl
outcome_same (Ok _) (Err w) e = cc
outcome_same (Err u) (Ok _) e = cc
outcome_same (Err u) (Err w) e = ap Err (reason_same u w e)

index_same : (i j : PointIndex) → i.0 ≡ j.0 → i ≡ j
index_same i j e = λ x. record { 0 = e x }

pub step_same : (r s : Step) → of_step r ≡ of_step s → r ≡ s
step_same (Removed i a) (Removed j b) e = ap₂ Removed (index_same i j (cc)) (cc)
step_same (Removed i a) Finished e = cc
step_same (Removed i a) (step.Refused w) e = cc
step_same Finished (Removed j b) e = cc
step_same Finished Finished e = refl
step_same Finished (step.Refused w) e = cc
step_same (step.Refused u) (Removed j b) e = cc
step_same (step.Refused u) Finished e = cc
step_same (step.Refused u) (step.Refused w) e = ap step.Refused (reason_same u w e)

pub listing_same : (r s : Result ℕ Reason) → of_listing r ≡ of_listing s → r ≡ s
listing_same r s e = thinned_same r s e
