-- What C reads from the number, by `n >> 32` and `(uint32_t) n`: the halves that were packed, which case it is, and with the area beside it all of the answer.
-- Assumes nothing.
use mathlib.Core.Path.{◌≡◌, refl, ap, ap₂}
use mathlib.Core.Bool.{Bool, true, false, ◌&&◌}
use Prim.Native.Nat.{ℕ, ◌/◌, ◌%◌, ◌^◌}
use native.Mathlib.Omega.{arith}
use lib.Dec.{ltb, eqb}
use lib.Ieee.{Float}
use Rattle.std.specs.Prelude.{⊤, Result, Ok, Err}
use Rattle.rule.specs.declared.Reason.{Reason}
use Rattle.rule.specs.declared.Reason.TheVariants.{LengthsDiffer, TooManyPoints, OffGrid, ToleranceNotFinite, RingTable, RingNotClosed}
use Rattle.rule.specs.declared.Reason.TheVariants.{OutputShort, MemoryShort, NoSuchSlot, SlotIsOpen, SlotNotOpen}
use Rattle.rule.specs.declared.Step.{Step}
use Rattle.rule.specs.declared.Step.TheVariants.{Removed, Finished}
use Rattle.rule.specs.declared.Step.TheVariants as step
use Rattle.rule.specs.Answers.{number, Answer, done, kept, removal, finished, refused, refused_for, of_thinned, of_outcome, of_step, of_listing}
use Rattle.rule.specs.SlotCalls.{is_refused}
use Rattle.rule.proofs.Answers.{number_not_0, thinned_same, outcome_same, step_same}
use Rattle.pack.specs.Packing.{Halves, high, area_after, Packed}

-- ---- the halves

pub halves_read : {h l n : ℕ} → Halves h l n → (n / 2 ^ 32 ≡ h) × (n % 2 ^ 32 ≡ l)
halves_read p = (omega arith, omega arith)

-- one number packs the same halves
alike : {h l i m n : ℕ} → Halves h l n → Halves i m n → (h ≡ i) × (l ≡ m)
alike p q = (omega arith, omega arith)

-- ---- accepted, finished or refused

abbrev pub is_finished : Answer → Bool
is_finished done = false
is_finished (kept n) = false
is_finished (removal i a) = false
is_finished finished = true
is_finished (refused n i) = false

abbrev pub is_accepted : Answer → Bool
is_accepted done = true
is_accepted (kept n) = true
is_accepted (removal i a) = true
is_accepted finished = false
is_accepted (refused n i) = false

-- a high half of h tells which
pub record Tells (r : Answer) (h : ℕ) : Type 0 where
  pub accepts : is_accepted r ≡ eqb h 0
  pub finishes : is_finished r ≡ eqb h 255
  pub refuses : is_refused r ≡ ltb 0 h && ltb h 12

reason_tells : (w : Reason) → Tells (refused_for w) (number w)
reason_tells LengthsDiffer = record { accepts = refl; finishes = refl; refuses = refl }
reason_tells TooManyPoints = record { accepts = refl; finishes = refl; refuses = refl }
reason_tells (OffGrid i) = record { accepts = refl; finishes = refl; refuses = refl }
reason_tells ToleranceNotFinite = record { accepts = refl; finishes = refl; refuses = refl }
reason_tells RingTable = record { accepts = refl; finishes = refl; refuses = refl }
reason_tells RingNotClosed = record { accepts = refl; finishes = refl; refuses = refl }
reason_tells OutputShort = record { accepts = refl; finishes = refl; refuses = refl }
reason_tells MemoryShort = record { accepts = refl; finishes = refl; refuses = refl }
reason_tells NoSuchSlot = record { accepts = refl; finishes = refl; refuses = refl }
reason_tells SlotIsOpen = record { accepts = refl; finishes = refl; refuses = refl }
reason_tells SlotNotOpen = record { accepts = refl; finishes = refl; refuses = refl }

-- from what was packed to what is read
read_tells : {r : Answer} {n : ℕ} → Packed r n → Tells r (high r) → Tells r (n / 2 ^ 32)
read_tells p t = rw (halves_read p).0 t

pub thinned_tells : (r : Result ℕ Reason) {n : ℕ} → Packed (of_thinned r) n → Tells (of_thinned r) (n / 2 ^ 32)
thinned_tells (Ok m) p = read_tells p (record { accepts = refl; finishes = refl; refuses = refl })
thinned_tells (Err w) p = read_tells p (reason_tells w)

pub outcome_tells : (r : Result ⊤ Reason) {n : ℕ} → Packed (of_outcome r) n → Tells (of_outcome r) (n / 2 ^ 32)
outcome_tells (Ok _) p = read_tells p (record { accepts = refl; finishes = refl; refuses = refl })
outcome_tells (Err w) p = read_tells p (reason_tells w)

pub step_tells : (r : Step) {n : ℕ} → Packed (of_step r) n → Tells (of_step r) (n / 2 ^ 32)
step_tells (Removed i a) p = read_tells p (record { accepts = refl; finishes = refl; refuses = refl })
step_tells Finished p = read_tells p (record { accepts = refl; finishes = refl; refuses = refl })
step_tells (step.Refused w) p = read_tells p (reason_tells w)

pub listing_tells : (r : Result ℕ Reason) {n : ℕ} → Packed (of_listing r) n → Tells (of_listing r) (n / 2 ^ 32)
listing_tells r p = thinned_tells r p

-- ---- nothing is lost

not_255 : (w : Reason) → number w ≡ 255 → ⊥
not_255 w e = let z : false ≡ true = rw e at (reason_tells w).finishes in let o : ◌≡◌ {A = ℕ} 0 1 = cc in omega arith

module _ {n : ℕ} where
  pub thinned_lossless : (r s : Result ℕ Reason) → Packed (of_thinned r) n → Packed (of_thinned s) n → r ≡ s
  thinned_lossless (Ok m) (Ok k) p q = ap Ok (alike p q).1
  thinned_lossless (Ok m) (Err w) p q = absurd (number_not_0 w (alike q p).0)
  thinned_lossless (Err u) (Ok k) p q = absurd (number_not_0 u (alike p q).0)
  thinned_lossless (Err u) (Err w) p q = let e = alike p q in thinned_same (Err u) (Err w) (ap₂ refused e.0 e.1)

  pub outcome_lossless : (r s : Result ⊤ Reason) → Packed (of_outcome r) n → Packed (of_outcome s) n → r ≡ s
  outcome_lossless (Ok _) (Ok _) p q = refl
  outcome_lossless (Ok _) (Err w) p q = absurd (number_not_0 w (alike q p).0)
  outcome_lossless (Err u) (Ok _) p q = absurd (number_not_0 u (alike p q).0)
  outcome_lossless (Err u) (Err w) p q = let e = alike p q in outcome_same (Err u) (Err w) (ap₂ refused e.0 e.1)

  pub listing_lossless : (r s : Result ℕ Reason) → Packed (of_listing r) n → Packed (of_listing s) n → r ≡ s
  listing_lossless r s p q = thinned_lossless r s p q

  -- with the area, whatever stood in its place
  pub step_lossless : (r s : Step) (old : Float) → Packed (of_step r) n → Packed (of_step s) n → area_after (of_step r) old ≡ area_after (of_step s) old → r ≡ s
  step_lossless (Removed i a) (Removed j b) old p q e = step_same (Removed i a) (Removed j b) (ap₂ removal (alike p q).1 e)
  step_lossless (Removed i a) Finished old p q e = absurd (omega (arith, (alike p q).0))
  step_lossless (Removed i a) (step.Refused w) old p q e = absurd (number_not_0 w (alike q p).0)
  step_lossless Finished (Removed j b) old p q e = absurd (omega (arith, (alike p q).0))
  step_lossless Finished Finished old p q e = refl
  step_lossless Finished (step.Refused w) old p q e = absurd (not_255 w (alike q p).0)
  step_lossless (step.Refused u) (Removed j b) old p q e = absurd (number_not_0 u (alike p q).0)
  step_lossless (step.Refused u) Finished old p q e = absurd (not_255 u (alike p q).0)
  step_lossless (step.Refused u) (step.Refused w) old p q e = let d = alike p q in step_same (step.Refused u) (step.Refused w) (ap₂ refused d.0 d.1)
