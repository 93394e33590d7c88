-- How the calls on a slot meet their statements, from what the tests answered and what was done to the slot's part. Assumes nothing.
use mathlib.Core.Path.{◌≡◌, refl, sym, ap, ◌∙◌, subst}
use mathlib.Core.List.{List, [], ◌∷◌}
use mathlib.Core.Option.{none}
use Prim.Native.Nat.{ℕ, suc}
use native.Mathlib.Omega.{arith}
use lib.ListN.{length}
use lib.Ieee.{Float}
use Rattle.rule.specs.declared.Reason.{Reason}
use Rattle.rule.specs.Grid.{points}
use Rattle.rule.specs.Plain.{all}
use Rattle.rule.specs.Answers.{Answer, done, kept, refused_for}
use Rattle.rule.specs.Area.{Area, part, OnlyPart}
use Rattle.rule.specs.Reasons.{first_off_grid, refusal, area_short, no_such_slot, slot_not_open, output_short, open_reason, slot_reason, read_reason, first_of, line_rows}
use Rattle.rule.specs.Whole.{Call, over}
use Rattle.rule.specs.SlotCalls.{Opens, Steps, Reads}
use Rattle.reasons.specs.Verdict.{verdict}
use Rattle.reasons.proofs.Verdict.{accepted, refused_call, refused_before}
use Rattle.part.specs.Rep.{Rep}
use Rattle.part.specs.Parts.{StepsPart, ReadsPart}
use Rattle.slot_reasons.proofs.Reasons.{HasSlot, slot_opened, open_has_slot, read_then}

-- ---- the slot is there

module _ (k : ℕ) (a : Area) where
  pub slot_held : done ≡ verdict (slot_reason k a) none → HasSlot k a
  slot_held told = (slot_opened k a (accepted (slot_reason k a) none told)).place

  module _ (us vs : List Float) (t : Float) (told : done ≡ verdict (open_reason k us vs t a) (first_off_grid us vs)) where
    pub no_open_reason : open_reason k us vs t a ≡ 0
    no_open_reason = accepted (open_reason k us vs t a) (first_off_grid us vs) told

    pub open_held : HasSlot k a
    open_held = (open_has_slot k a us vs t no_open_reason).0

    pub open_rows : first_of (line_rows us vs t) ≡ 0
    open_rows = (open_has_slot k a us vs t no_open_reason).1

-- ---- refused

module _ (k : ℕ) (a : Area) (w : Reason) (e : refused_for w ≡ verdict (slot_reason k a) none) where
  given : (i : ℕ) → slot_reason k a ≡ suc i → refused_for w ≡ refusal (suc i) none
  given i f = e ∙ ap (λ (j : ℕ). verdict j none) f

  some_reason : slot_reason k a ≡ 0 → ⊥
  some_reason f = let g : refused_for w ≡ done = e ∙ ap (λ (j : ℕ). verdict j none) f in let z : ◌≡◌ {A = ℕ} 0 1 = cc in omega arith

  pub read_refused : (out : List ℕ) → Reads Rep k a out (refused_for w) out
  unfolding slot_reason read_reason
  read_refused out = record {
    refuses = λ n f. (given n f, refl);
    short = λ f. absurd (some_reason f);
    past = λ n f. absurd (let z : ◌≡◌ {A = ℕ} 0 1 = cc in omega arith);
    does = λ ps t ks h.
        refused_call (read_reason k a (length out) (length ks)) w
        (refused_before none (area_short a ∷ no_such_slot k ∷ slot_not_open k a ∷ []) (output_short (length out) (length ks) ∷ []) w e);
  }

-- ---- done

pub open_done : (k : ℕ) (us vs : List Float) (t : Float) (a b : Area) → done ≡ verdict (open_reason k us vs t a) (first_off_grid us vs) → OnlyPart k a b
    → Rep (part k b) (points us vs) t (all (points us vs)) → Opens Rep k us vs t a done b
open_done k us vs t a b told o h =
    let e = no_open_reason k a us vs t told in record { refuses = λ n f. absurd (omega (arith, sym e ∙ f)); only = o; does = λ f. (refl, h) }

module _ (k : ℕ) (a : Area) (told : done ≡ verdict (slot_reason k a) none) where
  no_reason : slot_reason k a ≡ 0
  no_reason = accepted (slot_reason k a) none told

  pub step_done : (b : Area) (r : Answer) → OnlyPart k a b → StepsPart (part k a) r (part k b) → Steps Rep k a r b
  step_done b r o s = record { refuses = λ n f. absurd (omega (arith, sym no_reason ∙ f)); only = o; answers = λ f. s.answers; does = λ f. s.does }

  pub read_done : (out out' : List ℕ) (r : Answer) → ReadsPart (part k a).words out r out' → Reads Rep k a out r out'
  read_done out out' r s = record {
    refuses = λ n f. absurd (omega (arith, sym no_reason ∙ f));
    short = λ f. s.short;
    past = s.past;
    does = λ ps t ks h.
        subst (λ (n : ℕ). Call n none (kept (length ks)) (over ks out) out r out') (sym (read_then k a (slot_opened k a no_reason) (length out) (length ks)))
        (s.does (part k a).floats ps t ks h);
  }
