-- A call's statement settles it: any two results that it allows for the same input are equal. Where the arrangement inside an open slot is
-- left open, all else is settled. Also how a call comes to meet its statement. Assumes nothing.
use mathlib.Core.Path.{◌≡◌, refl, sym, ap, ◌∙◌}
use mathlib.Core.List.{List}
use mathlib.Core.Option.{Option}
use Prim.Native.Nat.{ℕ, zero, suc}
use native.Mathlib.Omega.{arith}
use lib.Ieee.{Float}
use Rattle.std.specs.Prelude.{⊤, Result}
use Rattle.rule.specs.declared.Reason.{Reason}
use Rattle.rule.specs.declared.Step.{Step}
use Rattle.rule.specs.Grid.{Point}
use Rattle.rule.specs.Answers.{Answer, of_thinned, of_outcome, of_step, of_listing}
use Rattle.rule.specs.Area.{Area, part, OnlyPart}
use Rattle.rule.specs.Reasons.{refusal, open_reason, slot_reason}
use Rattle.rule.specs.Whole.{Call, Lists, Lent, Thins, LentRings, ThinsRings}
use Rattle.rule.specs.SlotCalls.{Clears, Closes, Opens, Steps, Reads}
use Rattle.rule.proofs.Answers.{thinned_same, outcome_same, step_same, listing_same}
use Rattle.rule.proofs.Parts.{both_only}

-- ---- once for every call that its input settles

pub call_settled : {S : Type 0} {reason : ℕ} {off : Option ℕ} {answer : Answer} {left before : S} {r s : Answer} {p q : S}
    → Call reason off answer left before r p → Call reason off answer left before s q → (r ≡ s) × (p ≡ q)
call_settled {S} {reason} {off} {answer} {left} {before} {r} {s} {p} {q} a b = go reason refl
  where
    go : (n : ℕ) → reason ≡ n → (r ≡ s) × (p ≡ q)
    go zero e = ((a.does e).0 ∙ sym (b.does e).0, (a.does e).1 ∙ sym (b.does e).1)
    go (suc n) e = ((a.refuses n e).0 ∙ sym (b.refuses n e).0, (a.refuses n e).1 ∙ sym (b.refuses n e).1)

-- of answers in a type whose cases the answer tells apart
settled_in : {A S : Type 0} {reason : ℕ} {off : Option ℕ} {answer : Answer} {left before p q : S} (f : A → Answer) (same : (r s : A) → f r ≡ f s → r ≡ s) (r s : A)
    → Call reason off answer left before (f r) p → Call reason off answer left before (f s) q → (r ≡ s) × (p ≡ q)
settled_in f same r s a b = let w = call_settled a b in (same r s w.0, w.1)

pub lists_settled : (rule : List Point → List ℕ) (us vs : List Float) (out : List ℕ) (r s : Result ℕ Reason) (p q : List ℕ)
    → Lists rule us vs out (of_thinned r) p → Lists rule us vs out (of_thinned s) q → (r ≡ s) × (p ≡ q)
lists_settled rule us vs out r s p q a b = settled_in of_thinned thinned_same r s a b

pub thins_settled : (rule : List Point → Float → List ℕ) (us vs : List Float) (t : Float) (m : Lent) (r s : Result ℕ Reason) (p q : Lent)
    → Thins rule us vs t m (of_thinned r) p → Thins rule us vs t m (of_thinned s) q → (r ≡ s) × (p ≡ q)
thins_settled rule us vs t m r s p q a b = settled_in of_thinned thinned_same r s a b

pub rings_settled : (us vs : List Float) (t : Float) (table : List ℕ) (m : LentRings) (r s : Result ℕ Reason) (p q : LentRings)
    → ThinsRings us vs t table m (of_thinned r) p → ThinsRings us vs t table m (of_thinned s) q → (r ≡ s) × (p ≡ q)
rings_settled us vs t table m r s p q a b = settled_in of_thinned thinned_same r s a b

pub clear_settled : (a : Area) (r s : Result ⊤ Reason) (p q : Area) → Clears a (of_outcome r) p → Clears a (of_outcome s) q → (r ≡ s) × (p ≡ q)
clear_settled a r s p q c d = settled_in of_outcome outcome_same r s c d

pub close_settled : (k : ℕ) (a : Area) (r s : Result ⊤ Reason) (p q : Area) → Closes k a (of_outcome r) p → Closes k a (of_outcome s) q → (r ≡ s) × (p ≡ q)
close_settled k a r s p q c d = settled_in of_outcome outcome_same r s c d

-- ---- where the arrangement inside an open slot is left open

-- the answer, always; the area, but for the named slot's part; and all of it where the call refuses
pub record OpenSettled (reason k : ℕ) (r s : Result ⊤ Reason) (p q : Area) : Type 0 where
  pub answer : r ≡ s
  pub rest : OnlyPart k p q
  pub refused : (n : ℕ) → reason ≡ suc n → p ≡ q

module _ (Rep : Area → List Point → Float → List ℕ → Type 0) where
  pub open_settled : (k : ℕ) (us vs : List Float) (t : Float) (a : Area) (r s : Result ⊤ Reason) (p q : Area)
      → Opens Rep k us vs t a (of_outcome r) p → Opens Rep k us vs t a (of_outcome s) q → OpenSettled (open_reason k us vs t a) k r s p q
  open_settled k us vs t a r s p q c d = record {
    answer = outcome_same r s (go (open_reason k us vs t a) refl);
    rest = both_only k a p q c.only d.only;
    refused = λ n e. (c.refuses n e).1 ∙ sym (d.refuses n e).1;
  }
    where
      go : (n : ℕ) → open_reason k us vs t a ≡ n → of_outcome r ≡ of_outcome s
      go zero e = (c.does e).0 ∙ sym (d.does e).0
      go (suc n) e = (c.refuses n e).0 ∙ sym (d.refuses n e).0

  -- the answer, wherever the slot's part is one that the calls have made
  pub record StepSettled (k : ℕ) (a : Area) (r s : Step) (p q : Area) : Type 0 where
    pub answer : (ps : List Point) (t : Float) (ks : List ℕ) → Rep (part k a) ps t ks → r ≡ s
    pub rest : OnlyPart k p q
    pub refused : (n : ℕ) → slot_reason k a ≡ suc n → (r ≡ s) × (p ≡ q)

  pub step_settled : (k : ℕ) (a : Area) (r s : Step) (p q : Area) → Steps Rep k a (of_step r) p → Steps Rep k a (of_step s) q → StepSettled k a r s p q
  step_settled k a r s p q c d = record {
    answer = λ ps t ks h. go ps t ks h (slot_reason k a) refl;
    rest = both_only k a p q c.only d.only;
    refused = λ n e. (step_same r s ((c.refuses n e).0 ∙ sym (d.refuses n e).0), (c.refuses n e).1 ∙ sym (d.refuses n e).1);
  }
    where
      go : (ps : List Point) (t : Float) (ks : List ℕ) → Rep (part k a) ps t ks → (n : ℕ) → slot_reason k a ≡ n → r ≡ s
      go ps t ks h zero e = step_same r s ((c.does e ps t ks h).0 ∙ sym (d.does e ps t ks h).0)
      go ps t ks h (suc n) e = step_same r s ((c.refuses n e).0 ∙ sym (d.refuses n e).0)

  -- the answer and the output, wherever the slot's part is one that the calls have made, and where 8, 9 or 11 applies
  pub record ReadSettled (k : ℕ) (a : Area) (r s : Result ℕ Reason) (p q : List ℕ) : Type 0 where
    pub whole : (ps : List Point) (t : Float) (ks : List ℕ) → Rep (part k a) ps t ks → (r ≡ s) × (p ≡ q)
    pub refused : (n : ℕ) → slot_reason k a ≡ suc n → (r ≡ s) × (p ≡ q)

  pub read_settled : (k : ℕ) (a : Area) (out : List ℕ) (r s : Result ℕ Reason) (p q : List ℕ)
      → Reads Rep k a out (of_listing r) p → Reads Rep k a out (of_listing s) q → ReadSettled k a r s p q
  read_settled k a out r s p q c d = record {
    whole = λ ps t ks h. settled_in of_listing listing_same r s (c.does ps t ks h) (d.does ps t ks h);
    refused = λ n e. (listing_same r s ((c.refuses n e).0 ∙ sym (d.refuses n e).0), (c.refuses n e).1 ∙ sym (d.refuses n e).1);
  }

-- ---- how a call meets its statement

module _ {S : Type 0} {reason : ℕ} {off : Option ℕ} {answer : Answer} {left before : S} where
  pub call_refused : {r : Answer} {after : S} (n : ℕ) → reason ≡ suc n → r ≡ refusal (suc n) off → after ≡ before → Call reason off answer left before r after
  call_refused n e f g = record {
    refuses = λ m h. (f ∙ ap (λ (i : ℕ). refusal i off) (sym e ∙ h), g);
    does = λ h. absurd (omega (arith, sym e ∙ h));
  }

  pub call_done : {r : Answer} {after : S} → reason ≡ 0 → r ≡ answer → after ≡ left → Call reason off answer left before r after
  call_done e f g = record { refuses = λ n h. absurd (omega (arith, sym e ∙ h)); does = λ h. (f, g) }
