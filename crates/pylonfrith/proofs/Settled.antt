-- What a C function promises settles the number, the area beside it and the lent memory as the Rattle call's promise settles its answer.
-- Assumes nothing.
use mathlib.Core.Path.{◌≡◌, sym, ap, ◌∙◌}
use mathlib.Core.List.{List}
use mathlib.Core.Option.{Option}
use Prim.Native.Nat.{ℕ, suc}
use lib.Ieee.{Float}
use Rattle.rule.specs.Grid.{Point}
use Rattle.std.specs.Prelude.{Result}
use Rattle.rule.specs.declared.Reason.{Reason}
use Rattle.rule.specs.declared.Step.{Step}
use Rattle.rule.specs.Answers.{Answer, of_outcome, of_step, of_listing}
use Rattle.rule.specs.Area.{Area, part}
use Rattle.rule.specs.Reasons.{open_reason, slot_reason}
use Rattle.rule.specs.Whole.{Call}
use Rattle.rule.specs.SlotCalls.{Opens, Steps, Reads}
use Rattle.rule.proofs.Settled.{call_settled, OpenSettled, open_settled, StepSettled, step_settled, ReadSettled, read_settled}
use Rattle.pack.specs.Packing.{packed, area_after, Packs}

-- equal answers, equal numbers: what the Rattle promise settles is settled for C
pub same_number : {A : Type 0} {of : A → Answer} {P Q : Answer → Type 0} {m n : ℕ} (a : Packs of P m) (b : Packs of Q n) → of a.answer ≡ of b.answer → m ≡ n
same_number a b e = a.is.number ∙ ap packed e ∙ sym b.is.number

-- every call that its input settles: the whole calls, clear and close
pub packs_settled : {A S : Type 0} {of : A → Answer} {reason : ℕ} {off : Option ℕ} {answer : Answer} {left before p q : S} {m n : ℕ}
    → Packs of (λ r. Call reason off answer left before r p) m → Packs of (λ r. Call reason off answer left before r q) n → (m ≡ n) × (p ≡ q)
packs_settled a b = let w = call_settled a.allows b.allows in (same_number a b w.0, w.1)

-- open, step and read: what the Rattle promise settles of the answers packed
module _ (Rep : Area → List Point → Float → List ℕ → Type 0) (k : ℕ) (a : Area) where
  pub packs_open_settled : (us vs : List Float) (t : Float) (p q : Area) (m n : ℕ)
      (c : Packs of_outcome (λ r. Opens Rep k us vs t a r p) m) (d : Packs of_outcome (λ r. Opens Rep k us vs t a r q) n)
      → (m ≡ n) × OpenSettled (open_reason k us vs t a) k c.answer d.answer p q
  packs_open_settled us vs t p q m n c d =
      let w = open_settled Rep k us vs t a c.answer d.answer p q c.allows d.allows in (same_number c d (ap of_outcome w.answer), w)

  -- the number and the area beside it, wherever the slot's part is one that the calls have made, and where the call refuses; memory as in Rattle
  pub record StepForC (c d : Step) (m n : ℕ) (f g : Float) (p q : Area) : Type 0 where
    pub made : (ps : List Point) (t : Float) (ks : List ℕ) → Rep (part k a) ps t ks → (m ≡ n) × (f ≡ g)
    pub refused : (i : ℕ) → slot_reason k a ≡ suc i → (m ≡ n) × (f ≡ g)
    pub settled : StepSettled Rep k a c d p q

  pub packs_step_settled : (old f g : Float) (p q : Area) (m n : ℕ)
      (c : Packs of_step (λ r. Steps Rep k a r p × (f ≡ area_after r old)) m) (d : Packs of_step (λ r. Steps Rep k a r q × (g ≡ area_after r old)) n)
      → StepForC c.answer d.answer m n f g p q
  packs_step_settled old f g p q m n c d =
      let w = step_settled Rep k a c.answer d.answer p q c.allows.0 d.allows.0 in
      record {
        made = λ ps t ks h. same (w.answer ps t ks h);
        refused = λ i e. same (w.refused i e).0;
        settled = w;
      }
    where
      same : c.answer ≡ d.answer → (m ≡ n) × (f ≡ g)
      same e = (same_number c d (ap of_step e), c.allows.1 ∙ ap (λ (r : Answer). area_after r old) (ap of_step e) ∙ sym d.allows.1)

  -- the number, wherever the calls have made the part, and where 8, 9 or 11 applies; the output as in Rattle
  pub record ReadForC (c d : Result ℕ Reason) (m n : ℕ) (p q : List ℕ) : Type 0 where
    pub made : (ps : List Point) (t : Float) (ks : List ℕ) → Rep (part k a) ps t ks → m ≡ n
    pub refused : (i : ℕ) → slot_reason k a ≡ suc i → m ≡ n
    pub settled : ReadSettled Rep k a c d p q

  pub packs_read_settled : (out p q : List ℕ) (m n : ℕ) (c : Packs of_listing (λ r. Reads Rep k a out r p) m) (d : Packs of_listing (λ r. Reads Rep k a out r q) n)
      → ReadForC c.answer d.answer m n p q
  packs_read_settled out p q m n c d =
      let w = read_settled Rep k a out c.answer d.answer p q c.allows d.allows in
      record {
        made = λ ps t ks h. same_number c d (ap of_listing (w.whole ps t ks h).0);
        refused = λ i e. same_number c d (ap of_listing (w.refused i e).0);
        settled = w;
      }
