-- The slots in lent memory and the slots as a reader thinks of them go on agreeing: each call answers what `act` answers, and lists what it lists.
-- Over any `Rep` of an open slot's part, so long as such a part is open. Assumes nothing.
use mathlib.Core.Path.{◌≡◌, refl, sym, ap, ◌∙◌, subst}
use mathlib.Core.Bool.{Bool, true, false, cond}
use mathlib.Core.List.{List, []}
use Prim.Native.Nat.{ℕ, zero, suc, ◌<◌}
use lib.Dec.{ltb, eqb}
use lib.ListN.{length}
use lib.Ieee.{Float}
use borrow.Author.Tests.{eqb-true, eqb-false, ltb-true}
use Rattle.rule.specs.Sizes.{slots}
use Rattle.rule.specs.Grid.{Point, points}
use Rattle.rule.specs.Answers.{Answer, done, kept, refused}
use Rattle.rule.specs.Area.{Area, part, is_open, OnlyPart}
use Rattle.rule.specs.Reasons.{first_off_grid, line_rows, first_of, refusal, clear_reason, open_reason, slot_reason, read_reason}
use Rattle.rule.specs.Whole.{over}
use Rattle.rule.specs.Slots.{Slot, closed, opened, Slots, put, left_after, step_answer, clear, open', step, read, close, Effect, says}
use Rattle.rule.specs.Slots.{open_slot, step_slot, read_slot, close_slot, numbered, act}
use Rattle.rule.specs.SlotCalls.{Clears, Closes, Opens, Steps, Reads}
use Rattle.laws.proofs.Removals.{next_nth, left_suc, left_zero}
use Rattle.rule.proofs.Parts.{Long, not_short, still_long, other_part, closed_only, closed_not_open, zeroed_long, zeroed_not_open}

-- ---- the reasons of an area that is long enough

clear_0 : (a : Area) → Long a → clear_reason a ≡ 0
unfolding clear_reason
clear_0 a h = rw (not_short a h)

module _ (k : ℕ) (a : Area) (h : Long a) where
  slot_first : (x y : Bool) → ltb k slots ≡ x → is_open (part k a) ≡ y → slot_reason k a ≡ cond x (cond y 0 11) 9
  unfolding slot_reason
  slot_first true true e f = rw (not_short a h, e, f)
  slot_first true false e f = rw (not_short a h, e, f)
  slot_first false y e f = rw (not_short a h, e)

  read_first : (room left : ℕ) (z : Bool) → ltb k slots ≡ true → is_open (part k a) ≡ true → ltb room left ≡ z → read_reason k a room left ≡ cond z 7 0
  unfolding read_reason
  read_first room left z e f g = rw (not_short a h, e, f, g)

  open_first : (us vs : List Float) (t : Float) (x y : Bool) → ltb k slots ≡ x → is_open (part k a) ≡ y
      → open_reason k us vs t a ≡ cond x (cond y 10 (first_of (line_rows us vs t))) 9
  unfolding open_reason
  open_first us vs t true true e f = rw (not_short a h, e, f)
  open_first us vs t true false e f = rw (not_short a h, e, f)
  open_first us vs t false y e f = rw (not_short a h, e)

-- ---- the two ways of thinking of the slots

module _ (Rep : Area → List Point → Float → List ℕ → Type 0) where
  abbrev pub Holds : Slot → Area → Type 0
  Holds closed p = is_open p ≡ false
  Holds (opened ps t n) p = Rep p ps t (left_after ps t n)

  pub record Sim (s : Slots) (a : Area) : Type 0 where
    pub sized : Long a
    pub holds : (j : ℕ) → j < slots → Holds (s j) (part j a)

  -- the call answered r, its output then held out (nothing where none is lent), and the area b
  pub record Agrees (e : Effect) (r : Answer) (out : List ℕ) (b : Area) : Type 0 where
    pub answers : r ≡ e.answer
    pub lists : out ≡ e.out
    pub keeps : Sim e.slots b

  -- a refusal
  refuse : (s : Slots) (a b : Area) (r w : Answer) → Sim s a → (r ≡ w) × (b ≡ a) → Agrees (says w s) r [] b
  refuse s a b r w m p = record { answers = p.0; lists = refl; keeps = subst (Sim s) (sym p.1) m }

  -- one slot is put, the others are as they were
  put_sim : (s : Slots) (k : ℕ) (v : Slot) (a b : Area) → Sim s a → OnlyPart k a b → Holds v (part k b) → Sim (put s k v) b
  put_sim s k v a b m o h = record { sized = still_long o m.sized; holds = λ j g. go j g (eqb j k) refl }
    where
      go : (j : ℕ) → j < slots → (x : Bool) → eqb j k ≡ x → Holds (cond x v (s j)) (part j b)
      go j g true e = subst (λ (i : ℕ). Holds v (part i b)) (sym (eqb-true j k e)) h
      go j g false e = subst (Holds (s j)) (sym (other_part j k a b o (eqb-false j k e))) (m.holds j g)

  -- what is known of the slot that a call names
  of_slot : (s : Slots) (a : Area) (k : ℕ) → Sim s a → ltb k slots ≡ true → Holds (s k) (part k a)
  of_slot s a k m e = m.holds k (ltb-true k slots e)

  -- whatever the area held
  pub clear_agrees : (s : Slots) (a b : Area) (r : Answer) → Long a → Clears a r b → Agrees (act s clear) r [] b
  unfolding act
  clear_agrees s a b r h c =
      let g = c.does (clear_0 a h) in
      record { answers = g.0; lists = refl; keeps = subst (Sim (λ j. closed)) (sym g.1) (record { sized = zeroed_long a; holds = λ j e. zeroed_not_open j a e }) }

  module _ (rep_open : (p : Area) (ps : List Point) (t : Float) (ks : List ℕ) → Rep p ps t ks → is_open p ≡ true) where
    pub open_agrees : (s : Slots) (k : ℕ) (us vs : List Float) (t : Float) (a b : Area) (r : Answer) → Sim s a → Opens Rep k us vs t a r b
        → Agrees (act s (open' k us vs t)) r [] b
    unfolding act numbered open_slot
    open_agrees s k us vs t a b r m c = go (ltb k slots) refl (s k) (of_slot s a k m)
      where
        by_line : (n : ℕ) → open_reason k us vs t a ≡ n
            → Agrees (elim n as (λ _. Effect) [ zero ↦ says done (put s k (opened (points us vs) t 0)) | suc n ↦ says (refusal (suc n) (first_off_grid us vs)) s ]) r [] b
        by_line zero e = record {
          answers = (c.does e).0;
          lists = refl;
          keeps = put_sim s k (opened (points us vs) t 0) a b m c.only (rw left_zero (c.does e).1);
        }
        by_line (suc n) e = refuse s a b r (refusal (suc n) (first_off_grid us vs)) m (c.refuses n e)

        go : (x : Bool) → ltb k slots ≡ x → (v : Slot) → (x ≡ true → Holds v (part k a)) → Agrees (cond x (open_slot s k v us vs t) (says (refused 9 0) s)) r [] b
        go false e v h = refuse s a b r (refused 9 0) m (c.refuses 8 (open_first k a m.sized us vs t false (is_open (part k a)) e refl))
        go true e closed h = by_line (first_of (line_rows us vs t)) (open_first k a m.sized us vs t true false e (h refl))
        go true e (opened ps t' n) h =
            refuse s a b r (refused 10 0) m (c.refuses 9 (open_first k a m.sized us vs t true true e (rep_open (part k a) ps t' (left_after ps t' n) (h refl))))

    pub step_agrees : (s : Slots) (k : ℕ) (a b : Area) (r : Answer) → Sim s a → Steps Rep k a r b → Agrees (act s (step k)) r [] b
    unfolding act numbered step_slot
    step_agrees s k a b r m c = go (ltb k slots) refl (s k) (of_slot s a k m)
      where
        go : (x : Bool) → ltb k slots ≡ x → (v : Slot) → (x ≡ true → Holds v (part k a)) → Agrees (cond x (step_slot s k v) (says (refused 9 0) s)) r [] b
        go false e v h = refuse s a b r (refused 9 0) m (c.refuses 8 (slot_first k a m.sized false (is_open (part k a)) e refl))
        go true e closed h = refuse s a b r (refused 11 0) m (c.refuses 10 (slot_first k a m.sized true false e (h refl)))
        go true e (opened ps t n) h =
            let g = c.does (slot_first k a m.sized true true e (rep_open (part k a) ps t (left_after ps t n) (h refl))) ps t (left_after ps t n) (h refl) in
            record {
              answers = g.0 ∙ ap step_answer (next_nth ps t n);
              lists = refl;
              keeps = put_sim s k (opened ps t (suc n)) a b m c.only (rw left_suc g.1);
            }

    -- the area is lent to be read
    pub read_agrees : (s : Slots) (k : ℕ) (a : Area) (out out' : List ℕ) (r : Answer) → Sim s a → Reads Rep k a out r out' → Agrees (act s (read k out)) r out' a
    unfolding act numbered read_slot
    read_agrees s k a out out' r m c = go (ltb k slots) refl (s k) (of_slot s a k m)
      where
        says_only : (w : Answer) (l : List ℕ) → (r ≡ w) × (out' ≡ l) → Agrees (record { answer = w; out = l; slots = s }) r out' a
        says_only w l p = record { answers = p.0; lists = p.1; keeps = m }

        by_room : (ps : List Point) (t : Float) (ks : List ℕ) → ltb k slots ≡ true → Rep (part k a) ps t ks → (x : Bool) → ltb (length out) (length ks) ≡ x
            → Agrees (cond x (record { answer = refused 7 0; out = out; slots = s }) (record { answer = kept (length ks); out = over ks out; slots = s })) r out' a
        by_room ps t ks e h true f =
            says_only (refused 7 0) out ((c.does ps t ks h).refuses 6 (read_first k a m.sized (length out) (length ks) true e (rep_open (part k a) ps t ks h) f))
        by_room ps t ks e h false f =
            says_only (kept (length ks)) (over ks out)
            ((c.does ps t ks h).does (read_first k a m.sized (length out) (length ks) false e (rep_open (part k a) ps t ks h) f))

        go : (x : Bool) → ltb k slots ≡ x → (v : Slot) → (x ≡ true → Holds v (part k a))
            → Agrees (cond x (read_slot s v out) (record { answer = refused 9 0; out = out; slots = s })) r out' a
        go false e v h = says_only (refused 9 0) out (c.refuses 8 (slot_first k a m.sized false (is_open (part k a)) e refl))
        go true e closed h = says_only (refused 11 0) out (c.refuses 10 (slot_first k a m.sized true false e (h refl)))
        go true e (opened ps t n) h = by_room ps t (left_after ps t n) e (h refl) (ltb (length out) (length (left_after ps t n))) refl

    pub close_agrees : (s : Slots) (k : ℕ) (a b : Area) (r : Answer) → Sim s a → Closes k a r b → Agrees (act s (close k)) r [] b
    unfolding act numbered close_slot
    close_agrees s k a b r m c = go (ltb k slots) refl (s k) (of_slot s a k m)
      where
        go : (x : Bool) → ltb k slots ≡ x → (v : Slot) → (x ≡ true → Holds v (part k a)) → Agrees (cond x (close_slot s k v) (says (refused 9 0) s)) r [] b
        go false e v h = refuse s a b r (refused 9 0) m (c.refuses 8 (slot_first k a m.sized false (is_open (part k a)) e refl))
        go true e closed h = refuse s a b r (refused 11 0) m (c.refuses 10 (slot_first k a m.sized true false e (h refl)))
        go true e (opened ps t n) h =
            let g = c.does (slot_first k a m.sized true true e (rep_open (part k a) ps t (left_after ps t n) (h refl))) in
            let l : k < slots = ltb-true k slots e in
            record {
              answers = g.0;
              lists = refl;
              keeps = put_sim s k closed a b m (subst (OnlyPart k a) (sym g.1) (closed_only k a l m.sized))
                  (ap (λ (b : Area). is_open (part k b)) g.1 ∙ closed_not_open k a l m.sized);
            }
