-- What the history theorem says of one slot since it was opened. Assumes nothing.
--     kth_step              the k-th step since opening gives the k-th removal, or finished
--     finished_in_time      finished by step n - 1, or by step 1 below 2 points
--     read_left             a read shows exactly the points left
--     nothing_lost          the removals answered and the points listed are the points opened, each once
--     others_change_nothing, alone, alone_read      calls on other slots change nothing of this
--     anew                  closing and opening again starts anew
use mathlib.Core.Path.{◌≡◌, refl, sym, ap, ◌∙◌, subst}
use mathlib.Core.Bool.{Bool, true, false, not, ◌&&◌, cond, true≢false}
use mathlib.Core.List.{List, [], ◌∷◌, ◌++◌}
use mathlib.Core.Option.{Option, none, some}
use Prim.Native.Nat.{ℕ, zero, suc, ◌+◌, ◌-◌, ◌≤◌, ◌<◌, max}
use native.Mathlib.Omega.{arith}
use native.Mathlib.Nat.{zero-add}
use lib.Dec.{ltb, eqb}
use lib.ListN.{length, take, drop}
use lib.Seq.{take_at}
use lib.Ieee.{Float}
use borrow.Author.Tests.{eqb-true, ltb-true, ltb-false, lt-ltb, le-ltb}
use Rattle.rule.specs.Sizes.{slots}
use Rattle.rule.specs.Grid.{Point, points}
use Rattle.rule.specs.Plain.{Candidate, area_at, next, all}
use Rattle.rule.specs.Answers.{done, kept, finished, refused}
use Rattle.rule.specs.Reasons.{first_off_grid, first_of, line_rows}
use Rattle.rule.specs.Slots.{Slot, closed, opened, Slots, nth, left_after, step_answer, SlotCall, clear, open', step, read, close, Effect, says}
use Rattle.rule.specs.Slots.{open_slot, step_slot, read_slot, close_slot, numbered, act}
use Rattle.rule.specs.SlotCalls.{is_refused, less_by}
use Rattle.rule.specs.Whole.{over}
use Rattle.laws.specs.Times.{times}
use Rattle.laws.proofs.Removals.{Given, Mid, next_mid, times_append, mid_times, without_times, eqb_self}
use Rattle.laws.proofs.Removals.{next_nth, left_suc, left_zero, finished_by, once, no_other}
use Rattle.reasons.specs.Verdict.{verdict}
use Rattle.history.specs.History.{is_cut, Made, made, History, none_open, effect, expected, counted}
use Rattle.history.specs.Since.{concerns, closes, has_opened, is_step, NoneOf, steps_of, removes, removed_by, Since}
use Rattle.history.proofs.History.{opened_by, read_by, history, expected_head}

-- ---- the calls that count

-- the same calls, as these slots answer them, all lent the whole area
abbrev acted : Slots → List Made → List Made
acted s [] = []
acted s (m ∷ ms) = made m.call m.lending (act s m.call).answer (act s m.call).out ∷ acted (act s m.call).slots ms

-- the slots after them
abbrev after : Slots → List Made → Slots
after s [] = s
after s (m ∷ ms) = after (act s m.call).slots ms

counted_acted : (s : Slots) (ms : List Made) → expected s ms ≡ ms → acted s (counted ms) ≡ counted ms
counted_acted s [] e = refl
counted_acted s (m ∷ ms) e =
    let h = expected_head s m ms e in
    go (is_cut m.lending) h.0 h.1 (counted_acted (effect s (is_cut m.lending) m.call).slots ms h.2)
  where
    go : (x : Bool) → m.answer ≡ (effect s x m.call).answer → m.out ≡ (effect s x m.call).out
        → acted (effect s x m.call).slots (counted ms) ≡ counted ms → acted s (cond x (counted ms) (m ∷ counted ms)) ≡ cond x (counted ms) (m ∷ counted ms)
    go true a o r = r
    go false a o r = λ i. made m.call m.lending (sym a i) (sym o i) ∷ r i

acted_head : (s : Slots) (m : Made) (ms : List Made) → acted s (m ∷ ms) ≡ m ∷ ms
    → (m.answer ≡ (act s m.call).answer) × (m.out ≡ (act s m.call).out) × (acted (act s m.call).slots ms ≡ ms)
acted_head s m ms e =
    let f : made m.call m.lending (act s m.call).answer (act s m.call).out ≡ m = cc in
    let g : acted (act s m.call).slots ms ≡ ms = cc in
    (sym (ap (λ (x : Made). x.answer) f), sym (ap (λ (x : Made). x.out) f), g)

acted_split : (s : Slots) (xs ys : List Made) → acted s (xs ++ ys) ≡ xs ++ ys → (acted s xs ≡ xs) × (acted (after s xs) ys ≡ ys)
acted_split s [] ys e = (refl, e)
acted_split s (x ∷ xs) ys e =
    let h = acted_head s x (xs ++ ys) e in
    let r = acted_split (act s x.call).slots xs ys h.2 in
    (λ i. made x.call x.lending (sym h.0 i) (sym h.1 i) ∷ r.0 i, r.1)

-- those of a history, from any of them on
module _ {ms : List Made} (h : History ms) (earlier rest : List Made) (among : counted ms ≡ earlier ++ rest) where
  from_there : acted (after none_open earlier) rest ≡ rest
  from_there = (acted_split none_open earlier rest (sym (ap (acted none_open) among) ∙ counted_acted none_open ms (history h) ∙ among)).1

-- ---- one call

read_keeps : (k : ℕ) (s : Slots) (j : ℕ) (out : List ℕ) → (act s (read j out)).slots k ≡ s k
unfolding act numbered read_slot
read_keeps k s j out = go (ltb j slots) (s j)
  where
    by_room : (ks : List ℕ) (x : Bool) → (read_by s ks out x).slots k ≡ s k
    by_room ks true = refl
    by_room ks false = refl

    go : (x : Bool) (v : Slot) → (cond x (read_slot s v out) (record { answer = refused 9 0; out = out; slots = s })).slots k ≡ s k
    go false v = refl
    go true closed = refl
    go true (opened ps t n) = by_room (left_after ps t n) (ltb (length out) (length (left_after ps t n)))

-- a call on another slot leaves this one as it is
pub others_change_nothing : (k : ℕ) (s : Slots) (c : SlotCall) → concerns k c ≡ false → (act s c).slots k ≡ s k
unfolding act numbered open_slot step_slot read_slot close_slot
others_change_nothing k s clear e = absurd (true≢false e)
others_change_nothing k s (open' j us vs t) e = go (ltb j slots) (s j)
  where
    by_line : (n : ℕ) → (opened_by s j us vs t n).slots k ≡ s k
    by_line zero = rw e
    by_line (suc n) = refl

    go : (x : Bool) (v : Slot) → (cond x (open_slot s j v us vs t) (says (refused 9 0) s)).slots k ≡ s k
    go false v = refl
    go true closed = by_line (first_of (line_rows us vs t))
    go true (opened ps t' n) = refl
others_change_nothing k s (step j) e = go (ltb j slots) (s j)
  where
    go : (x : Bool) (v : Slot) → (cond x (step_slot s j v) (says (refused 9 0) s)).slots k ≡ s k
    go false v = refl
    go true closed = refl
    go true (opened ps t n) = rw e
others_change_nothing k s (read j out) e = read_keeps k s j out
others_change_nothing k s (close j) e = go (ltb j slots) (s j)
  where
    go : (x : Bool) (v : Slot) → (cond x (close_slot s j v) (says (refused 9 0) s)).slots k ≡ s k
    go false v = refl
    go true closed = refl
    go true (opened ps t n) = rw e

-- an opening that is done
opened_by_lem : (s : Slots) (k : ℕ) (us vs : List Float) (t : Float) → done ≡ (act s (open' k us vs t)).answer
    → (ltb k slots ≡ true) × ((act s (open' k us vs t)).slots k ≡ opened (points us vs) t 0)
unfolding act numbered open_slot
opened_by_lem s k us vs t e = go (ltb k slots) refl (s k) e
  where
    by_line : (n : ℕ) → ltb k slots ≡ true
        → done ≡ (opened_by s k us vs t n).answer → (ltb k slots ≡ true) × ((opened_by s k us vs t n).slots k ≡ opened (points us vs) t 0)
    by_line zero h e = (h, rw (eqb_self k))
    by_line (suc n) h e = absurd (let z : ◌≡◌ {A = ℕ} 0 1 = cc in omega arith)

    go : (x : Bool) → ltb k slots ≡ x → (v : Slot) → done ≡ (cond x (open_slot s k v us vs t) (says (refused 9 0) s)).answer
        → (ltb k slots ≡ true) × ((cond x (open_slot s k v us vs t) (says (refused 9 0) s)).slots k ≡ opened (points us vs) t 0)
    go false h v e = absurd (let z : ◌≡◌ {A = ℕ} 0 1 = cc in omega arith)
    go true h closed e = by_line (first_of (line_rows us vs t)) h e
    go true h (opened ps t' n) e = absurd (let z : ◌≡◌ {A = ℕ} 0 1 = cc in omega arith)

-- ---- an open slot

module _ (k : ℕ) (there : ltb k slots ≡ true) (ps : List Point) (t : Float) where
  module _ (s : Slots) (n : ℕ) (held : s k ≡ opened ps t n) where
    step_answers : (act s (step k)).answer ≡ step_answer (nth ps t n)
    unfolding act numbered step_slot
    step_answers = rw (there, held)

    step_counts : (act s (step k)).slots k ≡ opened ps t (suc n)
    unfolding act numbered step_slot
    step_counts = rw (there, held, eqb_self k)

    open_keeps : (us vs : List Float) (t' : Float) → (act s (open' k us vs t')).slots k ≡ opened ps t n
    unfolding act numbered open_slot
    open_keeps us vs t' = rw (there, held) held

    -- whatever does not close it: one more step, or all as it was
    still_open : (c : SlotCall) → closes k c ≡ false → (act s c).slots k ≡ opened ps t (cond (is_step k c) (suc n) n)
    still_open clear e = absurd (true≢false e)
    still_open (open' j us vs t') e = go (eqb k j) refl
      where
        go : (x : Bool) → eqb k j ≡ x → (act s (open' j us vs t')).slots k ≡ opened ps t n
        go true f = subst (λ (i : ℕ). (act s (open' i us vs t')).slots k ≡ opened ps t n) (eqb-true k j f) (open_keeps us vs t')
        go false f = others_change_nothing k s (open' j us vs t') f ∙ held
    still_open (step j) e = go (eqb k j) refl
      where
        go : (x : Bool) → eqb k j ≡ x → (act s (step j)).slots k ≡ opened ps t (cond x (suc n) n)
        go true f = subst (λ (i : ℕ). (act s (step i)).slots k ≡ opened ps t (suc n)) (eqb-true k j f) step_counts
        go false f = others_change_nothing k s (step j) f ∙ held
    still_open (read j out) e = read_keeps k s j out ∙ held
    still_open (close j) e = others_change_nothing k s (close j) e ∙ held

    read_answers : (out : List ℕ) → length (left_after ps t n) ≤ length out
        → ((act s (read k out)).answer ≡ kept (length (left_after ps t n))) × ((act s (read k out)).out ≡ over (left_after ps t n) out)
    unfolding act numbered read_slot
    read_answers out h = let e = le-ltb (length out) (length (left_after ps t n)) h in (rw (there, held, e), rw (there, held, e))

    read_refuses : (out : List ℕ) → length out < length (left_after ps t n) → ((act s (read k out)).answer ≡ refused 7 0) × ((act s (read k out)).out ≡ out)
    unfolding act numbered read_slot
    read_refuses out h = let e = lt-ltb (length out) (length (left_after ps t n)) h in (rw (there, held, e), rw (there, held, e))

  stays_open : (s : Slots) (n : ℕ) (ms : List Made) → s k ≡ opened ps t n → NoneOf (λ m. closes k m.call) ms → after s ms k ≡ opened ps t (n + steps_of k ms)
  stays_open s n [] h w = let e : n ≡ n + 0 = omega arith in h ∙ ap (opened ps t) e
  stays_open s n (m ∷ ms) h w =
      stays_open (act s m.call).slots (cond (is_step k m.call) (suc n) n) ms (still_open s n h m.call w.0) w.1
      ∙ ap (opened ps t) (go (is_step k m.call))
    where
      go : (x : Bool) → cond x (suc n) n + steps_of k ms ≡ n + cond x (suc (steps_of k ms)) (steps_of k ms)
      go true = omega arith
      go false = refl

  -- what a step removes, and what it leaves
  step_times : (i n : ℕ) → times i (removes (step_answer (nth ps t n))) + times i (left_after ps t (suc n)) ≡ times i (left_after ps t n)
  unfolding step_answer
  step_times i n = rw (left_suc, ← next_nth) (go (next ps t (left_after ps t n)) (next_mid ps t (left_after ps t n)))
    where
      go : (c : Option Candidate) → Given (Mid (area_at ps) (left_after ps t n)) c
          → times i (removes (step_answer c)) + times i (less_by c (left_after ps t n)) ≡ times i (left_after ps t n)
      go none d = omega arith
      go (some c) d = omega (arith, without_times c.current i (left_after ps t n) (mid_times d))

  removed_and_left : (i : ℕ) (s : Slots) (n : ℕ) (ms : List Made) → s k ≡ opened ps t n → NoneOf (λ m. closes k m.call) ms → acted s ms ≡ ms
      → times i (removed_by k ms) + times i (left_after ps t (n + steps_of k ms)) ≡ times i (left_after ps t n)
  removed_and_left i s n [] h w e = let z : n + 0 ≡ n = omega arith in rw z (omega arith)
  removed_and_left i s n (m ∷ ms) h w e =
      go m.call refl
      (removed_and_left i (act s m.call).slots (cond (is_step k m.call) (suc n) n) ms (still_open s n h m.call w.0) w.1 (acted_head s m ms e).2)
    where
      go : (c : SlotCall) → m.call ≡ c
          → times i (removed_by k ms) + times i (left_after ps t (cond (is_step k c) (suc n) n + steps_of k ms)) ≡ times i (left_after ps t (cond (is_step k c) (suc n) n))
          → times i (cond (is_step k c) (removes m.answer ++ removed_by k ms) (removed_by k ms))
          + times i (left_after ps t (n + cond (is_step k c) (suc (steps_of k ms)) (steps_of k ms))) ≡ times i (left_after ps t n)
      go clear f r = r
      go (open' j us vs t') f r = r
      go (step j) f r = by_slot (eqb k j) refl r
        where
          by_slot : (x : Bool) → eqb k j ≡ x
              → times i (removed_by k ms) + times i (left_after ps t (cond x (suc n) n + steps_of k ms)) ≡ times i (left_after ps t (cond x (suc n) n))
              → times i (cond x (removes m.answer ++ removed_by k ms) (removed_by k ms)) + times i (left_after ps t (n + cond x (suc (steps_of k ms)) (steps_of k ms)))
              ≡ times i (left_after ps t n)
          by_slot false g r = r
          by_slot true g r =
              let c : m.call ≡ step k = f ∙ ap step (sym (eqb-true k j g)) in
              let a : m.answer ≡ step_answer (nth ps t n) = (acted_head s m ms e).0 ∙ ap (λ (c : SlotCall). (act s c).answer) c ∙ step_answers s n h in
              let z : n + suc (steps_of k ms) ≡ suc n + steps_of k ms = omega arith in
              rw (times_append, a, z) (omega (arith, r, step_times i n))
      go (read j out) f r = r
      go (close j) f r = r

-- ---- since the opening

module _ {ms : List Made} (h : History ms) {k : ℕ} {us vs : List Float} {t : Float} {between : List Made} {m : Made} (o : Since ms k us vs t between m) where
  abbrev before_it : Slots
  before_it = after none_open o.earlier

  abbrev open_then : Slots
  open_then = (act before_it o.opening.call).slots

  abbrev now : Slots
  now = after open_then between

  from_opening : (o.opening.answer ≡ (act before_it o.opening.call).answer) × (o.opening.out ≡ (act before_it o.opening.call).out)
      × (acted open_then (between ++ (m ∷ o.later)) ≡ between ++ (m ∷ o.later))
  from_opening =
      acted_head before_it o.opening (between ++ (m ∷ o.later)) (from_there h o.earlier (o.opening ∷ (between ++ (m ∷ o.later))) o.among)

  was_opened : (ltb k slots ≡ true) × (open_then k ≡ opened (points us vs) t 0)
  was_opened =
      let w = opened_by_lem before_it k us vs t (sym o.was_done ∙ from_opening.0 ∙ ap (λ (c : SlotCall). (act before_it c).answer) o.opens) in
      (w.0, ap (λ (c : SlotCall). (act before_it c).slots k) o.opens ∙ w.1)

  since_then : (acted open_then between ≡ between) × (acted now (m ∷ o.later) ≡ m ∷ o.later)
  since_then = acted_split open_then between (m ∷ o.later) from_opening.2

  held_now : now k ≡ opened (points us vs) t (steps_of k between)
  held_now =
      stays_open k was_opened.0 (points us vs) t open_then 0 between was_opened.1 o.stays ∙ ap (opened (points us vs) t) (zero-add (steps_of k between))

  answered : (c : SlotCall) → m.call ≡ c → (m.answer ≡ (act now c).answer) × (m.out ≡ (act now c).out)
  answered c e =
      let w = acted_head now m o.later since_then.1 in
      (w.0 ∙ ap (λ (x : SlotCall). (act now x).answer) e, w.1 ∙ ap (λ (x : SlotCall). (act now x).out) e)

  -- the k-th step gives the k-th removal, or finished
  pub kth_step : m.call ≡ step k → m.answer ≡ step_answer (nth (points us vs) t (steps_of k between))
  kth_step e = (answered (step k) e).0 ∙ step_answers k was_opened.0 (points us vs) t now (steps_of k between) held_now

  -- on n points: by step n - 1, or by step 1 where n is below 2
  pub finished_in_time : m.call ≡ step k → max 1 (length (points us vs) - 1) ≤ suc (steps_of k between) → m.answer ≡ finished
  unfolding step_answer
  finished_in_time e g = kth_step e ∙ ap step_answer (finished_by (points us vs) t (steps_of k between) g)

  abbrev left_now : List ℕ
  left_now = left_after (points us vs) t (steps_of k between)

  -- exactly the points left, or 7 where they have no room
  pub read_left : (out : List ℕ) → m.call ≡ read k out → length left_now ≤ length out → (m.answer ≡ kept (length left_now)) × (m.out ≡ over left_now out)
  read_left out e g =
      let w = read_answers k was_opened.0 (points us vs) t now (steps_of k between) held_now out g in
      ((answered (read k out) e).0 ∙ w.0, (answered (read k out) e).1 ∙ w.1)

  pub read_short : (out : List ℕ) → m.call ≡ read k out → length out < length left_now → (m.answer ≡ refused 7 0) × (m.out ≡ out)
  read_short out e g =
      let w = read_refuses k was_opened.0 (points us vs) t now (steps_of k between) held_now out g in
      ((answered (read k out) e).0 ∙ w.0, (answered (read k out) e).1 ∙ w.1)

  -- the removals answered and the points left are the points opened,
  pub makes_up : (i : ℕ) → times i (removed_by k between) + times i left_now ≡ times i (all (points us vs))
  makes_up i =
      ap (λ (n : ℕ). times i (removed_by k between) + times i (left_after (points us vs) t n)) (sym (zero-add (steps_of k between)))
      ∙ removed_and_left k was_opened.0 (points us vs) t i open_then 0 between was_opened.1 o.stays since_then.0
      ∙ ap (times i) (left_zero (points us vs) t)

  -- and so are those answered and those that a read lists: each once, and no other
  pub nothing_lost : (out ks : List ℕ) → m.call ≡ read k out → m.answer ≡ kept (length ks) → m.out ≡ over ks out
      → ((i : ℕ) → i < length (points us vs) → times i (removed_by k between) + times i ks ≡ 1)
      × ((i : ℕ) → length (points us vs) ≤ i → times i (removed_by k between) + times i ks ≡ 0)
  nothing_lost out ks e r l =
      let same = go (ltb (length out) (length left_now)) refl in
      (λ i g. rw same (makes_up i ∙ once (points us vs) i g), λ i g. rw same (makes_up i ∙ no_other (points us vs) i g))
    where
      go : (x : Bool) → ltb (length out) (length left_now) ≡ x → ks ≡ left_now
      go true f = let w = (read_short out e (ltb-true (length out) (length left_now) f)).0 in absurd (let z : ◌≡◌ {A = ℕ} 0 1 = cc in omega arith)
      go false f =
          let w = read_left out e (ltb-false (length out) (length left_now) f) in
          let n : length ks ≡ length left_now = cc in
          sym (take_at ks (drop (length ks) out) (length left_now) n) ∙ ap (take (length left_now)) (sym l ∙ w.1)
          ∙ take_at left_now (drop (length left_now) out) (length left_now) refl

-- The answer to a step depends on the points, the tolerance and the number of steps since the opening: not on the slot, its earlier lines, or other slots.
pub alone : {ms ns : List Made} → History ms → History ns → {k j : ℕ} {us vs : List Float} {t : Float} {bs cs : List Made} {m n : Made}
    → Since ms k us vs t bs m → Since ns j us vs t cs n → steps_of k bs ≡ steps_of j cs → m.call ≡ step k → n.call ≡ step j → m.answer ≡ n.answer
alone h g {k} {j} {us} {vs} {t} o p e c d = kth_step h o c ∙ ap (λ (i : ℕ). step_answer (nth (points us vs) t i)) e ∙ sym (kth_step g p d)

-- So too the answer to a read and what it lists, where the output held the same.
pub alone_read : {ms ns : List Made} → History ms → History ns → {k j : ℕ} {us vs : List Float} {t : Float} {bs cs : List Made} {m n : Made}
    → Since ms k us vs t bs m → Since ns j us vs t cs n → steps_of k bs ≡ steps_of j cs → (out : List ℕ) → m.call ≡ read k out → n.call ≡ read j out
    → (m.answer ≡ n.answer) × (m.out ≡ n.out)
alone_read h g {k} {j} {us} {vs} {t} {bs} {cs} {m} {n} o p e out c d = go (ltb (length out) (length (left (steps_of j cs)))) refl
  where
    left : ℕ → List ℕ
    left i = left_after (points us vs) t i

    go : (x : Bool) → ltb (length out) (length (left (steps_of j cs))) ≡ x → (m.answer ≡ n.answer) × (m.out ≡ n.out)
    go true f =
        let r = ltb-true (length out) (length (left (steps_of j cs))) f in
        let v = read_short h o out c (rw e r) in
        let w = read_short g p out d r in
        (v.0 ∙ sym w.0, v.1 ∙ sym w.1)
    go false f =
        let r = ltb-false (length out) (length (left (steps_of j cs))) f in
        let v = read_left h o out c (rw e r) in
        let w = read_left g p out d r in
        (v.0 ∙ ap (λ (i : ℕ). kept (length (left i))) e ∙ sym w.0, v.1 ∙ ap (λ (i : ℕ). over (left i) out) e ∙ sym w.1)

-- ---- closed, and opened again

closed_by : (s : Slots) (k : ℕ) → done ≡ (act s (close k)).answer → (ltb k slots ≡ true) × ((act s (close k)).slots k ≡ closed)
unfolding act numbered close_slot
closed_by s k e = go (ltb k slots) refl (s k) e
  where
    go : (x : Bool) → ltb k slots ≡ x → (v : Slot) → done ≡ (cond x (close_slot s k v) (says (refused 9 0) s)).answer
        → (ltb k slots ≡ true) × ((cond x (close_slot s k v) (says (refused 9 0) s)).slots k ≡ closed)
    go false h v e = absurd (let z : ◌≡◌ {A = ℕ} 0 1 = cc in omega arith)
    go true h closed e = absurd (let z : ◌≡◌ {A = ℕ} 0 1 = cc in omega arith)
    go true h (opened ps t n) e = (h, rw (eqb_self k))

module _ (k : ℕ) (s : Slots) (held : s k ≡ closed) where
  -- refused, or not there: the slots are as they were
  open_refused : (us vs : List Float) (t : Float) → not (is_refused (act s (open' k us vs t)).answer) ≡ false → (act s (open' k us vs t)).slots k ≡ closed
  unfolding act numbered open_slot
  open_refused us vs t e = go (ltb k slots) (s k) held e
    where
      by_line : (n : ℕ) → not (is_refused (opened_by s k us vs t n).answer) ≡ false → (opened_by s k us vs t n).slots k ≡ closed
      by_line zero e = absurd (true≢false e)
      by_line (suc n) e = held

      go : (x : Bool) (v : Slot) → v ≡ closed → not (is_refused (cond x (open_slot s k v us vs t) (says (refused 9 0) s)).answer) ≡ false
          → (cond x (open_slot s k v us vs t) (says (refused 9 0) s)).slots k ≡ closed
      go false v f e = held
      go true closed f e = by_line (first_of (line_rows us vs t)) e
      go true (opened ps t' n) f e = held

  -- a slot that is not there is not opened
  there : (e : Effect) → e.slots k ≡ closed → (x : Bool) → (cond x e (says (refused 9 0) s)).slots k ≡ closed
  there e h true = h
  there e h false = held

  step_closed : (act s (step k)).slots k ≡ closed
  unfolding act numbered step_slot
  step_closed = rw held (there (step_slot s k closed) held (ltb k slots))

  close_closed : (act s (close k)).slots k ≡ closed
  unfolding act numbered close_slot
  close_closed = rw held (there (close_slot s k closed) held (ltb k slots))

  -- whatever does not open it
  still_closed : (c : SlotCall) → has_opened k c (act s c).answer ≡ false → (act s c).slots k ≡ closed
  still_closed clear e = unfold act in refl
  still_closed (open' j us vs t) e = go (eqb k j) refl e
    where
      go : (x : Bool) → eqb k j ≡ x → (x && not (is_refused (act s (open' j us vs t)).answer)) ≡ false → (act s (open' j us vs t)).slots k ≡ closed
      go true f e =
          subst (λ (i : ℕ). not (is_refused (act s (open' i us vs t)).answer) ≡ false → (act s (open' i us vs t)).slots k ≡ closed) (eqb-true k j f) (open_refused us vs t) e
      go false f e = others_change_nothing k s (open' j us vs t) f ∙ held
  still_closed (step j) e = go (eqb k j) refl
    where
      go : (x : Bool) → eqb k j ≡ x → (act s (step j)).slots k ≡ closed
      go true f = subst (λ (i : ℕ). (act s (step i)).slots k ≡ closed) (eqb-true k j f) step_closed
      go false f = others_change_nothing k s (step j) f ∙ held
  still_closed (read j out) e = read_keeps k s j out ∙ held
  still_closed (close j) e = go (eqb k j) refl
    where
      go : (x : Bool) → eqb k j ≡ x → (act s (close j)).slots k ≡ closed
      go true f = subst (λ (i : ℕ). (act s (close i)).slots k ≡ closed) (eqb-true k j f) close_closed
      go false f = others_change_nothing k s (close j) f ∙ held

stays_closed : (k : ℕ) (s : Slots) (ms : List Made) → s k ≡ closed → acted s ms ≡ ms → NoneOf (λ m. has_opened k m.call m.answer) ms → after s ms k ≡ closed
stays_closed k s [] h e w = h
stays_closed k s (m ∷ ms) h e w =
    let a = acted_head s m ms e in
    stays_closed k (act s m.call).slots ms (still_closed k s h m.call (ap (has_opened k m.call) (sym a.0) ∙ w.0)) a.2 w.1

open_answers : (s : Slots) (k : ℕ) (us vs : List Float) (t : Float) → ltb k slots ≡ true → s k ≡ closed
    → ((act s (open' k us vs t)).answer ≡ verdict (first_of (line_rows us vs t)) (first_off_grid us vs)) × ((act s (open' k us vs t)).out ≡ [])
unfolding act numbered open_slot
open_answers s k us vs t there e = rw (there, e) (go (first_of (line_rows us vs t)))
  where
    go : (n : ℕ) → ((opened_by s k us vs t n).answer ≡ verdict n (first_off_grid us vs)) × ((opened_by s k us vs t n).out ≡ [])
    go zero = (refl, refl)
    go (suc n) = (refl, refl)

-- After a closing that was done, and no opening since, a slot is opened unless the line itself is refused. By `kth_step` its steps are counted from there.
pub anew : {ms : List Made} → History ms → (k : ℕ) (us vs : List Float) (t : Float) (earlier between later : List Made) (closing m : Made)
    → counted ms ≡ earlier ++ (closing ∷ (between ++ (m ∷ later))) → closing.call ≡ close k → closing.answer ≡ done
    → NoneOf (λ c. has_opened k c.call c.answer) between → m.call ≡ open' k us vs t
    → (m.answer ≡ verdict (first_of (line_rows us vs t)) (first_off_grid us vs)) × (m.out ≡ [])
anew h k us vs t earlier between later closing m among c d w e =
    let s = after none_open earlier in
    let a = acted_head s closing (between ++ (m ∷ later)) (from_there h earlier (closing ∷ (between ++ (m ∷ later))) among) in
    let b = closed_by s k (sym d ∙ a.0 ∙ ap (λ (x : SlotCall). (act s x).answer) c) in
    let s' = (act s closing.call).slots in
    let f = acted_split s' between (m ∷ later) a.2 in
    let g = acted_head (after s' between) m later f.1 in
    let held = stays_closed k s' between (ap (λ (x : SlotCall). (act s x).slots k) c ∙ b.1) f.0 w in
    let v = open_answers (after s' between) k us vs t b.0 held in
    (g.0 ∙ ap (λ (x : SlotCall). (act (after s' between) x).answer) e ∙ v.0, g.1 ∙ ap (λ (x : SlotCall). (act (after s' between) x).out) e ∙ v.1)
