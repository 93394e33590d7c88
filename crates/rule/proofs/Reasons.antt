-- The number given is that of the first row that applies, in document 01's order for each call, and 0 exactly if none applies; the place that
-- comes with 3 is the least. Assumes nothing.
use mathlib.Core.Path.{◌≡◌, refl, sym, ap, ◌∙◌, subst}
use mathlib.Core.Logic.{◌↔◌}
use mathlib.Core.Bool.{Bool, true, false, not, ◌&&◌, cond, true≢false, false≢true}
use mathlib.Core.List.{List, [], ◌∷◌, ◌++◌, append-nil}
use mathlib.Core.Option.{Option, none, some}
use Prim.Native.Nat.{ℕ, zero, suc, ◌+◌, ◌<◌}
use native.Mathlib.Omega.{arith}
use lib.Dec.{T, eqb}
use lib.ListN.{length, get_or}
use lib.Ieee.{Float}
use lib.Ieee.Fits.{and_l, and_r}
use borrow.Author.Tests.{eq-eqb, not-false}
use Rattle.rule.specs.Grid.{on_grid, is_finite}
use Rattle.rule.specs.Rings.{bad_table}
use Rattle.rule.specs.Area.{Area, zero_float}
use Rattle.rule.specs.Reasons.{Row, first_of, off_grid_from, first_off_grid, is_some, line_rows}
use Rattle.rule.specs.Reasons.{lengths_differ, too_many_points, tolerance_not_finite, some_off_grid, ring_table, ring_not_closed, output_short, outputs_short, scratch_short}
use Rattle.rule.specs.Reasons.{area_short, no_such_slot, slot_is_open, slot_not_open}
use Rattle.rule.specs.Reasons.{repeat_reason, thin_reason, polygon_reason, clear_reason, open_reason, slot_reason, read_reason}

-- ---- the first row that applies

abbrev pub NoneApplies : List Row → Type 0
NoneApplies [] = Unit {0}
NoneApplies (r ∷ rs) = (r.applies ≡ false) × NoneApplies rs

-- n is the number of a row that applies, and no earlier row does
pub record Given (rs : List Row) (n : ℕ) : Type 0 where
  pub earlier : List Row
  pub row : Row
  pub later : List Row
  pub split : rs ≡ earlier ++ (row ∷ later)
  pub none_earlier : NoneApplies earlier
  pub applies : row.applies ≡ true
  pub number : row.number ≡ n

-- no row of these has the number n
abbrev pub lacks : ℕ → List Row → Bool
lacks n [] = true
lacks n (r ∷ rs) = not (eqb r.number n) && lacks n rs

pub none_given : (es rs : List Row) → NoneApplies es → first_of (es ++ rs) ≡ first_of rs
none_given [] rs h = refl
none_given (r ∷ es) rs h = rw h.0 (none_given es rs h.1)

-- a row before the one that is given does not apply
pub passed_over : (n : ℕ) (es rs : List Row) → T (lacks n es) → first_of (es ++ rs) ≡ n → NoneApplies es
passed_over n [] rs t e = tt
passed_over n (r ∷ es) rs t e =
    let w = not_this r.applies r.number (first_of (es ++ rs)) (and_l (not (eqb r.number n)) (lacks n es) t) e in
    (w.0, passed_over n es rs (and_r (not (eqb r.number n)) (lacks n es) t) w.1)
  where
    not_this : (x : Bool) (i j : ℕ) → T (not (eqb i n)) → cond x i j ≡ n → (x ≡ false) × (j ≡ n)
    not_this true i j t e = absurd (subst (λ (b : Bool). T (not b)) (eq-eqb i n e) t)
    not_this false i j t e = (refl, e)

-- no number is given exactly if no row applies
pub none_applies : (rs : List Row) → T (lacks 0 rs) → first_of rs ≡ 0 → NoneApplies rs
none_applies rs t e = passed_over 0 rs [] t (ap first_of (append-nil rs) ∙ e)

pub none_is : (rs : List Row) → T (lacks 0 rs) → (first_of rs ≡ 0) ↔ NoneApplies rs
none_is rs t = (
  none_applies rs t,
  λ h. sym (ap first_of (append-nil rs)) ∙ none_given rs [] h,
)

given_or_later : (n : ℕ) (r : Row) (rs : List Row) → (first_of rs ≡ n → Given rs n) → (x : Bool) → r.applies ≡ x → cond x r.number (first_of rs) ≡ n → Given (r ∷ rs) n
given_or_later n r rs f true a e = record { earlier = []; row = r; later = rs; split = refl; none_earlier = tt; applies = a; number = e }
given_or_later n r rs f false a e =
    let g = f e in
    record {
      earlier = r ∷ g.earlier;
      row = g.row;
      later = g.later;
      split = ap (λ (l : List Row). r ∷ l) g.split;
      none_earlier = (a, g.none_earlier);
      applies = g.applies;
      number = g.number;
    }

first_given : (rs : List Row) (n : ℕ) → first_of rs ≡ suc n → Given rs (suc n)
first_given [] n e = absurd (omega arith)
first_given (r ∷ rs) n e = given_or_later (suc n) r rs (first_given rs n) r.applies refl e

-- a number is given exactly if its row is the first that applies
pub given_is : (rs : List Row) (n : ℕ) → (first_of rs ≡ suc n) ↔ Given rs (suc n)
given_is rs n = (first_given rs n, λ g. ap first_of g.split ∙ none_given g.earlier (g.row ∷ g.later) g.none_earlier ∙ rw g.applies g.number)

-- ---- the order of the reasons: whole calls

no_point : (o : Option ℕ) → is_some o ≡ false → o ≡ none
no_point none e = refl
no_point (some i) e = absurd (true≢false e)

-- 1, 2, 3, 7
module _ (us vs : List Float) (room : ℕ) where
  abbrev repeat_rows : List Row
  repeat_rows = lengths_differ us vs ∷ too_many_points us ∷ some_off_grid us vs ∷ output_short room (length us) ∷ []

  pub repeat_given : (n : ℕ) → (repeat_reason us vs room ≡ suc n) ↔ Given repeat_rows (suc n)
  unfolding repeat_reason
  repeat_given n = given_is repeat_rows n

  pub repeat_none : (repeat_reason us vs room ≡ 0) ↔ NoneApplies repeat_rows
  unfolding repeat_reason
  repeat_none = none_is repeat_rows tt

  -- 7 only where no point is off the grid
  pub repeat_7_after_3 : repeat_reason us vs room ≡ 7 → first_off_grid us vs ≡ none
  unfolding repeat_reason
  repeat_7_after_3 e =
      no_point (first_off_grid us vs) (passed_over 7 (lengths_differ us vs ∷ too_many_points us ∷ some_off_grid us vs ∷ []) (output_short room (length us) ∷ []) tt e).1.1.0

-- 1, 2, 4, 3, 7, 8
module _ (us vs : List Float) (t : Float) (room floats words : ℕ) where
  abbrev thin_rows : List Row
  thin_rows =
      lengths_differ us vs ∷ too_many_points us ∷ tolerance_not_finite t ∷ some_off_grid us vs ∷ output_short room (length us) ∷ scratch_short floats words (length us) ∷ []

  pub thin_given : (n : ℕ) → (thin_reason us vs t room floats words ≡ suc n) ↔ Given thin_rows (suc n)
  unfolding thin_reason
  thin_given n = given_is thin_rows n

  pub thin_none : (thin_reason us vs t room floats words ≡ 0) ↔ NoneApplies thin_rows
  unfolding thin_reason
  thin_none = none_is thin_rows tt

  -- 3 only where the tolerance is finite
  pub thin_3_after_4 : thin_reason us vs t room floats words ≡ 3 → is_finite t ≡ true
  unfolding thin_reason
  thin_3_after_4 e =
      not-false (is_finite t) (passed_over 3 (lengths_differ us vs ∷ too_many_points us ∷ tolerance_not_finite t ∷ [])
      (some_off_grid us vs ∷ output_short room (length us) ∷ scratch_short floats words (length us) ∷ []) tt e).1.1.0

-- 1, 2, 4, 3, 5, 6, 7, 8
module _ (us vs : List Float) (t : Float) (table : List ℕ) (room ringRoom floats words : ℕ) where
  abbrev polygon_rows : List Row
  polygon_rows =
      lengths_differ us vs ∷ too_many_points us ∷ tolerance_not_finite t ∷ some_off_grid us vs ∷ ring_table (length us) table ∷ ring_not_closed us vs table
      ∷ outputs_short room (length us) ringRoom (length table) ∷ scratch_short floats words (length us) ∷ []

  pub polygon_given : (n : ℕ) → (polygon_reason us vs t table room ringRoom floats words ≡ suc n) ↔ Given polygon_rows (suc n)
  unfolding polygon_reason
  polygon_given n = given_is polygon_rows n

  pub polygon_none : (polygon_reason us vs t table room ringRoom floats words ≡ 0) ↔ NoneApplies polygon_rows
  unfolding polygon_reason
  polygon_none = none_is polygon_rows tt

  -- 6 only where the ring table is good
  pub polygon_6_after_5 : polygon_reason us vs t table room ringRoom floats words ≡ 6 → bad_table (length us) table ≡ false
  unfolding polygon_reason
  polygon_6_after_5 e =
      (passed_over 6 (line_rows us vs t ++ (ring_table (length us) table ∷ []))
      (ring_not_closed us vs table ∷ outputs_short room (length us) ringRoom (length table) ∷ scratch_short floats words (length us) ∷ []) tt e).1.1.1.1.0

-- ---- the order of the reasons: slots

-- 8
pub clear_given : (a : Area) (n : ℕ) → (clear_reason a ≡ suc n) ↔ Given (area_short a ∷ []) (suc n)
unfolding clear_reason
clear_given a n = given_is (area_short a ∷ []) n

module _ (k : ℕ) (a : Area) where
  -- 8, 9, 10, 1, 2, 4, 3
  pub open_given : (us vs : List Float) (t : Float) (n : ℕ)
      → (open_reason k us vs t a ≡ suc n) ↔ Given (area_short a ∷ no_such_slot k ∷ slot_is_open k a ∷ line_rows us vs t) (suc n)
  unfolding open_reason
  open_given us vs t n = given_is (area_short a ∷ no_such_slot k ∷ slot_is_open k a ∷ line_rows us vs t) n

  -- 8, 9, 11
  pub slot_given : (n : ℕ) → (slot_reason k a ≡ suc n) ↔ Given (area_short a ∷ no_such_slot k ∷ slot_not_open k a ∷ []) (suc n)
  unfolding slot_reason
  slot_given n = given_is (area_short a ∷ no_such_slot k ∷ slot_not_open k a ∷ []) n

  -- 8, 9, 11, 7
  pub read_given : (room left n : ℕ)
      → (read_reason k a room left ≡ suc n) ↔ Given (area_short a ∷ no_such_slot k ∷ slot_not_open k a ∷ output_short room left ∷ []) (suc n)
  unfolding read_reason
  read_given room left n = given_is (area_short a ∷ no_such_slot k ∷ slot_not_open k a ∷ output_short room left ∷ []) n

-- ---- the place that comes with 3

abbrev pub is_on : List Float → List Float → ℕ → Bool
is_on us vs i = on_grid (get_or us i zero_float) && on_grid (get_or vs i zero_float)

-- the point j is off the grid, and none before it is
pub record FirstOff (us vs : List Float) (j : ℕ) : Type 0 where
  pub in_us : j < length us
  pub in_vs : j < length vs
  pub off : is_on us vs j ≡ false
  pub before : (i : ℕ) → i < j → is_on us vs i ≡ true

none≢some : {i : ℕ} → none ≡ some i → ⊥
none≢some e = false≢true (ap is_some e)

record FoundFrom (i : ℕ) (us vs : List Float) (j : ℕ) : Type 0 where
  past : ℕ
  at : j ≡ i + past
  first : FirstOff us vs past

found_from : (i : ℕ) (us vs : List Float) (j : ℕ) → off_grid_from i us vs ≡ some j → FoundFrom i us vs j
unfolding off_grid_from
found_from i [] vs j e = absurd (none≢some e)
found_from i (u ∷ us) [] j e = absurd (none≢some e)
found_from i (u ∷ us) (v ∷ vs) j e = go (on_grid u && on_grid v) refl (found_from (suc i) us vs j) e
  where
    all_before : (d : ℕ) → is_on (u ∷ us) (v ∷ vs) 0 ≡ true → ((k : ℕ) → k < d → is_on us vs k ≡ true) → (k : ℕ) → k < suc d → is_on (u ∷ us) (v ∷ vs) k ≡ true
    all_before d f h zero l = f
    all_before d f h (suc k) l = h k (omega arith)

    go : (x : Bool) → (on_grid u && on_grid v) ≡ x → (off_grid_from (suc i) us vs ≡ some j → FoundFrom (suc i) us vs j)
        → cond x (off_grid_from (suc i) us vs) (some i) ≡ some j → FoundFrom i (u ∷ us) (v ∷ vs) j
    go true f h e =
        let g = h e in
        record {
          past = suc g.past;
          at = omega (arith, g.at);
          first = record {
            in_us = omega (arith, g.first.in_us);
            in_vs = omega (arith, g.first.in_vs);
            off = g.first.off;
            before = all_before g.past f g.first.before;
          };
        }
    go false f h e =
        let z : i ≡ j = cc in
        record {
          past = 0;
          at = omega arith;
          first = record { in_us = omega arith; in_vs = omega arith; off = f; before = λ k l. absurd (omega arith) };
        }

pub off_first : (us vs : List Float) (j : ℕ) → first_off_grid us vs ≡ some j → FirstOff us vs j
unfolding first_off_grid
off_first us vs j e = let g = found_from 0 us vs j e in subst (FirstOff us vs) (omega (arith, g.at)) g.first

none_from : (i : ℕ) (us vs : List Float) → off_grid_from i us vs ≡ none → (k : ℕ) → k < length us → k < length vs → is_on us vs k ≡ true
unfolding off_grid_from
none_from i [] vs e k h g = absurd (omega arith)
none_from i (u ∷ us) [] e k h g = absurd (omega arith)
none_from i (u ∷ us) (v ∷ vs) e k h g = go (on_grid u && on_grid v) refl (none_from (suc i) us vs) e k h g
  where
    go : (x : Bool) → (on_grid u && on_grid v) ≡ x → (off_grid_from (suc i) us vs ≡ none → (k : ℕ) → k < length us → k < length vs → is_on us vs k ≡ true)
        → cond x (off_grid_from (suc i) us vs) (some i) ≡ none → (k : ℕ) → k < suc (length us) → k < suc (length vs) → is_on (u ∷ us) (v ∷ vs) k ≡ true
    go true f r e zero h g = f
    go true f r e (suc k) h g = r e k (omega arith) (omega arith)
    go false f r e k h g = absurd (none≢some (sym e))

pub off_none : (us vs : List Float) → first_off_grid us vs ≡ none → (i : ℕ) → i < length us → i < length vs → is_on us vs i ≡ true
unfolding first_off_grid
off_none us vs e = none_from 0 us vs e
