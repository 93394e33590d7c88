-- The tests of the ring table. Assumes nothing.
use mathlib.Core.Path.{◌≡◌, refl, sym, ap, ◌∙◌}
use mathlib.Core.Bool.{Bool, true, false, not, ◌&&◌, ◌||◌, and-false}
use mathlib.Core.List.{List, [], ◌∷◌, ◌++◌}
use Prim.Native.Nat.{ℕ, zero, suc, ◌+◌, ◌-◌, ◌≤◌, ◌<◌}
use native.Mathlib.Numerals.{add-one}
use native.Mathlib.Omega.{arith}
use lib.Dec.{leb, ltb, eqb}
use lib.ListN.{length, drop, get_or, length-drop}
use lib.Ieee.{Float}
use borrow.Author.Tests.{le-leb, lt-leb, lt-ltb, le-ltb, not-true, not-false}
use Rattle.std.specs.Prelude.{Option, Some, None, MatchBool, MatchOption, IsTrue, option_copied, slice_get}
use Rattle.std.specs.Borrow.{Bor}
use Rattle.std.specs.List.Sorted.{IsNonDecreasing}
use Rattle.rule.specs.Sizes.{most_rings}
use Rattle.rule.specs.Grid.{Point, at, points}
use Rattle.rule.specs.Segment.{same}
use Rattle.rule.specs.Plain.{indices}
use Rattle.rule.specs.Rings.{rises, last_or, bad_table, rings_from, is_closed, all_closed}
use Rattle.laws.proofs.Rings.{table_good}
use Rattle.ring_reasons.specs.Table.{Cuts}
use Rattle.ring_reasons.proofs.Cut.{Cut, cut_start, next_cut, next_rings}

-- ---- 5

-- none falls
none_falls : (lo : ℕ) (his : List ℕ) → (0 < length his → lo ≤ get_or his 0 0) → ((k : ℕ) → suc k < length his → get_or his k 0 ≤ get_or his (suc k) 0) → rises lo his ≡ true
unfolding rises
none_falls lo [] a b = refl
none_falls lo (hi ∷ his) a b =
    rw (le-leb lo hi (a (omega arith))) (none_falls hi his (λ h. b 0 (omega arith)) (λ k h. b (suc k) (omega arith)))

-- one falls
one_falls : (lo k : ℕ) (his : List ℕ) → suc k < length his → get_or his (suc k) 0 < get_or his k 0 → rises lo his ≡ false
unfolding rises
one_falls lo k [] h l = absurd (omega arith)
one_falls lo zero (hi ∷ []) h l = absurd (omega arith)
one_falls lo zero (hi ∷ next ∷ his) h l = rw (lt-leb hi next l) (and-false (leb lo hi))
one_falls lo (suc k) (hi ∷ his) h l = rw (one_falls hi k his (omega arith) l) (and-false (leb lo hi))

-- too long, or one falls
abbrev long_or_falls : List ℕ → Bool
long_or_falls table = ltb most_rings (length table) || not (rises 0 table)

pub too_long : (table : List ℕ) {n : ℕ} {b : Bool} → n ≡ length table → most_rings < n → b ≡ ltb most_rings n → b ≡ long_or_falls table
too_long table {n} e h t = rw (t, ← e, lt-ltb most_rings n h)

-- by the library's test
pub falls_is : (table : List ℕ) {n : ℕ} {b : Bool} (sorted : Bool) → n ≡ length table → n ≤ most_rings
    → MatchBool sorted (IsNonDecreasing table) ((k : ℕ) × (k + 1 < length table) × ((d : ℕ) → get_or table (k + 1) d < get_or table k d)) → b ≡ not sorted → b ≡ long_or_falls table
falls_is table {n} sorted e h s t = rw (t, ← e, le-ltb most_rings n h) (go sorted s)
  where
    go : (r : Bool) → MatchBool r (IsNonDecreasing table) ((k : ℕ) × (k + 1 < length table) × ((d : ℕ) → get_or table (k + 1) d < get_or table k d)) → not r ≡ not (rises 0 table)
    go true h = rw (none_falls 0 table (λ l. omega arith) (λ k l. h k (suc k) 0 (omega arith) l))
    go false h = rw (one_falls 0 h.0 table (rw add-one at h.1) (rw add-one at (h.2 0)))

-- there is no last entry, or it is not n
abbrev ends_elsewhere : ℕ → List ℕ → Bool
ends_elsewhere n [] = true
ends_elsewhere n (hi ∷ his) = not (eqb (last_or hi his) n)

last_got : (hi i : ℕ) (his : List ℕ) → i ≡ length his → slice_get (hi ∷ his) i ≡ Some (last_or hi his)
last_got hi i [] e = rw e
last_got hi i (next ∷ his) e = rw e (last_got next (length his) his refl)

-- what the library's test of the last entry says
pub ends_is : {Q : Bor ℕ → Type 0} (n : ℕ) (table : List ℕ) (o : Option (Bor ℕ)) (r : Bool) → option_copied o ≡ slice_get table (length table - 1)
    → MatchOption o (IsTrue r) Q → ((e : Bor ℕ) → Q e → r ≡ not (eqb e.now n)) → r ≡ ends_elsewhere n table
ends_is n [] None r e h q = h
ends_is n [] (Some b) r e h q = cc
ends_is n (hi ∷ his) None r e h q = let l = last_got hi (length (hi ∷ his) - 1) his (omega arith) in cc
ends_is n (hi ∷ his) (Some b) r e h q = let l = last_got hi (length (hi ∷ his) - 1) his (omega arith) in let f : b.now ≡ last_or hi his = cc in rw (← f) (q b h)

bad_is : (n : ℕ) (table : List ℕ) → bad_table n table ≡ (long_or_falls table || ends_elsewhere n table)
unfolding bad_table rises
bad_is n [] = refl
bad_is n (hi ∷ his) = refl

module _ (n : ℕ) (table : List ℕ) {b : Bool} (e : b ≡ long_or_falls table) where
  pub bad_so_far : b ≡ true → b ≡ bad_table n table
  bad_so_far t = rw (bad_is n table, ← e, t)

  pub bad_at_end : {r : Bool} → b ≡ false → r ≡ ends_elsewhere n table → r ≡ bad_table n table
  bad_at_end f h = rw (bad_is n table, ← e, f) h

-- a table that is not bad cuts the points
pub table_cuts : (n : ℕ) (table : List ℕ) → bad_table n table ≡ false → Cuts n table
table_cuts n table e = let g = table_good n table e in record { rise = g.rise; last = g.last }

-- ---- 6

last_index : (i n : ℕ) → last_or i (indices (suc i) n) ≡ i + n
unfolding indices
last_index i zero = omega arith
last_index i (suc n) = last_index (suc i) n ∙ omega arith

pub closed_none : (ps : List Point) (lo hi : ℕ) → hi ≤ lo → false ≡ not (is_closed ps (indices lo (hi - lo)))
unfolding is_closed indices
closed_none ps lo hi h = let e : hi - lo ≡ 0 = omega arith in rw e

pub closed_ends : (ps : List Point) (lo hi : ℕ) → lo < hi → is_closed ps (indices lo (hi - lo)) ≡ same (at ps lo) (at ps (hi - 1))
unfolding is_closed indices
closed_ends ps lo hi h =
    let e : hi - lo ≡ suc (hi - lo - 1) = omega arith in
    let l : lo + (hi - lo - 1) ≡ hi - 1 = omega arith in
    rw (e, last_index lo (hi - lo - 1), l)

-- the rings from lo on are closed just if all are
pub record Closing (us vs : List Float) (table : List ℕ) (lo k : ℕ) : Type 0 where
  pub past : List ℕ
  pub cut : Cut table (length us) past k lo
  pub closed : all_closed (points us vs) (rings_from 0 table) ≡ all_closed (points us vs) (rings_from lo (drop k table))

module _ {us vs : List Float} {table : List ℕ} where
  pub closing_start : Cuts (length us) table → Closing us vs table 0 0
  closing_start c = record { past = []; cut = cut_start c; closed = refl }

  module _ {lo k : ℕ} (s : Closing us vs table lo k) where
    module _ (h : k < length table) where
      closed_here : all_closed (points us vs) (rings_from 0 table)
          ≡ (is_closed (points us vs) (indices lo (get_or table k 0 - lo)) && all_closed (points us vs) (rings_from (get_or table k 0) (drop (k + 1) table)))
      unfolding all_closed
      closed_here = s.closed ∙ ap (all_closed (points us vs)) (next_rings s.cut h)

      pub closing_more : not (is_closed (points us vs) (indices lo (get_or table k 0 - lo))) ≡ false → Closing us vs table (get_or table k 0) (k + 1)
      closing_more e = record {
        past = s.past ++ (get_or table k 0 ∷ []);
        cut = next_cut s.cut h;
        closed = closed_here ∙ rw (not-false (is_closed (points us vs) (indices lo (get_or table k 0 - lo))) e);
      }

      pub closing_open : not (is_closed (points us vs) (indices lo (get_or table k 0 - lo))) ≡ true → true ≡ not (all_closed (points us vs) (rings_from 0 table))
      closing_open e =
          let f : all_closed (points us vs) (rings_from 0 table) ≡ false = closed_here ∙ rw (not-true (is_closed (points us vs) (indices lo (get_or table k 0 - lo))) e) in
          sym (ap not f)

    pub closing_end : length table ≤ k → false ≡ not (all_closed (points us vs) (rings_from 0 table))
    unfolding all_closed rings_from
    closing_end h = go (drop k table) (omega (arith, length-drop k table)) s.closed
      where
        go : (l : List ℕ) → length l ≤ 0 → all_closed (points us vs) (rings_from 0 table) ≡ all_closed (points us vs) (rings_from lo l)
            → false ≡ not (all_closed (points us vs) (rings_from 0 table))
        go [] g e = sym (ap not e)
        go (x ∷ l) g e = absurd (omega arith)
