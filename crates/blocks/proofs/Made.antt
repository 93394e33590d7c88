-- Boxes widened, and those of all present segments made. Assumes nothing.
use mathlib.Core.Path.{◌≡◌, refl, sym, ap, ◌∙◌, subst}
use mathlib.Core.Bool.{Bool, true, false, cond}
use mathlib.Core.List.{List}
use Prim.Native.Nat.{ℕ, zero, suc, ◌+◌, ◌*◌, ◌/◌, ◌≤◌, ◌<◌}
use native.Mathlib.Decide.{ℕ_discrete}
use native.Mathlib.Omega.{arith}
use lib.Dec.{ltb}
use lib.ListN.{length}
use lib.Ieee.{Float}
use borrow.Author.Tests.{ltb-true, ltb-false}
use Rattle.rule.specs.Grid.{Point}
use Rattle.layout.specs.declared.Layout.{Layout}
use Rattle.layout.specs.Points.{from, PlacedIn}
use Rattle.links.specs.Words.{next_at, Starts}
use Rattle.bounds.specs.declared.Bounds.{Bounds}
use Rattle.bounds.specs.Bounds.{of_none, SidesOn, Holds, Grows}
use Rattle.bounds.proofs.Within.{none_on, widens}
use Rattle.blocks.specs.declared.Blocks.{Blocks}
use Rattle.blocks.specs.Boxes.{box_floats, box_at, HasBoxes, stored, spanned, covered, covered_from, cleared, covered_to, set_up, Spans, BoxesOn, Boxed}
use Rattle.blocks.proofs.Stored.{OnlyBoxes, stored_length, only_self, only_then, only_box, own_box, other_box, has_as}

-- ---- the bounds of two points more

-- d is c with the points i and j
pub record Spanning (ps : List Point) (c : Bounds) (i j : ℕ) (d : Bounds) : Type 0 where
  pub on : SidesOn d
  pub old : Grows c d
  pub new : Spans ps i j d

pub spanned_both : (m : Layout) (us vs : List Float) (ps : List Point) (c : Bounds) (i j : ℕ) → PlacedIn us vs m ps → i < m.points → j < m.points → SidesOn c
    → Spanning ps c i j (spanned m us vs c i j)
spanned_both m us vs ps c i j p hi hj s =
    let a = widens c (from us m.x i) (from vs m.y i) s (p.on i hi) in
    let b = widens _ (from us m.x j) (from vs m.y j) a.on (p.on j hj) in
    let d = spanned m us vs c i j in
    record {
      on = b.on;
      old = λ q h. b.old q (a.old q h);
      new = record { first = subst (Holds d) (sym (p.is i hi)) (b.old _ a.new); second = subst (Holds d) (sym (p.is j hj)) b.new };
    }

-- ---- a box widened

-- boxes grow, so that the one of i's block, if it has one, holds the segment from i to j
pub record Grown (b : Blocks) (ps : List Point) (i j : ℕ) (fs fs' : List Float) : Type 0 where
  pub on : BoxesOn b fs'
  pub old : (k : ℕ) → k < b.number → Grows (box_at fs b k) (box_at fs' b k)
  pub new : i / b.size < b.number → Spans ps i j (box_at fs' b (i / b.size))

pub spans_grown : {ps : List Point} {i j : ℕ} {c d : Bounds} → Grows c d → Spans ps i j c → Spans ps i j d
spans_grown g s = record { first = g _ s.first; second = g _ s.second }

module _ (b : Blocks) (m : Layout) (us vs : List Float) (i j : ℕ) (fs : List Float) where
  abbrev k : ℕ
  k = i / b.size

  abbrev wide : Bounds
  wide = spanned m us vs (box_at fs b k) i j

  abbrev now : List Float
  now = stored fs (b.at + box_floats * k) wide

  pub covered_length : length (covered b m us vs i j fs) ≡ length fs
  unfolding covered
  covered_length = go (ltb k b.number)
    where
      go : (t : Bool) → length (cond t now fs) ≡ length fs
      go true = stored_length fs (b.at + box_floats * k) wide
      go false = refl

  pub covered_only : OnlyBoxes b fs (covered b m us vs i j fs)
  unfolding covered
  covered_only = go (ltb k b.number) refl
    where
      go : (t : Bool) → ltb k b.number ≡ t → OnlyBoxes b fs (cond t now fs)
      go true e = only_box b fs k wide (ltb-true k b.number e)
      go false e = only_self b fs

  pub covered_grown : {ps : List Point} → HasBoxes b fs → PlacedIn us vs m ps → i < m.points → j < m.points → BoxesOn b fs
      → Grown b ps i j fs (covered b m us vs i j fs)
  unfolding covered
  covered_grown {ps} has p hi hj s = go (ltb k b.number) refl
    where
      go : (t : Bool) → ltb k b.number ≡ t → Grown b ps i j fs (cond t now fs)
      go false e = record { on = s; old = λ n l q h. h; new = λ l. absurd (omega (arith, ltb-false k b.number e)) }
      go true e = record {
        on = λ n l. at_box SidesOn n (λ z. w.on) (s n l);
        old = λ n l q h. at_box (λ (d : Bounds). Holds d q) n (λ z. w.old q (subst (λ (x : ℕ). Holds (box_at fs b x) q) z h)) h;
        new = λ l. subst (Spans ps i j) (sym own) w.new;
      }
        where
          low : k < b.number
          low = ltb-true k b.number e

          own : box_at now b k ≡ wide
          own = own_box b fs k wide low has

          w : Spanning ps (box_at fs b k) i j wide
          w = spanned_both m us vs ps (box_at fs b k) i j p hi hj (s k low)

          at_box : (P : Bounds → Type 0) (n : ℕ) → (n ≡ k → P wide) → P (box_at fs b n) → P (box_at now b n)
          at_box P n f g = pick (ℕ_discrete n k)
            where
              pick : Dec (n ≡ k) → P (box_at now b n)
              pick (yes z) = subst (λ (x : ℕ). P (box_at now b x)) (sym z) (subst P (sym own) (f z))
              pick (no ne) = subst P (sym (other_box b fs k wide low n ne)) g

-- ---- all boxes made

module _ (b : Blocks) (m : Layout) (us vs : List Float) (ws : List ℕ) where
  from_length : (i : ℕ) (fs : List Float) → length (covered_from b m us vs ws i fs) ≡ length fs
  unfolding covered_from
  from_length i fs = go (ltb (next_at ws m i) m.points)
    where
      go : (t : Bool) → length (cond t (covered b m us vs i (next_at ws m i) fs) fs) ≡ length fs
      go true = covered_length b m us vs i (next_at ws m i) fs
      go false = refl

  from_only : (i : ℕ) (fs : List Float) → OnlyBoxes b fs (covered_from b m us vs ws i fs)
  unfolding covered_from
  from_only i fs = go (ltb (next_at ws m i) m.points)
    where
      go : (t : Bool) → OnlyBoxes b fs (cond t (covered b m us vs i (next_at ws m i) fs) fs)
      go true = covered_only b m us vs i (next_at ws m i) fs
      go false = only_self b fs

  to_length : (n : ℕ) (fs : List Float) → length (covered_to b m us vs ws n fs) ≡ length fs
  unfolding covered_to
  to_length zero fs = refl
  to_length (suc n) fs = from_length n (covered_to b m us vs ws n fs) ∙ to_length n fs

  to_only : (n : ℕ) (fs : List Float) → OnlyBoxes b fs (covered_to b m us vs ws n fs)
  unfolding covered_to
  to_only zero fs = only_self b fs
  to_only (suc n) fs = only_then (to_only n fs) (from_only n (covered_to b m us vs ws n fs))

  module _ (ps : List Point) (placed : PlacedIn us vs m ps) where
    -- the boxes hold the present segments that start below n
    record Below (fs : List Float) (n : ℕ) : Type 0 where
      on : BoxesOn b fs
      holds : (i : ℕ) → i < n → i / b.size < b.number → Starts ws m i → Spans ps i (next_at ws m i) (box_at fs b (i / b.size))

    one_more : (n : ℕ) (fs : List Float) → HasBoxes b fs → n < m.points → Below fs n → Below (covered_from b m us vs ws n fs) (suc n)
    unfolding covered_from
    one_more n fs has h s = go (ltb (next_at ws m n) m.points) refl
      where
        go : (t : Bool) → ltb (next_at ws m n) m.points ≡ t → Below (cond t (covered b m us vs n (next_at ws m n) fs) fs) (suc n)
        go false e = record { on = s.on; holds = λ i l k st. pick i l k st (ℕ_discrete i n) }
          where
            pick : (i : ℕ) → i < suc n → i / b.size < b.number → Starts ws m i → Dec (i ≡ n) → Spans ps i (next_at ws m i) (box_at fs b (i / b.size))
            pick i l k st (yes z) = absurd (omega (arith, ltb-false (next_at ws m n) m.points e, ap (next_at ws m) z, st.ahead))
            pick i l k st (no ne) = s.holds i (omega (arith, ne)) k st
        go true e = record { on = g.on; holds = λ i l k st. pick i l k st (ℕ_discrete i n) }
          where
            now : List Float
            now = covered b m us vs n (next_at ws m n) fs

            g : Grown b ps n (next_at ws m n) fs now
            g = covered_grown b m us vs n (next_at ws m n) fs has placed h (ltb-true (next_at ws m n) m.points e) s.on

            pick : (i : ℕ) → i < suc n → i / b.size < b.number → Starts ws m i → Dec (i ≡ n) → Spans ps i (next_at ws m i) (box_at now b (i / b.size))
            pick i l k st (yes z) =
                subst (λ (x : ℕ). x / b.size < b.number → Spans ps x (next_at ws m x) (box_at now b (x / b.size))) (sym z) g.new k
            pick i l k st (no ne) = spans_grown (g.old (i / b.size) k) (s.holds i (omega (arith, ne)) k st)

    to_below : (n : ℕ) (fs : List Float) → HasBoxes b fs → n ≤ m.points → BoxesOn b fs → Below (covered_to b m us vs ws n fs) n
    unfolding covered_to
    to_below zero fs has h s = record { on = s; holds = λ i l. absurd (omega arith) }
    to_below (suc n) fs has h s =
        one_more n (covered_to b m us vs ws n fs) (has_as (to_length n fs) has) (omega arith) (to_below n fs has (omega arith) s)

cleared_length : (b : Blocks) (n : ℕ) (fs : List Float) → length (cleared b n fs) ≡ length fs
unfolding cleared
cleared_length b zero fs = refl
cleared_length b (suc n) fs = stored_length (cleared b n fs) (b.at + box_floats * n) of_none ∙ cleared_length b n fs

cleared_only : (b : Blocks) (n : ℕ) (fs : List Float) → n ≤ b.number → OnlyBoxes b fs (cleared b n fs)
unfolding cleared
cleared_only b zero fs h = only_self b fs
cleared_only b (suc n) fs h = only_then (cleared_only b n fs (omega arith)) (only_box b (cleared b n fs) n of_none (omega arith))

cleared_on : (b : Blocks) (n : ℕ) (fs : List Float) → HasBoxes b fs → n ≤ b.number → (k : ℕ) → k < n → SidesOn (box_at (cleared b n fs) b k)
unfolding cleared
cleared_on b zero fs has h k l = absurd (omega arith)
cleared_on b (suc n) fs has h k l = go (ℕ_discrete k n) (cleared_on b n fs has (omega arith) k)
  where
    was : List Float
    was = cleared b n fs

    go : Dec (k ≡ n) → (k < n → SidesOn (box_at was b k)) → SidesOn (box_at (stored was (b.at + box_floats * n) of_none) b k)
    go (yes z) rec =
        subst (λ (x : ℕ). SidesOn (box_at (stored was (b.at + box_floats * n) of_none) b x)) (sym z)
        (subst SidesOn (sym (own_box b was n of_none (omega arith) (has_as (cleared_length b n fs) has))) none_on)
    go (no ne) rec = subst SidesOn (sym (other_box b was n of_none (omega arith) k ne)) (rec (omega (arith, ne)))

module _ (b : Blocks) (m : Layout) (us vs : List Float) (ws : List ℕ) (fs : List Float) where
  pub set_up_only : OnlyBoxes b fs (set_up b m us vs ws fs)
  set_up_only = only_then (cleared_only b b.number fs (omega arith)) (to_only b m us vs ws m.points (cleared b b.number fs))

  pub set_up_boxed : {ps : List Point} → HasBoxes b fs → PlacedIn us vs m ps → Boxed b m ps (set_up b m us vs ws fs) ws
  set_up_boxed {ps} has placed =
      let s =
      to_below b m us vs ws ps placed m.points (cleared b b.number fs) (has_as (cleared_length b b.number fs) has) (omega arith)
      (cleared_on b b.number fs has (omega arith)) in
      record { on = s.on; holds = s.holds }
