-- The walk through the links, and the test block by block: a block whose box is apart from the new segment's has no segment that meets it. Assumes nothing.
use mathlib.Core.Path.{◌≡◌, sym, ◌∙◌, subst}
use mathlib.Core.Bool.{Bool, true, false, not, ◌||◌, and-false}
use mathlib.Core.List.{List}
use Prim.Native.Nat.{ℕ, ◌+◌, ◌*◌, ◌/◌, ◌≤◌, ◌<◌}
use native.Mathlib.Decide.{dec_lt}
use native.Mathlib.Nat.{div-eq_of_lt-le}
use native.Mathlib.Omega.{arith}
use lib.Ieee.{Float}
use Rattle.std.specs.Prelude.{min, max}
use Rattle.rule.specs.Grid.{Point, at}
use Rattle.rule.specs.Segment.{same, meets}
use Rattle.rule.specs.Preserve.{against}
use Rattle.layout.specs.declared.Layout.{Layout}
use Rattle.layout.specs.Points.{PlacedIn}
use Rattle.links.specs.Words.{next_at, Starts}
use Rattle.links.proofs.Rings.{none_between}
use Rattle.bounds.specs.Bounds.{of_none, apart}
use Rattle.bounds.proofs.Within.{none_on, apart_none}
use Rattle.blocks.specs.declared.Blocks.{Blocks}
use Rattle.blocks.specs.Boxes.{box_at, spanned, Spans, Boxed}
use Rattle.blocks.proofs.Made.{Spanning, spanned_both}
use Rattle.crossing.specs.Crossing.{AgainstAt, CrossesIs}
use Rattle.crossing.specs.Passing.{Ringed, NoneAgainst, Walks}
use Rattle.crossing.proofs.Crossing.{rings_false, against_as}

-- ---- from a point to the next

-- no present segment that starts from point lo to point i is against the one from l to r
pub record Walking (m : Layout) (us vs : List Float) (ws : List ℕ) (lo l r i : ℕ) : Type 0 where
  pub none : (ps : List Point) → PlacedIn us vs m ps → Ringed ws m → NoneAgainst m ps ws lo i l r

-- a present segment starts at i, and ends at j
module _ (m : Layout) (us vs : List Float) (ws : List ℕ) (lo l r : ℕ) (hl : l < m.points) (hr : r < m.points) {i j : ℕ} (hi : i < m.points) (s : Starts ws m i)
    (e : j ≡ next_at ws m i) {c : Bool} (h : AgainstAt m us vs i j l r c) where
  pub walking_on : c ≡ false → Walking m us vs ws lo l r i → {n : ℕ} → n ≡ max j (i + 1) → Walking m us vs ws lo l r n
  walking_on f w {n} x = record { none = λ ps p g k low high st. go ps p g k low high st (dec_lt k i) (dec_lt i k) }
    where
      go : (ps : List Point) → PlacedIn us vs m ps → Ringed ws m → (k : ℕ) → lo ≤ k → k < n → Starts ws m k → Dec (k < i) → Dec (i < k)
          → against ps l r k (next_at ws m k) ≡ false
      go ps p g k low high st (yes z) y = w.none ps p g k low z st
      go ps p g k low high st (no z) (yes y) =
          absurd (none_between ws m 0 g.ends g.kept g.rings i (omega arith) hi s k y (omega arith) st.kept)
      go ps p g k low high st (no z) (no y) =
          let z : i ≡ k = omega arith in
          subst (λ (k : ℕ). against ps l r k (next_at ws m k) ≡ false) z (against_as m us vs ws l r hl hr hi s e h ps p ∙ f)

-- ---- block after block

meets_not : (ps : List Point) (l r a b : ℕ) → meets (at ps a) (at ps b) (at ps l) (at ps r) ≡ false → against ps l r a b ≡ false
unfolding against
meets_not ps l r a b e =
    rw e (and-false (not (same (at ps a) (at ps l) || same (at ps a) (at ps r) || same (at ps b) (at ps l) || same (at ps b) (at ps r))))

-- where block k ends: the points past the last block are one without a box
pub record Ends (b : Blocks) (m : Layout) (k end : ℕ) : Type 0 where
  pub block : k < b.number → end ≡ min ((k + 1) * b.size) m.points
  pub rest : b.number ≤ k → end ≡ m.points

module _ (b : Blocks) (m : Layout) (us vs fs : List Float) (ws : List ℕ) (l r : ℕ) where
  -- the blocks before k and the points below `from` are passed
  pub record Tested (from k : ℕ) : Type 0 where
    pub near : k ≤ b.number → min (k * b.size) m.points ≤ from
    pub past : b.number < k → m.points ≤ from
    pub none : (ps : List Point) → PlacedIn us vs m ps → Boxed b m ps fs ws → Ringed ws m → NoneAgainst m ps ws 0 from l r

  module _ {from k end : ℕ} (t : Tested from k) (is : Ends b m k end) where
    -- block k is walked
    pub tested_walk : {j : ℕ} → Walks m us vs ws from end l r j → Tested j (k + 1)
    tested_walk {j} w = record {
      near = λ h. omega (arith, is.block (omega arith), w.far);
      past = λ h. omega (arith, is.rest (omega arith), w.far);
      none = λ ps p bx g i a z st. go ps p bx g i z st (dec_lt i from);
    }
      where
        go : (ps : List Point) → PlacedIn us vs m ps → Boxed b m ps fs ws → Ringed ws m → (i : ℕ) → i < j → Starts ws m i → Dec (i < from)
            → against ps l r i (next_at ws m i) ≡ false
        go ps p bx g i z st (yes q) = t.none ps p bx g i (omega arith) q st
        go ps p bx g i z st (no q) = w.none ps p g i (omega arith) z st

    -- it is left out, since its box is apart from that of the new segment
    module _ (low : k < b.number) (hl : l < m.points) (hr : r < m.points) (e : apart (box_at fs b k) (spanned m us vs of_none l r) ≡ true) where
      apart_block : (ps : List Point) → PlacedIn us vs m ps → Boxed b m ps fs ws → NoneAgainst m ps ws from end l r
      apart_block ps p bx i lo hi st =
          meets_not ps l r i (next_at ws m i)
          (apart_none (box_at fs b k) (spanned m us vs of_none l r) (bx.on k low) s.on held.first held.second s.new.first s.new.second e)
        where
          here : i / b.size ≡ k
          here = div-eq_of_lt-le b.size (omega (arith, t.near (omega arith))) (omega (arith, is.block low))

          held : Spans ps i (next_at ws m i) (box_at fs b k)
          held = subst (λ (x : ℕ). Spans ps i (next_at ws m i) (box_at fs b x)) here (bx.holds i (omega arith) (omega (arith, here)) st)

          s : Spanning ps of_none l r (spanned m us vs of_none l r)
          s = spanned_both m us vs ps of_none l r p hl hr none_on

      pub tested_apart : {n : ℕ} → n ≡ end → Tested n (k + 1)
      tested_apart {n} y = record {
        near = λ h. omega (arith, is.block low);
        past = λ h. absurd (omega arith);
        none = λ ps p bx g i a z st. go ps p bx g i z st (dec_lt i from);
      }
        where
          go : (ps : List Point) → PlacedIn us vs m ps → Boxed b m ps fs ws → Ringed ws m → (i : ℕ) → i < n → Starts ws m i → Dec (i < from)
              → against ps l r i (next_at ws m i) ≡ false
          go ps p bx g i z st (yes q) = t.none ps p bx g i (omega arith) q st
          go ps p bx g i z st (no q) = apart_block ps p bx i (omega arith) (omega arith) st

  -- all are passed
  pub tested_end : {from k : ℕ} → Tested from k → b.number < k → CrossesIs b m us vs fs ws l r false
  tested_end s h ps ends kss p bx rs = sym (rings_false ps l r ws m 0 ends kss rs (λ i low st. s.none ps p bx (record { ends = ends; kept = kss; rings = rs }) i (omega arith) (omega (arith, s.past h)) st))
