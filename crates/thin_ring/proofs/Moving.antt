-- One move of the preserving rule: what the calls say, put together. Assumes nothing.
use mathlib.Core.Path.{◌≡◌, refl, sym, ◌∙◌, subst}
use mathlib.Core.Bool.{Bool, true, false}
use mathlib.Core.List.{List, ◌∷◌, ◌++◌}
use mathlib.Core.Logic.{◌⊎◌, inl, inr}
use Prim.Native.Nat.{ℕ, ◌≤◌, ◌<◌}
use native.Mathlib.Omega.{arith}
use lib.ListN.{length}
use lib.Ieee.{Float}
use borrow.Author.Tests.{le-leb, lt-leb}
use Rattle.std.specs.Prelude.{Some, None}
use Rattle.std.specs.Bool.{then_some}
use Rattle.rule.specs.Plain.{Candidate}
use Rattle.rule.specs.Preserve.{Minima, score_of, crosses, stop, remove, unless_few, demoted}
use Rattle.layout.specs.declared.Layout.{Layout}
use Rattle.layout.specs.Layout.{Room}
use Rattle.vscore.specs.declared.VScore.{VScore}
use Rattle.vscore.proofs.Scales.{demotable_faithful}
use Rattle.links.specs.Words.{HasLinks, SameLinks}
use Rattle.links.specs.Ring.{Ring}
use Rattle.links.proofs.Ring.{ring_in}
use Rattle.links.proofs.Memory.{same_from, ring_same, unlinked_only}
use Rattle.links.proofs.Rings.{rings_same, rings_append}
use Rattle.scoring.specs.Plot.{Points}
use Rattle.thin.specs.Queue.{Pick, PickDone, candidate_of}
use Rattle.thin.specs.State.{Removed}
use Rattle.thin.proofs.Removing.{rep_floats}
use Rattle.blocks.specs.declared.Blocks.{Blocks}
use Rattle.blocks.specs.Boxes.{HasBoxes, Free, boxes_end, covered, Boxed}
use Rattle.blocks.proofs.Stored.{OnlyBoxes}
use Rattle.blocks.proofs.Made.{covered_only}
use Rattle.blocks.proofs.Kept.{boxed_same, boxed_removed}
use Rattle.crossing.specs.Crossing.{CrossesIs}
use Rattle.crossing.proofs.Crossing.{cross_order}
use Rattle.thin_ring.specs.State.{Setting, beside, move_in, view, Others, State, Given, Outside}
use Rattle.thin_ring.specs.Calls.{of_minima, Removal, Untouched, MoveDone}
use Rattle.thin_ring.specs.declared.Minima as declared
use Rattle.thin_ring.proofs.Demoting.{once_demoted, suits, unless, move_none, move_some}

-- ---- the minima

module _ (q : Minima) (n : ℕ) (c : Candidate) where
  few_first : (crossed : Bool) → n ≤ q.first → unless_few q n c crossed ≡ stop
  unfolding unless_few
  few_first crossed h = rw (le-leb n q.first h)

  few_second : q.first < n → n ≤ q.second → unless_few q n c true ≡ stop
  unfolding unless_few
  few_second h e = rw (lt-leb n q.first h, le-leb n q.second e)

  enough : (crossed : Bool) → q.first < n → ((crossed ≡ true) × (q.second < n)) ⊎ (crossed ≡ false) → unless_few q n c crossed ≡ remove c crossed
  unfolding unless_few
  enough crossed h (inl e) = rw (lt-leb n q.first h, e.0, lt-leb n q.second e.1)
  enough crossed h (inr e) = rw (lt-leb n q.first h, e)

-- ---- the other rings

same_then : {ws ws' ws'' : List ℕ} {m : Layout} {i : ℕ} → SameLinks ws m ws' i → SameLinks ws' m ws'' i → SameLinks ws m ws'' i
same_then a b = record { previous = b.previous ∙ a.previous; next = b.next ∙ a.next; mark = b.mark ∙ a.mark }

-- their links are those of other points
pub others_same : {g : Setting} {ws ws' : List ℕ} {m : Layout} → ((i : ℕ) → (i < g.lo) ⊎ (g.hi ≤ i) → i < m.points → SameLinks ws m ws' i) → g.lo ≤ m.points
    → Others g ws m → Others g ws' m
others_same {g} {ws} {ws'} {m} e l o = record {
  before = rings_same ws ws' m 0 g.lo g.ends_before g.before (λ i p h. e i (inl h) (omega arith)) o.before;
  after = rings_same ws ws' m g.hi m.points g.ends_after g.after (λ i p h. e i (inr p) h) o.after;
}

-- ---- the move

module _ (bl : Blocks) (us vs fs : List Float) (ws : List ℕ) (m : Layout) (len count : ℕ) (minima : declared.Minima) (t : Float) (room : Room m fs ws)
    (few : len ≤ m.capacity) (free : Free bl m fs) where
  abbrev q : Minima
  q = of_minima minima

  module _ {fs₁ : List Float} {ws₁ : List ℕ} where
    module _ {k : ℕ} (p : PickDone fs ws m len t fs₁ ws₁ k None) where
      pub stop_nothing : MoveDone bl us vs fs ws m len count q t fs₁ ws₁ k false
      stop_nothing = record {
        frame = record {
          floats = λ i h. p.framed.floats i (omega (arith, free.past));
          before = p.framed.before;
          after = λ i h. p.framed.after i (omega (arith, room.scores));
        };
        moved = (
          record { boxes = λ i h. p.framed.floats i (omega (arith, free.past)); links = λ i h. p.framed.after i (omega (arith, room.scores)) },
          λ g dem ks a e st.
              move_none g t dem ks q a.finite a.above (p.picked.1 (view g t dem ks) (demotable_faithful t a.above) st.rep.ring st.rep.queue).0,
        );
      }

    module _ {s : VScore} {k : ℕ} (p : PickDone fs ws m len t fs₁ ws₁ k (Some s)) where
      untouched : Untouched bl fs ws m fs₁ ws₁
      untouched = record { boxes = λ i h. p.framed.floats i (omega (arith, free.past)); links = λ i h. p.framed.after i (omega (arith, room.scores)) }

      same_at : (i : ℕ) → SameLinks ws m ws₁ i
      same_at = same_from untouched.links

      picked_frame : Outside (boxes_end bl) fs ws m fs₁ ws₁
      picked_frame = record {
        floats = λ i h. untouched.boxes i (omega arith);
        before = p.framed.before;
        after = λ i h. untouched.links i (omega arith);
      }

      -- in a state: the choice, and the crossing
      module _ (g : Setting) (dem ks : List ℕ) (a : Given us vs m t g) (st : State bl g t dem ks fs ws m len) where
        pick : Pick (view g t dem ks) fs₁ ws₁ m k t s
        pick = p.picked.2 (view g t dem ks) (demotable_faithful t a.above) st.rep.ring st.rep.queue

        abbrev c : Candidate
        c = candidate_of (view g t dem ks) s

        moves : move_in g t q dem ks ≡ unless g t dem ks q a.finite a.above c
        moves = move_some g t dem ks q a.finite a.above c pick.chose

        here : Ring ws₁ m g.lo g.hi ks
        here = ring_same {ws = ws} {m = m} {ws' = ws₁} (λ i l h. same_at i) st.rep.ring

        to : g.lo ≤ m.points
        to = omega (arith, st.rep.ring.from, st.rep.ring.to)

        others₁ : Others g ws₁ m
        others₁ = others_same (λ i w h. same_at i) to st.others

        boxed₁ : Boxed bl m g.points fs₁ ws₁
        boxed₁ = boxed_same untouched.boxes untouched.links st.boxed

        crossing : {b : Bool} → CrossesIs bl m us vs fs₁ ws₁ s.left s.right b → crosses g.points s.left s.right (ks ∷ beside g) ≡ b
        crossing d =
            sym (d g.points (g.ends_before ++ (g.hi ∷ g.ends_after)) (g.before ++ (ks ∷ g.after)) a.placed boxed₁
            (rings_append ws₁ m 0 g.lo m.points g.ends_before g.before (g.hi ∷ g.ends_after) (ks ∷ g.after) others₁.before (here, others₁.after))
            ∙ cross_order g.points s.left s.right g.before ks g.after)

        -- steps 2 to 4, with the count and the crossing as the code has them
        by_count : {b : Bool} → count ≡ length ks → CrossesIs bl m us vs fs₁ ws₁ s.left s.right b → move_in g t q dem ks ≡ unless_few q count c b
        by_count e d = moves ∙ rw (crossing d, e)

      pub stop_first : count ≤ q.first → MoveDone bl us vs fs ws m len count q t fs₁ ws₁ k false
      stop_first h = record {
        frame = picked_frame;
        moved = (untouched, λ g dem ks a e st. moves g dem ks a st ∙ few_first q (length ks) _ _ (omega arith));
      }

      pub stop_second : q.first < count → CrossesIs bl m us vs fs₁ ws₁ s.left s.right true → count ≤ q.second
          → MoveDone bl us vs fs ws m len count q t fs₁ ws₁ k false
      stop_second over d h = record {
        frame = picked_frame;
        moved = (untouched, λ g dem ks a e st. by_count g dem ks a st e d ∙ few_second q count (c g dem ks a st) over h);
      }

      module _ {b : Bool} (over : q.first < count) (d : CrossesIs bl m us vs fs₁ ws₁ s.left s.right b) where
        -- the point goes, and the new segment's block is widened by it
        module _ (z : ((b ≡ true) × (q.second < count)) ⊎ (b ≡ false)) (ps : Points m.points s.left s.current s.right) (links₁ : HasLinks m ws₁)
            {fs₂ : List Float} {ws₂ : List ℕ} {n : ℕ} (rm : Removed us vs fs₁ ws₁ m k s (then_some b t) fs₂ ws₂ n) (has₂ : HasBoxes bl fs₂) where
          abbrev fs₃ : List Float
          fs₃ = covered bl m us vs s.left s.right fs₂

          only : OnlyBoxes bl fs₂ fs₃
          only = covered_only bl m us vs s.left s.right fs₂

          -- only the links of its own ring
          outside : (lo hi : ℕ) → hi ≤ m.points → (lo ≤ s.left) × (s.left < hi) → (lo ≤ s.current) × (s.current < hi) → (lo ≤ s.right) × (s.right < hi)
              → (i : ℕ) → (i < lo) ⊎ (hi ≤ i) → i < m.points → SameLinks ws m ws₂ i
          outside lo hi to l c r i w h =
              same_then (same_at i) (same_then ((unlinked_only ws₁ m s lo hi to l c r).others i h w) (same_from rm.links i))

          removes : (g : Setting) (dem ks : List ℕ) → Given us vs m t g → count ≡ length ks → State bl g t dem ks fs ws m len → Removal bl g t q dem ks fs₃ ws₂ m n
          removes g dem ks a e st =
              let v = view g t dem ks in
              let x = candidate_of v s in
              let k₁ = pick g dem ks a st in
              let tr = k₁.stands in
              let l = ring_in st.rep.ring s.left tr.low.from in
              let o = ring_in st.rep.ring s.current tr.low.to in
              let r = ring_in st.rep.ring s.right tr.high.to in
              record {
                candidate = x;
                crossed = b;
                moves = by_count g dem ks a st e d ∙ enough q count x b over z;
                state = record {
                  rep = rep_floats (λ i h. only.before i (omega (arith, free.past)))
                      (rm.rep v g.points (score_of g.points (demoted x b dem)) t (demotable_faithful t a.above) a.placed (here g dem ks a st) k₁
                      (omega (arith, st.rep.room, p.picked.0)) st.rep.fits (suits g t dem ks s b st.once (omega (arith, tr.low.up, tr.high.up))));
                  once = once_demoted x b dem st.once;
                  others = others_same (outside g.lo g.hi st.rep.ring.to (l.low, l.high) (o.low, o.high) (r.low, r.high)) (to g dem ks a st) st.others;
                  boxed = boxed_same (λ i h. refl) rm.links
                      (boxed_removed bl m us vs g.points fs₂ ws₁ s a.placed links₁ has₂ ps.left ps.current ps.right
                      (boxed_same (λ i h. rm.floats i (omega (arith, free.past))) (λ i h. refl) (boxed₁ g dem ks a st)));
                };
              }

          pub goes : {fs' : List Float} → fs' ≡ fs₃ → MoveDone bl us vs fs ws m len count q t fs' ws₂ n true
          goes e = subst (λ (f : List Float). MoveDone bl us vs fs ws m len count q t f ws₂ n true) (sym e) (record {
            frame = record {
              floats = λ i h. only.after i h ∙ rm.floats i (omega (arith, free.past)) ∙ picked_frame.floats i h;
              before = λ i h. rm.before i h ∙ picked_frame.before i h;
              after = λ i h.
                  rm.links i (omega arith)
                  ∙ (unlinked_only ws₁ m s 0 m.points (omega arith) (omega arith, ps.left) (omega arith, ps.current) (omega arith, ps.right)).after i h
                  ∙ picked_frame.after i h;
            };
            moved = (rm.few, removes);
          })
