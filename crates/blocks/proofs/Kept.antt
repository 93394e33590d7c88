-- The boxes hold the present segments still: where nothing changed that counts, and over a removal. Assumes nothing.
use mathlib.Core.Path.{◌≡◌, sym, subst}
use mathlib.Core.List.{List}
use mathlib.Core.Logic.{◌⊎◌, inl, inr}
use Prim.Native.Nat.{ℕ, ◌+◌, ◌*◌, ◌/◌, ◌≤◌, ◌<◌}
use native.Mathlib.Omega.{arith}
use lib.ListN.{get_or}
use lib.Ieee.{Float, nan}
use Rattle.rule.specs.Grid.{Point}
use Rattle.layout.specs.declared.Layout.{Layout}
use Rattle.layout.specs.Points.{PlacedIn}
use Rattle.vscore.specs.declared.VScore.{VScore}
use Rattle.links.specs.Words.{HasLinks, next_at, Starts, unlinked, SameLinks}
use Rattle.links.proofs.Memory.{same_from, starts_same, unlinked_starts}
use Rattle.bounds.specs.Bounds.{SidesOn}
use Rattle.blocks.specs.declared.Blocks.{Blocks}
use Rattle.blocks.specs.Boxes.{box_floats, box_at, HasBoxes, covered, Spans, Boxed}
use Rattle.blocks.proofs.Stored.{same_box}
use Rattle.blocks.proofs.Made.{Grown, spans_grown, covered_grown}

-- the floats from the boxes on and the links are the same
pub boxed_same : {b : Blocks} {m : Layout} {ps : List Point} {fs fs' : List Float} {ws ws' : List ℕ}
    → ((i : ℕ) → b.at ≤ i → get_or fs' i nan ≡ get_or fs i nan) → ((i : ℕ) → m.links ≤ i → get_or ws' i 0 ≡ get_or ws i 0)
    → Boxed b m ps fs ws → Boxed b m ps fs' ws'
boxed_same {b} {m} {ps} {fs} {fs'} {ws} {ws'} f w x = record {
  on = λ k l. subst SidesOn (sym (box k)) (x.on k l);
  holds = λ i h l s.
      subst (λ (j : ℕ). Spans ps i j (box_at fs' b (i / b.size))) (sym (same i).next)
      (subst (Spans ps i (next_at ws m i)) (sym (box (i / b.size))) (x.holds i h l (starts_same (same i) s)));
}
  where
    same : (i : ℕ) → SameLinks ws m ws' i
    same = same_from w

    box : (k : ℕ) → box_at fs' b k ≡ box_at fs b k
    box k = same_box fs fs' (b.at + box_floats * k) (λ j p q. f j (omega arith))

-- s's point is taken out, and the box of its left neighbour's block is widened by the new segment
module _ (b : Blocks) (m : Layout) (us vs : List Float) (ps : List Point) (fs : List Float) (ws : List ℕ) (s : VScore) (placed : PlacedIn us vs m ps)
    (links : HasLinks m ws) (has : HasBoxes b fs) (hl : s.left < m.points) (hc : s.current < m.points) (hr : s.right < m.points) where
  abbrev ws' : List ℕ
  ws' = unlinked ws m s

  abbrev fs' : List Float
  fs' = covered b m us vs s.left s.right fs

  pub boxed_removed : Boxed b m ps fs ws → Boxed b m ps fs' ws'
  boxed_removed x = record { on = g.on; holds = λ i h l st. go i l (unlinked_starts ws m s links hl hc hr i h st) h }
    where
      g : Grown b ps s.left s.right fs fs'
      g = covered_grown b m us vs s.left s.right fs has placed hl hr x.on

      go : (i : ℕ) → i / b.size < b.number → ((i ≡ s.left) × (next_at ws' m i ≡ s.right)) ⊎ (Starts ws m i × (next_at ws' m i ≡ next_at ws m i))
          → i < m.points → Spans ps i (next_at ws' m i) (box_at fs' b (i / b.size))
      go i l (inl e) h =
          subst (λ (j : ℕ). Spans ps i j (box_at fs' b (i / b.size))) (sym e.1)
          (subst (λ (x : ℕ). x / b.size < b.number → Spans ps x s.right (box_at fs' b (x / b.size))) (sym e.0) g.new l)
      go i l (inr e) h =
          subst (λ (j : ℕ). Spans ps i j (box_at fs' b (i / b.size))) (sym e.1) (spans_grown (g.old (i / b.size) l) (x.holds i h l e.0))
