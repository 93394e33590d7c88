-- What a part holds while its header and its state change. Assumes nothing.
use mathlib.Core.Path.{◌≡◌, sym, ap, ◌∙◌, subst}
use mathlib.Core.Bool.{not}
use mathlib.Core.List.{List}
use Prim.Native.Nat.{ℕ, ◌≤◌, ◌<◌}
use native.Mathlib.Omega.{arith}
use lib.Dec.{eqb}
use lib.ListN.{length, get_or, set, length-set}
use lib.Seq.{get_or-set_same, get_or-set_other}
use lib.Ieee.{Float, nan}
use Rattle.rule.specs.Grid.{Point}
use Rattle.rule.specs.Area.{area, is_open}
use Rattle.layout.specs.declared.Layout.{Layout}
use Rattle.layout.specs.Layout.{header, slot_of}
use Rattle.links.specs.Words.{SameLinks}
use Rattle.links.proofs.Memory.{same_from, ring_same}
use Rattle.thin.specs.Queue.{View}
use Rattle.thin.specs.State.{Rep as State}
use Rattle.thin.specs.Plain.{LineRep}
use Rattle.scoring.proofs.Scoring.{placed_same}
use Rattle.thin.proofs.Queue.{queue_same}
use Rattle.part.specs.Rep.{tolerance_at, Rep}

-- the words from the heap on are the same
pub state_same : {v : View} {fs : List Float} {ws : List ℕ} {m : Layout} {len : ℕ} (ws' : List ℕ) → m.heap ≤ m.links
    → ((i : ℕ) → m.heap ≤ i → get_or ws' i 0 ≡ get_or ws i 0) → State v fs ws m len → State v fs ws' m len
state_same {ws = ws} {m = m} ws' l e r = record {
  ring = ring_same (λ i a b. same i) r.ring;
  queue = queue_same ws' (λ i h g. e i h) r.queue;
  room = r.room;
  fits = r.fits;
}
  where
    same : (i : ℕ) → SameLinks ws m ws' i
    same = same_from (λ j h. e j (omega arith))

-- ---- where the coordinates stand

abbrev pub moved : ℕ → ℕ → Layout → Layout
moved x y m = record { heap = m.heap; capacity = m.capacity; links = m.links; points = m.points; x = x; y = y }

-- the coordinates at the start of slices of their own
abbrev pub own_points : Layout → Layout
own_points m = moved 0 0 m

-- the state does not see where they stand
pub state_moved : {v : View} {fs : List Float} {ws : List ℕ} {m : Layout} {len : ℕ} (x y : ℕ) → State v fs ws m len → State v fs ws (moved x y m) len
state_moved x y r = record {
  ring = r.ring;
  queue = record { each = r.queue.each; order = r.queue.order; all = r.queue.all };
  room = r.room;
  fits = r.fits;
}

-- ---- the part after a change of its state, of the length k

module _ {fs : List Float} {ws : List ℕ} {ps : List Point} {t : Float} {ks : List ℕ} (h : Rep (area fs ws) ps t ks) (fs₁ : List Float) (ws₁ : List ℕ) (k : ℕ)
    (lf : length fs₁ ≡ length fs) (lw : length ws₁ ≡ length ws) (floats : (i : ℕ) → (slot_of (length ps)).capacity ≤ i → get_or fs₁ i nan ≡ get_or fs i nan)
    (words : (i : ℕ) → i < header → get_or ws₁ i 0 ≡ get_or ws i 0) where
  abbrev ws₂ : List ℕ
  ws₂ = set ws₁ 2 k

  there : get_or ws₂ 2 0 ≡ k
  there = get_or-set_same ws₁ 2 k 0 (omega (arith, lw, h.words))

  others : (i : ℕ) → (i ≡ 2 → ⊥) → get_or ws₂ i 0 ≡ get_or ws₁ i 0
  others i n = get_or-set_other ws₁ 2 i k 0 n

  still_open : is_open (area fs₁ ws₂) ≡ is_open (area fs ws)
  unfolding is_open
  still_open = ap (λ (w : ℕ). not (eqb w 0)) (others 0 (λ e. omega arith) ∙ words 0 (omega arith))

  pub rep_after : (ks' : List ℕ) → LineRep ps ks' fs₁ ws₁ (slot_of (length ps)) k → Rep (area fs₁ ws₂) ps t ks'
  rep_after ks' r = record {
    floats = lf ∙ h.floats;
    words = length-set ws₁ 2 k ∙ lw ∙ h.words;
    opened = still_open ∙ h.opened;
    number = others 1 (λ e. omega arith) ∙ words 1 (omega arith) ∙ h.number;
    few = h.few;
    tolerance = floats tolerance_at (omega arith) ∙ h.tolerance;
    finite = h.finite;
    placed = placed_same (slot_of (length ps)) fs fs₁ (omega arith) (omega arith) floats h.placed;
    state = subst (LineRep ps ks' fs₁ ws₂ (slot_of (length ps))) (sym there) (state_same ws₂ (omega arith) (λ i g. others i (λ e. omega arith)) r);
  }
