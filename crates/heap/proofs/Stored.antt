-- A score stored at a place, as a function of the place. Assumes nothing.
use mathlib.Core.Path.{◌≡◌, ap, ◌∙◌}
use mathlib.Core.List.{List}
use Prim.Native.Nat.{ℕ, ◌+◌, ◌*◌, ◌<◌}
use native.Mathlib.Omega.{arith}
use lib.ListN.{length, get_or, length-set}
use lib.Seq.{get_or-set_same, get_or-set_other}
use lib.Ieee.{Float, nan}
use Rattle.layout.specs.declared.Layout.{Layout}
use Rattle.layout.proofs.Words.{three_other, three_first, three_second, three_third}
use Rattle.vscore.specs.declared.VScore.{VScore}
use Rattle.scores.specs.Memory.{Holds, score_at, put_floats, put_words, Framed}
use Rattle.heap.specs.Order.{upd}
use Rattle.heap.proofs.Places.{upd_by}

abbrev pub Stored : List Float → List ℕ → Layout → ℕ → VScore → List Float → List ℕ → Type 0
Stored fs ws m j s fs' ws' = (fs' ≡ put_floats fs j s) × (ws' ≡ put_words ws m j s)

module _ (fs : List Float) (ws : List ℕ) (m : Layout) (j : ℕ) (s : VScore) where
  -- the place's first word
  abbrev a : ℕ
  a = m.heap + 3 * j

  put_other : (i : ℕ) → (i ≡ a → ⊥) → (i ≡ a + 1 → ⊥) → (i ≡ a + 2 → ⊥) → get_or (put_words ws m j s) i 0 ≡ get_or ws i 0
  put_other = three_other ws a (a + 1) (a + 2) s.left s.current s.right

  put_at : Holds m j fs ws → (k : ℕ) → score_at (put_floats fs j s) (put_words ws m j s) m k ≡ upd (score_at fs ws m) j s k
  put_at h k =
      upd_by (λ (x : VScore). score_at (put_floats fs j s) (put_words ws m j s) m k ≡ x) (score_at fs ws m) j s k
      (λ e. ap (score_at (put_floats fs j s) (put_words ws m j s) m) e ∙ (λ i. record {
        left = three_first ws a (a + 1) (a + 2) s.left s.current s.right (omega (arith, h.words)) (λ z. omega arith) (λ z. omega arith) i;
        current = three_second ws a (a + 1) (a + 2) s.left s.current s.right (omega (arith, h.words)) (λ z. omega arith) i;
        right = three_third ws a (a + 1) (a + 2) s.left s.current s.right h.words i;
        area = get_or-set_same fs j s.area nan h.area i;
      }))
      (λ ne i. record {
        left = put_other (m.heap + 3 * k) (λ z. ne (omega arith)) (λ z. omega arith) (λ z. omega arith) i;
        current = put_other (m.heap + 3 * k + 1) (λ z. omega arith) (λ z. ne (omega arith)) (λ z. omega arith) i;
        right = put_other (m.heap + 3 * k + 2) (λ z. omega arith) (λ z. omega arith) (λ z. ne (omega arith)) i;
        area = get_or-set_other fs j k s.area nan ne i;
      })

  module _ {fs' : List Float} {ws' : List ℕ} (e : Stored fs ws m j s fs' ws') where
    pub stored_floats : length fs' ≡ length fs
    stored_floats = ap length e.0 ∙ simp length-set

    pub stored_words : length ws' ≡ length ws
    stored_words = ap length e.1 ∙ simp length-set

    -- the memory afterwards, as a function of the place
    pub stored_at : Holds m j fs ws → score_at fs' ws' m ≡ upd (score_at fs ws m) j s
    stored_at h =
        ap (λ (x : List Float). score_at x ws' m) e.0 ∙ ap (λ (x : List ℕ). score_at (put_floats fs j s) x m) e.1 ∙ (λ i k. put_at h k i)

    pub stored_framed : (n : ℕ) → j < n → Framed fs ws m n fs' ws'
    stored_framed n l = record {
      floats = λ i h. ap (λ (x : List Float). get_or x i nan) e.0 ∙ get_or-set_other fs j i s.area nan (λ z. omega arith);
      before = λ i h. ap (λ (x : List ℕ). get_or x i 0) e.1 ∙ put_other i (λ z. omega arith) (λ z. omega arith) (λ z. omega arith);
      after = λ i h. ap (λ (x : List ℕ). get_or x i 0) e.1 ∙ put_other i (λ z. omega arith) (λ z. omega arith) (λ z. omega arith);
    }
