-- The first score of a heap, and what holds of every score after a push or a pop. Assumes nothing.
use mathlib.Core.Path.{sym, subst}
use mathlib.Core.List.{List}
use mathlib.Core.Logic.{⊎_elim}
use Prim.Native.Nat.{ℕ, suc, ◌<◌}
use lib.Ieee.{Float}
use Rattle.layout.specs.declared.Layout.{Layout}
use Rattle.vscore.specs.declared.VScore.{VScore}
use Rattle.vscore.specs.Scale.{Scale}
use Rattle.scores.specs.Memory.{score_at}
use Rattle.scores.specs.Scores.{Le}
use Rattle.scores.proofs.Scores.{le_self, le_trans}
use Rattle.heap.specs.Heap.{Heap, Among, Pushed, Popped}
use Rattle.heap.proofs.Order.{root}

pub first : (σ : Scale) (n : ℕ) (h : ℕ → VScore) → Heap σ n h → (k : ℕ) → k < n → Le σ (h 0) (h k)
first σ = root (Le σ) (le_self σ) (le_trans σ)

-- ---- what holds of every score
module _ (P : VScore → Type 0) where
  pub among_all : {n : ℕ} {h : ℕ → VScore} {x : VScore} → ((k : ℕ) → k < n → P (h k)) → Among n h x → P x
  among_all f a = subst P (sym a.same) (f a.place a.below)

  module _ {fs : List Float} {ws : List ℕ} {m : Layout} {n : ℕ} {s : VScore} {fs' : List Float} {ws' : List ℕ} where
    pub pushed_all : Pushed fs ws m n s fs' ws' → P s → ((k : ℕ) → k < n → P (score_at fs ws m k)) → (k : ℕ) → k < suc n → P (score_at fs' ws' m k)
    pushed_all u p f k l = ⊎_elim (λ e. subst P (sym e) p) (among_all f) (u.from k l)

    pub popped_all : Popped fs ws m n s fs' ws' → ((k : ℕ) → k < suc n → P (score_at fs ws m k)) → (k : ℕ) → k < n → P (score_at fs' ws' m k)
    popped_all u f k l = among_all f (u.from k l)
