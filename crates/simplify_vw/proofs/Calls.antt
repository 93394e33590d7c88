-- A whole call lists what its rule keeps. Assumes nothing.
use mathlib.Core.Path.{◌≡◌, refl, sym, subst}
use mathlib.Core.List.{List}
use Prim.Native.Nat.{ℕ}
use native.Mathlib.Nat.{sub-zero}
use native.Mathlib.Omega.{arith}
use lib.ListN.{length}
use lib.Ieee.{Float}
use Rattle.rule.specs.Grid.{Point, points}
use Rattle.rule.specs.Plain.{indices}
use Rattle.rule.specs.Whole.{Lent, lent}
use Rattle.layout.specs.declared.Layout.{Layout}
use Rattle.layout.specs.Layout.{scratch_of}
use Rattle.lent.specs.Fine.{Ready}
use Rattle.ending.specs.Keeps.{Keeps}
use Rattle.lent.proofs.Points.{length_points, placed_points}
use Rattle.ending.proofs.Whole.{keeps_from}
use Rattle.links.specs.Calls.{Joined}
use Rattle.links.specs.Ring.{all_unmarked}
use Rattle.links.proofs.Rings.{line_all}
use Rattle.simplify_vw.specs.Calls.{Given, Ran}

-- the removals were made in the layout of the scratch, and what has no mark was listed
pub keeps_rule : {rule : List Point → Float → List ℕ} {us vs : List Float} {t : Float} {out : List ℕ} {fs fs₁ : List Float} {ws ws₁ : List ℕ} {m : Layout} {r : ℕ} {m' : Lent}
    → Ready us vs t (lent out fs ws) → m ≡ scratch_of (length us) → Ran rule us vs fs ws m t fs₁ ws₁ → length fs₁ ≡ length fs → length ws₁ ≡ length ws
    → Keeps (length us) (all_unmarked ws₁ (scratch_of (length us))) (lent out fs₁ ws₁) r m' → Keeps (length us) (rule (points us vs) t) (lent out fs ws) r m'
keeps_rule {rule} {us} {vs} {t} {out} {fs} {fs₁} {ws} {ws₁} {r = r} {m' = m'} ready e ran lf lw k =
    keeps_from lf lw (λ i h. run.floats i (omega arith)) (λ i h. run.words i (omega arith))
    (subst (λ (ks : List ℕ). Keeps (length us) ks (lent out fs₁ ws₁) r m') (sym (line_all ws₁ (scratch_of (length us)) (run.kept (points us vs) given))) k)
  where
    run : Ran rule us vs fs ws (scratch_of (length us)) t fs₁ ws₁
    run = rw e at ran

    given : Given us vs (scratch_of (length us)) t (points us vs)
    given = record { size = length_points ready.fine; placed = placed_points ready.fine; finite = ready.finite; fits = omega arith }

-- all points were linked in the layout of the scratch, and what has no mark was listed
pub keeps_all : {n : ℕ} {out : List ℕ} {fs : List Float} {ws ws₁ : List ℕ} {m : Layout} {r : ℕ} {m' : Lent} → m ≡ scratch_of n → Joined ws m 0 n ws₁
    → length ws₁ ≡ length ws → Keeps n (all_unmarked ws₁ (scratch_of n)) (lent out fs ws₁) r m' → Keeps n (indices 0 n) (lent out fs ws) r m'
keeps_all {n} {out} {fs} {ws} {ws₁} {r = r} {m' = m'} e joined lw k =
    keeps_from refl lw (λ i h. refl) (λ i h. linked.only.after i (omega arith))
    (subst (λ (ks : List ℕ). Keeps n ks (lent out fs ws₁) r m') (sym (line_all ws₁ (scratch_of n) (rw sub-zero at linked.ring))) k)
  where
    linked : Joined ws (scratch_of n) 0 n ws₁
    linked = rw e at joined
