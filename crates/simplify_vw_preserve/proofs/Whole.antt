-- The whole calls meet their statements. Assumes nothing.
use mathlib.Core.Path.{◌≡◌, refl, sym, ap, ◌∙◌, subst}
use mathlib.Core.List.{List, [], ◌∷◌, map}
use Prim.Native.Nat.{ℕ, ◌≤◌}
use native.Mathlib.Nat.{sub-zero}
use native.Mathlib.Omega.{arith}
use lib.Dec.{leb-zero}
use lib.ListN.{length}
use lib.Ieee.{Float}
use Rattle.rule.specs.Grid.{Point, points}
use Rattle.rule.specs.Plain.{all}
use Rattle.rule.specs.Preserve.{Minima, of_line, of_ring, preserve}
use Rattle.rule.specs.Rings.{rises, rings_from, joined, line_rule, polygon_rule}
use Rattle.rule.specs.Whole.{over, Lent, lent, lent_rings}
use Rattle.layout.specs.declared.Layout.{Layout}
use Rattle.layout.specs.Layout.{scratch_of}
use Rattle.lent.specs.Fine.{Ready}
use Rattle.ending.specs.Keeps.{Keeps}
use Rattle.lent.proofs.Points.{length_points, placed_points}
use Rattle.ending.proofs.Whole.{keeps_from}
use Rattle.links.specs.Ring.{all_unmarked, Rings}
use Rattle.links.proofs.Rings.{rings_all}
use Rattle.blocks.specs.Boxes.{behind_end}
use Rattle.ring_reasons.specs.Table.{Cuts}
use Rattle.simplify_vw_preserve.specs.Calls.{Wrapped, count_below}
use Rattle.simplify_vw_preserve.specs.Whole.{KeepsRings}
use Rattle.simplify_vw_preserve.proofs.Ending.{ends_kept}

-- a line is one ring
pub one_ring : (n : ℕ) → Cuts n (n ∷ [])
unfolding rises
one_ring n = record { rise = rw (leb-zero n); last = refl }

line_is : (ps : List Point) (t : Float) (n : ℕ) → length ps ≡ n → joined (preserve ps t of_line (rings_from 0 (n ∷ []))) ≡ line_rule ps t
unfolding line_rule rings_from all
line_is ps t n e = rw (sub-zero n, ← e)

-- there is room behind the heap of a scratch
pub behind_fits : {us vs : List Float} {t : Float} {out : List ℕ} {fs : List Float} {ws : List ℕ} {m : Layout}
    → Ready us vs t (lent out fs ws) → m ≡ scratch_of (length us) → behind_end m ≤ length fs
behind_fits ready e = rw e (omega (arith, ready.floats))

-- the rings were thinned in the layout of the scratch, and what has no mark was listed
module _ {us vs : List Float} {t : Float} {out : List ℕ} {fs fs₁ : List Float} {ws ws₁ : List ℕ} {m : Layout} {ends : List ℕ} {q : Minima}
    (ready : Ready us vs t (lent out fs ws)) (e : m ≡ scratch_of (length us)) (w : Wrapped us vs fs ws m ends q t fs₁ ws₁) where
  abbrev kss : List (List ℕ)
  kss = preserve (points us vs) t q (rings_from 0 ends)

  wrapped : Wrapped us vs fs ws (scratch_of (length us)) ends q t fs₁ ws₁
  wrapped = rw e at w

  rings : Rings ws₁ (scratch_of (length us)) 0 (length us) ends kss
  rings = wrapped.rings (points us vs) (placed_points ready.fine) ready.finite (omega arith)

  keeps_joined : {r : ℕ} {m' : Lent} → length fs₁ ≡ length fs → length ws₁ ≡ length ws
      → Keeps (length us) (all_unmarked ws₁ (scratch_of (length us))) (lent out fs₁ ws₁) r m' → Keeps (length us) (joined kss) (lent out fs ws) r m'
  keeps_joined {r} {m'} lf lw k =
      keeps_from lf lw (λ i h. wrapped.frame.floats i (omega arith)) (λ i h. wrapped.frame.after i (omega arith))
      (subst (λ (ks : List ℕ). Keeps (length us) ks (lent out fs₁ ws₁) r m') (sym (rings_all ws₁ (scratch_of (length us)) ends kss rings)) k)

pub keeps_line : {us vs : List Float} {t : Float} {out : List ℕ} {fs fs₁ : List Float} {ws ws₁ : List ℕ} {m : Layout} {r : ℕ} {m' : Lent}
    → Ready us vs t (lent out fs ws) → m ≡ scratch_of (length us) → Wrapped us vs fs ws m (length us ∷ []) of_line t fs₁ ws₁
    → length fs₁ ≡ length fs → length ws₁ ≡ length ws → Keeps (length us) (all_unmarked ws₁ (scratch_of (length us))) (lent out fs₁ ws₁) r m'
    → Keeps (length us) (line_rule (points us vs) t) (lent out fs ws) r m'
keeps_line {us} {vs} {t} {out} {fs} {ws = ws} {r = r} {m' = m'} ready e w lf lw k =
    subst (λ (ks : List ℕ). Keeps (length us) ks (lent out fs ws) r m') (line_is (points us vs) t (length us) (length_points ready.fine))
    (keeps_joined ready e w lf lw k)

pub keeps_rings : {us vs : List Float} {t : Float} {out : List ℕ} {fs fs₁ fs₂ : List Float} {ws ws₁ ws₂ : List ℕ} {m : Layout} {ends out' ring_out ringOut' : List ℕ} {r : ℕ}
    → Ready us vs t (lent out fs ws) → m ≡ scratch_of (length us) → Wrapped us vs fs ws m ends of_ring t fs₁ ws₁ → length fs₁ ≡ length fs → length ws₁ ≡ length ws
    → ringOut' ≡ over (map (count_below ws₁ m) ends) ring_out → Keeps (length us) (all_unmarked ws₁ (scratch_of (length us))) (lent out fs₁ ws₁) r (lent out' fs₂ ws₂)
    → KeepsRings us vs t ends (lent_rings out ring_out fs ws) r (lent_rings out' ringOut' fs₂ ws₂)
unfolding polygon_rule
keeps_rings {us} {ws₁ = ws₁} {ends = ends} {ring_out = ring_out} ready e w lf lw o k = record {
  line = keeps_joined ready e w lf lw k;
  ends = (rw e at o) ∙ ap (λ (l : List ℕ). over l ring_out) (sym (ends_kept ws₁ (scratch_of (length us)) ends (kss ready e w) (rings ready e w)));
}
