-- Opening: a part into which a line was copied, linked and scored holds it with every point left. Assumes nothing.
use Rattle.std.proofs.Common.{◌≡◌, sym, ap, ◌∙◌, subst, true, not, List, ℕ, ◌+◌, ◌-◌, ◌≤◌, ◌<◌, eqb, length, get_or, set, length-set, zero-add, arith, rules}
use Rattle.std.specs.Prelude.{Float}
use Rattle.std.specs.Float.{nan}
use Rattle.std.proofs.lemmas.List.{places, get_or-set_same}
use Rattle.rule.specs.Sizes.{slot_floats, slot_words}
use Rattle.rule.specs.Grid.{Point, points, is_finite}
use Rattle.rule.specs.Plain.{all}
use Rattle.rule.specs.Area.{area, is_open}
use Rattle.lent.specs.Fine.{Fine}
use Rattle.lent.proofs.Points.{length_points, at_points}
use Rattle.layout.specs.declared.Layout.{Layout}
use Rattle.layout.specs.Layout.{slot_of}
use Rattle.layout.specs.Points.{Placed, PlacedIn}
use Rattle.links.specs.Calls.{Joined}
use Rattle.scoring.proofs.Scoring.{placed_along}
use Rattle.thin.specs.State.{Seeded}
use Rattle.thin.specs.Plain.{LineRep}
use Rattle.thin.proofs.Stepping.{line_begins}
use Rattle.part.specs.Rep.{tolerance_at, Rep}
use Rattle.part.proofs.Copying.{Copied}
use Rattle.part.proofs.Holding.{own_points, state_moved, state_same}

-- what was done, in the layout m
pub record Filling (us vs : List Float) (t : Float) (fs : List Float) (ws : List ℕ) (fs₁ fs₂ : List Float) (ws₁ : List ℕ) (fs₃ : List Float)
    (ws₂ : List ℕ) (r : ℕ) (m : Layout) : Type 0 where
  pub copied_x : Copied (set fs (m.x - 1) t) m.x us fs₁
  pub copied_y : Copied fs₁ m.y vs fs₂
  pub linked : Joined ws (own_points m) 0 (length us) ws₁
  pub seeded : Seeded us vs fs₂ ws₁ (own_points m) 0 (length us) fs₃ ws₂ r

module _ {us vs : List Float} {t : Float} {fs : List Float} {ws : List ℕ} {fs₁ fs₂ : List Float} {ws₁ : List ℕ} {fs₃ : List Float} {ws₂ : List ℕ} {r : ℕ}
    (fine : Fine us vs) (finite : is_finite t ≡ true) (lf : length fs ≡ slot_floats) (lf₃ : length fs₃ ≡ length fs₂) (lw : length ws₂ ≡ slot_words)
    {m : Layout} (e : m ≡ slot_of (length us)) (filling : Filling us vs t fs ws fs₁ fs₂ ws₁ fs₃ ws₂ r m) where
  abbrev ps : List Point
  ps = points us vs

  abbrev slot : Layout
  slot = slot_of (length us)

  f : Filling us vs t fs ws fs₁ fs₂ ws₁ fs₃ ws₂ r slot
  f = subst (Filling us vs t fs ws fs₁ fs₂ ws₁ fs₃ ws₂ r) e filling

  abbrev headed : List ℕ
  headed = set (set (set ws₂ 0 1) 1 (length us)) 2 r

  -- ---- the header

  word_0 : get_or headed 0 0 ≡ 1
  word_0 = search (rules, places)

  word_1 : get_or headed 1 0 ≡ length us
  word_1 = search (rules, places)

  word_2 : get_or headed 2 0 ≡ r
  word_2 = search (rules, places)

  below_header : (i : ℕ) → 3 ≤ i → get_or headed i 0 ≡ get_or ws₂ i 0
  below_header i h = search (rules, places)

  is_open_lem : is_open (area fs₃ headed) ≡ true
  unfolding is_open
  is_open_lem = ap (λ (w : ℕ). not (eqb w 0)) word_0

  -- ---- the floats

  past_heap : (i : ℕ) → tolerance_at ≤ i → get_or fs₃ i nan ≡ get_or fs₂ i nan
  past_heap i h = f.seeded.framed.floats i (omega arith)

  tolerance_there : get_or fs₃ tolerance_at nan ≡ t
  tolerance_there =
      past_heap tolerance_at (omega arith) ∙ f.copied_y.before tolerance_at (omega arith) ∙ f.copied_x.before tolerance_at (omega arith)
      ∙ get_or-set_same fs tolerance_at t nan (omega (arith, lf))

  x_there : (i : ℕ) → i < length us → get_or fs₃ (slot.x + i) nan ≡ get_or us i nan
  x_there i h = past_heap (slot.x + i) (omega arith) ∙ f.copied_y.before (slot.x + i) (omega (arith, fine.few)) ∙ f.copied_x.there i h

  y_there : (i : ℕ) → i < length us → get_or fs₃ (slot.y + i) nan ≡ get_or vs i nan
  y_there i h = past_heap (slot.y + i) (omega arith) ∙ f.copied_y.there i (omega (arith, fine.level))

  placed : Placed (λ i. get_or us i nan) (λ i. get_or vs i nan) (length us) ps
  placed = record { on = fine.on; is = λ i h. at_points fine i h }

  placed_there : PlacedIn fs₃ fs₃ slot ps
  placed_there = placed_along x_there y_there placed

  placed_lent : PlacedIn us vs (own_points slot) ps
  placed_lent = placed_along (λ i h. ap (λ (j : ℕ). get_or us j nan) (zero-add i)) (λ i h. ap (λ (j : ℕ). get_or vs j nan) (zero-add i)) placed

  -- ---- the state

  seeds : LineRep ps (all ps) fs₃ ws₂ (own_points slot) r
  seeds = line_begins ps f.linked f.seeded placed_lent (length_points fine) (omega (arith, fine.few))

  begins : LineRep ps (all ps) fs₃ ws₂ slot r
  begins = state_moved slot.x slot.y seeds

  pub filled : Rep (area fs₃ headed) ps t (all ps)
  filled = record {
    floats = lf₃ ∙ f.copied_y.level ∙ f.copied_x.level ∙ length-set fs (slot.x - 1) t ∙ lf;
    words = simp length-set lw;
    opened = is_open_lem;
    number = word_1 ∙ sym (length_points fine);
    few = omega (arith, length_points fine, fine.few);
    tolerance = tolerance_there;
    finite = finite;
    placed = subst (λ (n : ℕ). PlacedIn fs₃ fs₃ (slot_of n) ps) (sym (length_points fine)) placed_there;
    state = subst (λ (n : ℕ). LineRep ps (all ps) fs₃ headed (slot_of n) (get_or headed 2 0)) (sym (length_points fine))
        (subst (LineRep ps (all ps) fs₃ headed slot) (sym word_2) (state_same headed (omega arith) (λ i h. below_header i (omega arith)) begins));
  }
