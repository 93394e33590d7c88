-- One removal in a part: the step of the plain rule on its areas, with the coordinates cut off. Assumes nothing.
use Rattle.std.proofs.Common.{◌≡◌, refl, ap, ap₂, ◌∙◌, subst, List, ◌++◌, ℕ, ◌+◌, ◌-◌, ◌≤◌, ◌<◌, false, arith}
use Rattle.std.proofs.Common.{length, get_or, take, drop, set, length-append, length-drop}
use Rattle.std.specs.Prelude.{Option, Some, None, Float}
use Rattle.std.specs.Float.{nan}
use Rattle.std.proofs.lemmas.List.{get_or-take, get_or-drop, length-take-le, get_or_append_left, get_or-append_right}
use native.Mathlib.Decide.{dec_lt}
use Rattle.rule.specs.Grid.{Point}
use Rattle.rule.specs.Plain.{next}
use Rattle.rule.specs.Answers.{Answer, removal, finished}
use Rattle.rule.specs.Area.{area}
use Rattle.rule.specs.Slots.{step_answer}
use Rattle.rule.specs.SlotCalls.{is_refused, less_by}
use Rattle.layout.specs.declared.Layout.{Layout}
use Rattle.layout.specs.Layout.{slot_of}
use Rattle.layout.specs.Points.{PlacedIn}
use Rattle.scoring.proofs.Scoring.{placed_along}
use Rattle.thin.specs.declared.Removal.{Removal}
use Rattle.thin.specs.Plain.{LineRep, StepDone}
use Rattle.thin.proofs.Removing.{rep_floats}
use Rattle.part.specs.Rep.{Rep}
use Rattle.part.specs.Parts.{StepsPart}
use Rattle.part.proofs.Holding.{own_points, state_moved, rep_after}

abbrev pub answer_of : Option Removal → Answer
answer_of (Some r) = removal r.index r.area
answer_of None = finished

-- the part's floats cut: the areas with the tolerance behind them, and the rest, which is the two runs of coordinates
pub record Cut (m : Layout) (fs areas rest us vs : List Float) : Type 0 where
  pub before : areas ≡ take m.x fs
  pub from : rest ≡ drop m.x fs
  pub x : us ≡ take (m.y - m.x) rest
  pub y : vs ≡ drop (m.y - m.x) rest

module _ (fs : List Float) (ws : List ℕ) (areas rest us vs areas' : List Float) (ws' : List ℕ) (k : ℕ)
    (la : length areas' ≡ length areas) (lw : length ws' ≡ length ws) where
  module _ {ps : List Point} {t : Float} {ks : List ℕ} (h : Rep (area fs ws) ps t ks) (c : Cut (slot_of (length ps)) fs areas rest us vs) where
    abbrev m : Layout
    m = slot_of (length ps)

    same_below : (i : ℕ) → i < m.x → get_or areas i nan ≡ get_or fs i nan
    same_below i l = rw c.before (get_or-take m.x fs i nan l)

    same_rest : (i : ℕ) → get_or rest i nan ≡ get_or fs (m.x + i) nan
    same_rest i = rw c.from (get_or-drop m.x fs i nan)

    placed_own : PlacedIn us vs (own_points m) ps
    placed_own = placed_along
        (λ i l. rw c.x (get_or-take (m.y - m.x) rest (0 + i) nan (omega (arith, h.few)) ∙ same_rest (0 + i) ∙ at (omega arith)))
        (λ i l. rw c.y (get_or-drop (m.y - m.x) rest (0 + i) nan ∙ same_rest (m.y - m.x + (0 + i)) ∙ at (omega arith)))
        h.placed
      where
        at : {i j : ℕ} → i ≡ j → get_or fs i nan ≡ get_or fs j nan
        at e = ap (λ (i : ℕ). get_or fs i nan) e

    state : LineRep ps ks areas ws (own_points m) (get_or ws 2 0)
    state = state_moved 0 0 (rep_floats (λ i l. same_below i (omega arith)) h.state)

    long : length areas' ≡ m.x
    long = la ∙ ap length c.before ∙ length-take-le m.x fs (omega (arith, h.floats))

    whole : length (areas' ++ rest) ≡ length fs
    whole = rw c.from (simp (length-append, length-drop) (omega (arith, long, h.floats)))

    module _ {t' : Float} {r : Option Removal} (d : StepDone us vs areas ws (own_points m) (get_or ws 2 0) t' areas' ws' k r) where
      floats : (i : ℕ) → m.capacity ≤ i → get_or (areas' ++ rest) i nan ≡ get_or fs i nan
      floats i l = by (dec_lt i m.x)
        where
          by : Dec (i < m.x) → get_or (areas' ++ rest) i nan ≡ get_or fs i nan
          by (yes g) = get_or_append_left areas' rest nan i (omega (arith, long)) ∙ d.floats i l ∙ same_below i g
          by (no g) =
              get_or-append_right areas' rest m.x i nan long (omega (arith, g)) ∙ same_rest (i - m.x)
              ∙ ap (λ (j : ℕ). get_or fs j nan) (omega (arith, g))

      rep_then : (ks' : List ℕ) → LineRep ps ks' areas' ws' (own_points m) k → Rep (area (areas' ++ rest) (set ws' 2 k)) ps t ks'
      rep_then ks' q =
          rep_after h (areas' ++ rest) ws' k whole lw floats d.before ks'
          (state_moved m.x m.y (rep_floats (λ i l. get_or_append_left areas' rest nan i (omega (arith, long))) q))

    stepped : (r : Option Removal) → StepDone us vs areas ws (own_points m) (get_or ws 2 0) t areas' ws' k r
        → (answer_of r ≡ step_answer (next ps t ks)) × Rep (area (areas' ++ rest) (set ws' 2 k)) ps t (less_by (next ps t ks) ks)
    unfolding step_answer
    stepped None d =
        let w = d.does ps ks h.finite placed_own state in
        rw w.next_is (refl, rep_then d ks w.rep)
    stepped (Some r) d =
        let w = d.does ps ks h.finite placed_own state in
        rw w.next_is (ap₂ removal w.index w.area, rep_then d _ w.rep)

-- by what `step` promises of them, and with the layout and the tolerance as they were read
pub step_part : {fs : List Float} {ws : List ℕ} {areas rest us vs areas' : List Float} {ws' : List ℕ} {k : ℕ} {m : Layout} {r : Option Removal}
    → m ≡ slot_of (get_or ws 1 0) → Cut m fs areas rest us vs
    → StepDone us vs areas ws (own_points m) (get_or ws 2 0) (get_or fs (m.x - 1) nan) areas' ws' k r
    → length areas' ≡ length areas → length ws' ≡ length ws → StepsPart (area fs ws) (answer_of r) (area (areas' ++ rest) (set ws' 2 k))
step_part {fs} {ws} {areas} {rest} {us} {vs} {areas'} {ws'} {k} {m} {r} e cut d la lw = record {
  answers = never r;
  does = λ ps t ks h.
      let s : m ≡ slot_of (length ps) = e ∙ ap slot_of h.number in
      stepped fs ws areas rest us vs areas' ws' k la lw h (subst (λ (x : Layout). Cut x fs areas rest us vs) s cut) r
      (subst (λ (u : Float). StepDone us vs areas ws (own_points (slot_of (length ps))) (get_or ws 2 0) u areas' ws' k r) h.tolerance
      (subst (λ (x : Layout). StepDone us vs areas ws (own_points x) (get_or ws 2 0) (get_or fs (x.x - 1) nan) areas' ws' k r) s d));
}
  where
    never : (r : Option Removal) → is_refused (answer_of r) ≡ false
    never (Some r) = refl
    never None = refl
