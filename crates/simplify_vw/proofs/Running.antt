-- Every removal: after k steps the memory has what the index rule leaves after k removals. Assumes nothing.
use mathlib.Core.Path.{◌≡◌, refl, sym, ap, ◌∙◌, subst}
use mathlib.Core.Bool.{true, false, false≢true}
use mathlib.Core.List.{List}
use mathlib.Core.Option.{Option, none}
use Prim.Native.Nat.{ℕ, zero, suc, ◌+◌, ◌*◌, ◌-◌, ◌≤◌}
use native.Mathlib.Omega.{arith}
use native.Mathlib.Numerals.{add-one}
use lib.ListN.{length, get_or}
use lib.Ieee.{Float, nan}
use Rattle.std.specs.Prelude.{Some, None}
use Rattle.std.specs.Prelude as prelude
use Rattle.std.specs.Option.{is_some}
use Rattle.rule.specs.Grid.{Point}
use Rattle.rule.specs.Plain.{Candidate, indices, all, next, area_at, index_rule}
use Rattle.rule.specs.Slots.{nth, left_after}
use Rattle.rule.specs.SlotCalls.{less_by}
use Rattle.laws.proofs.Removals.{next_nth, finished_again, left_zero, left_suc, left_last}
use Rattle.layout.specs.declared.Layout.{Layout}
use Rattle.layout.specs.Layout.{Room}
use Rattle.vscore.specs.Scale.{halves}
use Rattle.vscore.proofs.Scales.{halves_faithful}
use Rattle.links.specs.Calls.{Joined}
use Rattle.links.specs.Ring.{Line}
use Rattle.thin.specs.State.{Seeded}
use Rattle.thin.specs.Plain.{LineRep, StepDone}
use Rattle.thin.specs.declared.Removal.{Removal}
use Rattle.simplify_vw.specs.Calls.{Given, Ran}

-- ---- what is left once a step finds nothing

stays : (ps : List Point) (t : Float) (k j i : ℕ) → i ≡ j + k → nth ps t k ≡ none → left_after ps t i ≡ left_after ps t k
stays ps t k zero i h e = let z : i ≡ k = omega arith in rw z
stays ps t k (suc j) i h e =
    let z : i ≡ suc (j + k) = omega arith in
    rw z
    (left_suc ps t (j + k)
    ∙ ap (λ (o : Option Candidate). less_by o (left_after ps t (j + k))) (next_nth ps t (j + k) ∙ finished_again ps t k (j + k) (omega arith) e)
    ∙ stays ps t k j (j + k) refl e)

left_finished : (ps : List Point) (t : Float) (k : ℕ) → next ps t (left_after ps t k) ≡ none → left_after ps t k ≡ index_rule ps t
left_finished ps t k e =
    sym (stays ps t k (length ps) (length ps + k) refl (sym (next_nth ps t k) ∙ e)) ∙ left_last ps t (length ps + k) (omega arith)

-- ---- the loop

-- after k removals; fs and ws are what the loop began with
pub record Running (us vs : List Float) (fs : List Float) (ws : List ℕ) (m : Layout) (t : Float) (fs' : List Float) (ws' : List ℕ) (len k : ℕ) : Type 0 where
  pub areas : length fs' ≡ length fs
  pub level : length ws' ≡ length ws
  pub few : len ≤ m.capacity
  pub floats : (i : ℕ) → m.capacity ≤ i → get_or fs' i nan ≡ get_or fs i nan
  pub words : (i : ℕ) → m.links + 3 * m.points ≤ i → get_or ws' i 0 ≡ get_or ws i 0
  pub rep : (ps : List Point) → Given us vs m t ps → LineRep ps (left_after ps t k) fs' ws' m len

module _ {us vs : List Float} {m : Layout} {t : Float} where
  every : {ps : List Point} → Given us vs m t ps → indices 0 (m.points - 0) ≡ all ps
  every {ps} g = let e : m.points - 0 ≡ length ps = omega (arith, g.size) in rw e (unfold all in refl)

  module _ {fs₀ : List Float} {ws₀ ws₁ : List ℕ} {fs : List Float} {ws : List ℕ} {len : ℕ}
      (joined : Joined ws₀ m 0 m.points ws₁) (seeded : Seeded us vs fs₀ ws₁ m 0 m.points fs ws len) where
    pub run_start : Running us vs fs ws m t fs ws len 0
    run_start = record {
      areas = refl;
      level = refl;
      few = seeded.few;
      floats = λ i h. refl;
      words = λ i h. refl;
      rep = λ ps g. subst (λ (ks : List ℕ). LineRep ps ks fs ws m len) (every g ∙ sym (left_zero ps t))
          (seeded.rep halves (area_at ps) ps halves_faithful g.placed (λ a b c. refl) joined.ring g.fits);
    }

    -- the links and the first scores change nothing past the layout's runs
    pub run_whole : Room m fs₀ ws₁ → {fs' : List Float} {ws' : List ℕ} → Ran index_rule us vs fs ws m t fs' ws' → Ran index_rule us vs fs₀ ws₀ m t fs' ws'
    run_whole room ran = record {
      floats = λ i h. ran.floats i h ∙ seeded.framed.floats i h;
      words = λ i h. ran.words i h ∙ seeded.framed.after i (omega (arith, room.scores)) ∙ joined.only.after i h;
      kept = ran.kept;
    }

  module _ {fs : List Float} {ws : List ℕ} {fs' : List Float} {ws' : List ℕ} {len k : ℕ} (s : Running us vs fs ws m t fs' ws' len k) where
    pub run_turn : (r : prelude.Option Removal) → is_some r ≡ true → {fs'' : List Float} {ws'' : List ℕ} {n : ℕ} → length fs'' ≡ length fs'
        → length ws'' ≡ length ws' → StepDone us vs fs' ws' m len t fs'' ws'' n r → Running us vs fs ws m t fs'' ws'' n (k + 1)
    run_turn None e lf lw d = absurd (false≢true e)
    run_turn (Some r) e {fs''} {ws''} {n} lf lw d = record {
      areas = lf ∙ s.areas;
      level = lw ∙ s.level;
      few = d.few;
      floats = λ i h. d.floats i h ∙ s.floats i h;
      words = λ i h. d.after i h ∙ s.words i h;
      rep = λ ps g.
          let w = d.does ps (left_after ps t k) g.finite g.placed (s.rep ps g) in
          let e = left_suc ps t k ∙ ap (λ (o : Option Candidate). less_by o (left_after ps t k)) w.next_is in
          rw add-one (subst (λ (ks : List ℕ). LineRep ps ks fs'' ws'' m n) (sym e) w.rep);
    }

    -- nothing is left to remove,
    pub run_finished : (r : prelude.Option Removal) → is_some r ≡ false → {fs'' : List Float} {ws'' : List ℕ} {n : ℕ}
        → StepDone us vs fs' ws' m len t fs'' ws'' n r → Ran index_rule us vs fs ws m t fs'' ws''
    run_finished (Some r) e d = absurd (false≢true (sym e))
    run_finished None e {ws'' = ws''} d = record {
      floats = λ i h. d.floats i h ∙ s.floats i h;
      words = λ i h. d.after i h ∙ s.words i h;
      kept = λ ps g.
          let w = d.does ps (left_after ps t k) g.finite g.placed (s.rep ps g) in
          subst (Line ws'' m) (left_finished ps t k w.next_is) w.rep.ring;
    }

    -- or there were as many steps as points
    pub run_end : m.points ≤ k → Ran index_rule us vs fs ws m t fs' ws'
    run_end h = record {
      floats = s.floats;
      words = s.words;
      kept = λ ps g. subst (Line ws' m) (left_last ps t k (omega (arith, g.size))) (s.rep ps g).ring;
    }
