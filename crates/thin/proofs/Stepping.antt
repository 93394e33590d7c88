-- What is chosen is the rule's next, and the step of the plain rule by what `pick` and a removal promise. Assumes nothing.
use mathlib.Core.Path.{◌≡◌, refl, sym, ◌∙◌, subst}
use mathlib.Core.Bool.{Bool, true, false, not, cond}
use mathlib.Core.List.{List}
use mathlib.Core.Option.{Option, none, some}
use Rattle.std.specs.Prelude.{Some, None}
use Rattle.std.specs.Prelude as prelude
use Prim.Native.Nat.{ℕ, ◌≤◌}
use native.Mathlib.Nat.{sub-zero}
use native.Mathlib.Omega.{arith}
use lib.ListN.{length}
use lib.Ieee.{Float, lt}
use Rattle.rule.specs.Grid.{Point, within, is_finite}
use Rattle.rule.specs.Plain.{Candidate, least, indices, all, area_at, at_most, next}
use Rattle.grid.proofs.Halves.{above_is}
use Rattle.layout.specs.declared.Layout.{Layout}
use Rattle.layout.specs.Layout.{Room}
use Rattle.vscore.specs.declared.VScore.{VScore}
use Rattle.vscore.specs.Scale.{Scale, halves}
use Rattle.vscore.proofs.Scales.{halves_faithful}
use Rattle.links.specs.Words.{unlinked, SameLinks, OnlyLinks}
use Rattle.links.specs.Calls.{Joined}
use Rattle.links.proofs.Memory.{same_from, ring_same, unlinked_only}
use Rattle.layout.specs.Points.{PlacedIn}
use Rattle.thin.specs.Queue.{chosen, candidate_of, PickDone}
use Rattle.thin.specs.State.{most, Suits, Removed, Seeded}
use Rattle.thin.specs.Plain.{line, LineRep, StepDone}

-- ---- what is chosen

-- a candidate whose score passes the test
abbrev pub passing : (ℕ → Bool) → Option Candidate → Option Candidate
passing test none = none
passing test (some c) = cond (test c.score) (some c) none

chosen_passing : (σ : Scale) (t : Float) (test : ℕ → Bool) → ((n : ℕ) → lt t (σ.value n) ≡ not (test n)) → (o : Option Candidate) → chosen σ t o ≡ passing test o
unfolding chosen
chosen_passing σ t test e none = refl
chosen_passing σ t test e (some c) = rw (e c.score) (go (test c.score))
  where
    go : (b : Bool) → cond (not b) none (some c) ≡ cond b (some c) none
    go true = refl
    go false = refl

-- by the plain rule
pub chosen_next : (ps : List Point) (t : Float) (ks : List ℕ) → is_finite t ≡ true → chosen halves t (least (area_at ps) ks) ≡ next ps t ks
unfolding next
chosen_next ps t ks f = chosen_passing halves t (λ d. within d t) (λ d. above_is t d f) (least (area_at ps) ks) ∙ same (least (area_at ps) ks)
  where
    same : (o : Option Candidate) → passing (λ d. within d t) o ≡ at_most t o
    same none = unfold at_most in refl
    same (some c) = unfold at_most in refl

-- ---- one step of the plain rule

-- scores that never change suit
pub plain_suits : (ps : List Point) (n : ℕ) (ks : List ℕ) (s : VScore) → Suits (line ps n ks) s ps (area_at ps) None
plain_suits ps n ks s = record { stay = λ l c r p q. refl; left = λ a. refl; right = λ b. refl }

module _ (us vs : List Float) {fs : List Float} {ws : List ℕ} {m : Layout} {len : ℕ} {t : Float} (room : Room m fs ws) (le : len ≤ m.capacity)
    {fs₁ : List Float} {ws₁ : List ℕ} where
  same : {k : ℕ} {r : prelude.Option VScore} → PickDone fs ws m len t fs₁ ws₁ k r → (i : ℕ) → SameLinks ws m ws₁ i
  same p = same_from (λ j h. p.framed.after j (omega (arith, room.scores)))

  pub step_finished : {k : ℕ} → PickDone fs ws m len t fs₁ ws₁ k None → StepDone us vs fs ws m len t fs₁ ws₁ k None
  step_finished {k} p = record {
    floats = λ i h. p.framed.floats i (omega arith);
    before = p.framed.before;
    after = λ i h. p.framed.after i (omega (arith, room.scores));
    few = omega (arith, p.picked.0);
    does = λ ps ks f pl rep.
        let w = p.picked.1 (line ps m.points ks) halves_faithful rep.ring rep.queue in
        record {
          next_is = sym (chosen_next ps t ks f) ∙ w.0;
          rep = record {
            ring = ring_same (λ i a b. same p i) rep.ring;
            queue = w.1;
            room = omega (arith, rep.room, p.picked.0);
            fits = rep.fits;
          };
        };
  }

  pub step_removed : {s : VScore} {k : ℕ} → PickDone fs ws m len t fs₁ ws₁ k (Some s)
      → {fs₂ : List Float} {ws₂ : List ℕ} {n : ℕ} → Removed us vs fs₁ ws₁ m k s None fs₂ ws₂ n
      → StepDone us vs fs ws m len t fs₂ ws₂ n (Some (record { index = s.current; area = s.area }))
  step_removed {s} {k} p {n = n} rm = record {
    floats = λ i h. rm.floats i h ∙ p.framed.floats i (omega arith);
    before = λ i h. rm.before i h ∙ p.framed.before i h;
    after = λ i h. rm.links i (omega arith) ∙ only.after i h ∙ p.framed.after i (omega (arith, room.scores));
    few = rm.few;
    does = λ ps ks f pl rep.
        let w = p.picked.2 (line ps m.points ks) halves_faithful rep.ring rep.queue in
        record {
          removal = candidate_of (line ps m.points ks) s;
          next_is = sym (chosen_next ps t ks f) ∙ w.chose;
          index = refl;
          area = w.area;
          rep = rm.rep (line ps m.points ks) ps (area_at ps) t halves_faithful pl (ring_same (λ i a b. same p i) rep.ring) w
              (omega (arith, rep.room, p.picked.0)) rep.fits (plain_suits ps m.points ks s);
        };
  }
    where
      only : OnlyLinks ws₁ m 0 m.points (unlinked ws₁ m s)
      only =
          let l = p.picked.1 in
          unlinked_only ws₁ m s 0 m.points (omega arith) (omega arith, l.left) (omega arith, l.current) (omega arith, l.right)

-- ---- the beginning of a line: linked, and seeded

pub line_begins : {us vs : List Float} {fs : List Float} {ws₀ ws : List ℕ} {m : Layout} {fs' : List Float} {ws' : List ℕ} {r : ℕ} (ps : List Point)
    → Joined ws₀ m 0 m.points ws → Seeded us vs fs ws m 0 m.points fs' ws' r → PlacedIn us vs m ps → length ps ≡ m.points → most m ≤ m.capacity
    → LineRep ps (all ps) fs' ws' m r
unfolding all
line_begins {m = m} {fs' = fs'} {ws' = ws'} {r = r} ps joins seeds pl e fits =
    subst (λ (n : ℕ). LineRep ps (indices 0 n) fs' ws' m r) (sub-zero m.points ∙ sym e)
    (seeds.rep halves (area_at ps) ps halves_faithful pl (λ a b c. refl) joins.ring fits)
