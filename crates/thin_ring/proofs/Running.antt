-- The loop over a ring's moves, and a ring from its beginning to its end. Assumes nothing.
use mathlib.Core.Path.{◌≡◌, refl, sym, ◌∙◌, subst}
use mathlib.Core.Bool.{Bool, true, false}
use mathlib.Core.List.{List, [], ◌∷◌}
use Prim.Native.Nat.{ℕ, zero, suc, ◌-◌, ◌≤◌}
use native.Mathlib.Omega.{arith}
use lib.ListN.{length}
use lib.Ieee.{Float}
use Rattle.rule.specs.Plain.{Candidate, indices, without, leave}
use Rattle.rule.specs.Preserve.{Minima, member, score_of, stop, remove, demoted, ring_removals}
use Rattle.laws.proofs.Removals.{mid_times, without_length, length_indices}
use Rattle.laws.proofs.RingRemovals.{Moves, move_moves, ring_suc}
use Rattle.layout.specs.declared.Layout.{Layout}
use Rattle.layout.specs.Layout.{Room}
use Rattle.vscore.specs.Scale.{demotable}
use Rattle.vscore.proofs.Scales.{demotable_faithful}
use Rattle.links.specs.Words.{SameLinks}
use Rattle.links.specs.Ring.{Ring}
use Rattle.links.proofs.Memory.{same_from, ring_same}
use Rattle.thin.specs.State.{most, Seeded}
use Rattle.blocks.specs.declared.Blocks.{Blocks}
use Rattle.blocks.specs.Boxes.{Free, boxes_end}
use Rattle.blocks.proofs.Kept.{boxed_same}
use Rattle.thin_ring.specs.State.{Setting, beside, move_in, left_in, State, Ended, Given, Outside}
use Rattle.thin_ring.specs.Calls.{Untouched, MoveDone, RunDone, RingDone}
use Rattle.thin_ring.proofs.Moving.{others_same}

-- ---- the rule, one move at a time

module _ (g : Setting) (t : Float) (q : Minima) (dem ks : List ℕ) where
  left_stop : move_in g t q dem ks ≡ stop → left_in g t q dem ks ≡ ks
  unfolding leave
  left_stop e = go (length ks)
    where
      go : (n : ℕ) → leave (ring_removals n g.points t q (beside g) dem ks) ks ≡ ks
      go zero = unfold ring_removals in refl
      go (suc n) = rw (ring_suc g.points t q (beside g) n dem ks, e)

  shorter : (c : Candidate) (crossed : Bool) → move_in g t q dem ks ≡ remove c crossed → suc (length (without c.current ks)) ≡ length ks
  shorter c crossed e =
      without_length c.current ks (mid_times (subst (Moves (score_of g.points dem) q ks) e (move_moves g.points t q (beside g) dem ks)).mid)

  left_goes : (c : Candidate) (crossed : Bool) → move_in g t q dem ks ≡ remove c crossed
      → left_in g t q dem ks ≡ left_in g t q (demoted c crossed dem) (without c.current ks)
  unfolding leave
  left_goes c crossed e = rw (← shorter c crossed e, ring_suc g.points t q (beside g) (length (without c.current ks)) dem ks, e)

left_none : (g : Setting) (t : Float) (q : Minima) (dem ks : List ℕ) → length ks ≤ 0 → left_in g t q dem ks ≡ ks
unfolding leave ring_removals
left_none g t q dem [] h = refl
left_none g t q dem (k ∷ ks) h = absurd (omega arith)

-- ---- what does not change

pub outside_self : (end : ℕ) (fs : List Float) (ws : List ℕ) (m : Layout) → Outside end fs ws m fs ws
outside_self end fs ws m = record { floats = λ i h. refl; before = λ i h. refl; after = λ i h. refl }

pub outside_then : {end : ℕ} {fs fs' fs'' : List Float} {ws ws' ws'' : List ℕ} {m : Layout} → Outside end fs ws m fs' ws' → Outside end fs' ws' m fs'' ws''
    → Outside end fs ws m fs'' ws''
outside_then a b = record {
  floats = λ i h. b.floats i h ∙ a.floats i h;
  before = λ i h. b.before i h ∙ a.before i h;
  after = λ i h. b.after i h ∙ a.after i h;
}

-- ---- the loop

-- the ring has come to ks' with dem' demoted, of which the rule leaves what it leaves of ks
pub record Under (b : Blocks) (g : Setting) (t : Float) (q : Minima) (dem ks : List ℕ) (fs' : List Float) (ws' : List ℕ) (m : Layout) (k kept : ℕ) : Type 0 where
  pub dem' : List ℕ
  pub ks' : List ℕ
  pub state : State b g t dem' ks' fs' ws' m k
  pub number : kept ≡ length ks'
  pub same : left_in g t q dem ks ≡ left_in g t q dem' ks'

pub record Going (b : Blocks) (us vs fs : List Float) (ws : List ℕ) (m : Layout) (len count : ℕ) (q : Minima) (t : Float)
    (fs' : List Float) (ws' : List ℕ) (k kept : ℕ) : Type 0 where
  pub floats : length fs' ≡ length fs
  pub words : length ws' ≡ length ws
  pub few : k ≤ m.capacity
  pub frame : Outside (boxes_end b) fs ws m fs' ws'
  pub under : (g : Setting) (dem ks : List ℕ) → Given us vs m t g → count ≡ length ks → State b g t dem ks fs ws m len → Under b g t q dem ks fs' ws' m k kept

module _ {b : Blocks} {us vs fs : List Float} {ws : List ℕ} {m : Layout} {len count : ℕ} {q : Minima} {t : Float} where
  module _ {fs' : List Float} {ws' : List ℕ} {k kept : ℕ} (s : Going b us vs fs ws m len count q t fs' ws' k kept) where
    -- the links are those of a state from which the rule removes nothing
    ended : (fs'' : List Float) (ws'' : List ℕ) → Untouched b fs' ws' m fs'' ws'' → (g : Setting) (dem ks : List ℕ) (u : Under b g t q dem ks fs' ws' m k kept)
        → left_in g t q u.dem' u.ks' ≡ u.ks' → Ended b g (left_in g t q dem ks) fs'' ws'' m
    ended fs'' ws'' same g dem ks u e =
        let r = u.state.rep.ring in
        record {
          ring = subst (Ring ws'' m g.lo g.hi) (sym (u.same ∙ e)) (ring_same {ws = ws'} {m = m} {ws' = ws''} (λ i l h. at i) r);
          others = others_same (λ i w h. at i) (omega (arith, r.from, r.to)) u.state.others;
          boxed = boxed_same same.boxes same.links u.state.boxed;
        }
      where
        at : (i : ℕ) → SameLinks ws' m ws'' i
        at = same_from same.links

    -- no point is left
    pub run_none : kept ≤ 0 → RunDone b us vs fs ws m len count q t fs' ws'
    run_none h = record {
      frame = s.frame;
      does = λ g dem ks a e st.
          let u = s.under g dem ks a e st in
          ended fs' ws' (record { boxes = λ i z. refl; links = λ i z. refl }) g dem ks u (left_none g t q u.dem' u.ks' (omega (arith, u.number)));
    }

    module _ {fs'' : List Float} {ws'' : List ℕ} where
      pub run_stop : {j : ℕ} → MoveDone b us vs fs' ws' m k kept q t fs'' ws'' j false → RunDone b us vs fs ws m len count q t fs'' ws''
      run_stop d = record {
        frame = outside_then s.frame d.frame;
        does = λ g dem ks a e st.
            let u = s.under g dem ks a e st in
            ended fs'' ws'' d.moved.0 g dem ks u (left_stop g t q u.dem' u.ks' (d.moved.1 g u.dem' u.ks' a u.number u.state));
      }

      pub run_turn : {j : ℕ} → length fs'' ≡ length fs' → length ws'' ≡ length ws' → MoveDone b us vs fs' ws' m k kept q t fs'' ws'' j true
          → Going b us vs fs ws m len count q t fs'' ws'' j (kept - 1)
      run_turn {j} lf lw d = record {
        floats = lf ∙ s.floats;
        words = lw ∙ s.words;
        few = d.moved.0;
        frame = outside_then s.frame d.frame;
        under = λ g dem ks a e st.
            let u = s.under g dem ks a e st in
            let r = d.moved.1 g u.dem' u.ks' a u.number u.state in
            record {
              dem' = demoted r.candidate r.crossed u.dem';
              ks' = without r.candidate.current u.ks';
              state = r.state;
              number = omega (arith, u.number, shorter g t q u.dem' u.ks' r.candidate r.crossed r.moves);
              same = u.same ∙ left_goes g t q u.dem' u.ks' r.candidate r.crossed r.moves;
            };
      }

-- ---- a whole ring

pub ring_law : (b : Blocks) (us vs fs : List Float) (ws : List ℕ) (m : Layout) (lo hi : ℕ) (q : Minima) (t : Float) → Room m fs ws → Free b m fs
    → {fs₁ : List Float} {ws₁ : List ℕ} {len : ℕ} → Seeded us vs fs ws m lo hi fs₁ ws₁ len
    → {fs₂ : List Float} {ws₂ : List ℕ} → RunDone b us vs fs₁ ws₁ m len (hi - lo) q t fs₂ ws₂ → RingDone b us vs fs ws m lo hi q t fs₂ ws₂
ring_law b us vs fs ws m lo hi q t room free {fs₁} {ws₁} {len} sd {fs₂} {ws₂} rd = record {
  frame = outside_then (record {
    floats = λ i h. seeded.boxes i (omega arith);
    before = sd.framed.before;
    after = λ i h. seeded.links i (omega arith);
  }) rd.frame;
  does = does;
}
  where
    seeded : Untouched b fs ws m fs₁ ws₁
    seeded = record { boxes = λ i h. sd.framed.floats i (omega (arith, free.past)); links = λ i h. sd.framed.after i (omega (arith, room.scores)) }

    at : (i : ℕ) → SameLinks ws m ws₁ i
    at = same_from seeded.links

    does : (g : Setting) → Given us vs m t g → g.lo ≡ lo → g.hi ≡ hi → most m ≤ m.capacity → Ended b g (indices lo (hi - lo)) fs ws m
        → Ended b g (left_in g t q [] (indices lo (hi - lo))) fs₂ ws₂ m
    does g a el eh fits e =
        rd.does g [] (indices lo (hi - lo)) a (sym (length_indices lo (hi - lo))) (record {
          rep = rw (el, eh)
              (sd.rep (demotable t) (score_of g.points []) g.points (demotable_faithful t a.above) a.placed (λ i j k. unfold score_of member in refl)
              (rw (el, eh) at e.ring) fits);
          once = tt;
          others = others_same (λ i w h. at i) (omega (arith, e.ring.from, e.ring.to)) e.others;
          boxed = boxed_same seeded.boxes seeded.links e.boxed;
        })
