-- The invariant of `pop`, where the last score s seeks its place from the root down: each turn, and s put to rest. Assumes nothing.
use mathlib.Core.Path.{◌≡◌, refl, sym, ap, ◌∙◌, subst}
use mathlib.Core.Bool.{Bool, true, false}
use mathlib.Core.List.{List}
use mathlib.Core.Logic.{dite}
use Prim.Native.Nat.{ℕ, suc, ◌+◌, ◌*◌, ◌≤◌, ◌<◌}
use native.Mathlib.Decide.{ℕ_discrete}
use native.Mathlib.Omega.{arith}
use lib.ListN.{length}
use lib.Ieee.{Float}
use Rattle.layout.specs.declared.Layout.{Layout}
use Rattle.vscore.specs.declared.VScore.{VScore}
use Rattle.vscore.specs.Score.{sooner}
use Rattle.vscore.specs.Scale.{Scale, Faithful}
use Rattle.scores.specs.Memory.{Holds, score_at, Framed}
use Rattle.scores.specs.Scores.{Proper, Le}
use Rattle.scores.specs.Children.{children, FirstOf}
use Rattle.scores.proofs.Scores.{le_trans, sooner_true, sooner_false}
use Rattle.scores.proofs.Memory.{holds_at, framed_self, framed_then}
use Rattle.heap.specs.Order.{parent, upd, tick, count}
use Rattle.heap.specs.Heap.{Heap, AllProper, Among, Popped}
use Rattle.heap.proofs.Places.{upd_other, upd_by, all_move, count_upd, count_move}
use Rattle.heap.proofs.Holes.{Hole, Above, Below, rest, down_hole, down_below, first_hole}
use Rattle.heap.proofs.Heap.{among_all}
use Rattle.heap.proofs.Stored.{Stored, stored_floats, stored_words, stored_at, stored_framed}

-- with s at j the scores are the old ones but the root's; all but s are in order, and s is not before what is above it
pub record Down (fs : List Float) (ws : List ℕ) (m : Layout) (n : ℕ) (s : VScore) (fs' : List Float) (ws' : List ℕ) (j : ℕ) : Type 0 where
  pub room : Holds m n fs ws
  pub floats : length fs' ≡ length fs
  pub words : length ws' ≡ length ws
  pub low : j ≤ n
  pub last : s ≡ score_at fs ws m n
  pub framed : Framed fs ws m (suc n) fs' ws'
  pub made : (q : VScore → Bool) → count q n (upd (score_at fs' ws' m) j s) + tick (q (score_at fs ws m 0)) ≡ count q (suc n) (score_at fs ws m)
  pub from : (k : ℕ) → k < n → Among (suc n) (score_at fs ws m) (upd (score_at fs' ws' m) j s k)
  pub hole : (σ : Scale) → Faithful σ → AllProper σ (suc n) (score_at fs ws m) → Heap σ (suc n) (score_at fs ws m)
      → Hole (Le σ) n (score_at fs' ws' m) j × Below (Le σ) (score_at fs' ws' m) j s

pub down_start : {fs : List Float} {ws : List ℕ} {m : Layout} {n : ℕ} {s : VScore} → Holds m n fs ws → s ≡ score_at fs ws m n → Down fs ws m n s fs ws 0
unfolding count
down_start {fs} {ws} {m} {n} {s} ok e = record {
  room = ok;
  floats = refl;
  words = refl;
  low = omega arith;
  last = e;
  framed = framed_self;
  made = λ q. dite (ℕ_discrete n 0)
      (λ z. omega (arith, ap (λ (i : ℕ). count q i (upd h 0 s)) z, ap (λ (i : ℕ). count q i h) z, ap (λ (i : ℕ). tick (q (h i))) z))
      (λ ne. omega (arith, ap (λ (x : VScore). tick (q x)) e, count_upd q n h 0 s (omega (arith, ne))));
  from = λ k l. upd_by (Among (suc n) h) h 0 s k (λ z. record { place = n; below = omega arith; same = e })
      (λ ne. record { place = k; below = omega arith; same = refl });
  hole = λ σ φ f o. (first_hole (Le σ) n h o, λ z. absurd (omega arith));
}
  where
    h : ℕ → VScore
    h = score_at fs ws m

module _ {fs : List Float} {ws : List ℕ} {m : Layout} {n : ℕ} {s : VScore} {fs' : List Float} {ws' : List ℕ} {j : ℕ}
    (u : Down fs ws m n s fs' ws' j) where
  abbrev old : ℕ → VScore
  old = score_at fs ws m

  abbrev h : ℕ → VScore
  h = score_at fs' ws' m

  pub down_holds : {k : ℕ} → k ≤ n → Holds m k fs' ws'
  down_holds = holds_at u.room u.floats u.words

  -- the scores are of the scale: s, and those of memory but at j
  last_proper : (σ : Scale) → AllProper σ (suc n) old → Proper σ s
  last_proper σ f = subst (Proper σ) (sym u.last) (f n (omega arith))

  at_proper : (σ : Scale) → AllProper σ (suc n) old → (k : ℕ) → k < n → (k ≡ j → ⊥) → Proper σ (h k)
  at_proper σ f k l ne = subst (Proper σ) (upd_other h j s k ne) (among_all (Proper σ) f (u.from k l))

  -- s may rest at j: nothing is below j, or s is not after the first of those
  abbrev pub DownStops : Type 0
  DownStops = (σ : Scale) → Faithful σ → AllProper σ (suc n) old → Above (Le σ) n h j s

  pub down_end : n ≤ children * j + 1 → DownStops
  down_end h σ φ f k p l e = absurd (omega arith)

  -- the first of those below j, at i
  module _ {i : ℕ} (fo : FirstOf fs' ws' m (children * j + 1) n i) where
    least : (σ : Scale) → Faithful σ → AllProper σ (suc n) old → Above (Le σ) n h j (h i)
    least σ φ f k p l e = fo.first σ φ (λ x a b. at_proper σ f x b (λ z. omega arith)) k (omega arith) (omega arith) l

    first_proper : (σ : Scale) → AllProper σ (suc n) old → Proper σ (h i)
    first_proper σ f = at_proper σ f i fo.within (λ z. omega (arith, fo.low))

    -- it goes up to j
    pub down_turn : {e : VScore} {fs'' : List Float} {ws'' : List ℕ} → e ≡ h i → sooner e s ≡ true
        → Stored fs' ws' m j e fs'' ws'' → Down fs ws m n s fs'' ws'' i
    down_turn {e} {fs''} {ws''} ee soon w = record {
      room = u.room;
      floats = stored_floats fs' ws' m j e w ∙ u.floats;
      words = stored_words fs' ws' m j e w ∙ u.words;
      low = omega (arith, il);
      last = u.last;
      framed = framed_then u.framed (stored_framed fs' ws' m j e w (suc n) (omega (arith, u.low)));
      made = λ q. ap (λ (x : ℕ). x + tick (q (old 0)))
          (ap (λ (x : ℕ → VScore). count q n (upd x i s)) now ∙ count_move q n h j i s jl il i≢j) ∙ u.made q;
      from = subst (λ (x : ℕ → VScore). (k : ℕ) → k < n → Among (suc n) old (upd x i s k)) (sym now)
          (all_move (Among (suc n) old) n h j i s jl il i≢j u.from);
      hole = λ σ φ f o. subst (λ (x : ℕ → VScore). Hole (Le σ) n x i × Below (Le σ) x i s) (sym now) (
        down_hole (Le σ) n h j i (omega (arith, fo.low)) il pi (least σ φ f) (u.hole σ φ f o).0,
        down_below (Le σ) h j i s pi (sooner_true σ φ (h i) s (first_proper σ f) (last_proper σ f) (ap (λ (x : VScore). sooner x s) (sym ee) ∙ soon)),
      );
    }
      where
        il : i < n
        il = fo.within

        jl : j < n
        jl = omega (arith, fo.low, il)

        i≢j : i ≡ j → ⊥
        i≢j z = omega (arith, fo.low)

        pi : parent i ≡ j
        pi = omega (arith, fo.low, fo.high)

        now : score_at fs'' ws'' m ≡ upd h j (h i)
        now = stored_at fs' ws' m j e w (down_holds u.low) ∙ ap (upd h j) ee

    pub down_stop : {e : VScore} → e ≡ h i → sooner e s ≡ false → DownStops
    down_stop {e} ee late σ φ f k p l z =
        le_trans σ s (h i) (h k)
        (sooner_false σ φ (h i) s (first_proper σ f) (last_proper σ f) (ap (λ (x : VScore). sooner x s) (sym ee) ∙ late)) (least σ φ f k p l z)

  -- s comes to rest
  pub down_rest : {top : VScore} {fs'' : List Float} {ws'' : List ℕ} → top ≡ old 0 → DownStops → Stored fs' ws' m j s fs'' ws''
      → Popped fs ws m n top fs'' ws''
  down_rest {top} {fs''} {ws''} te stops w = record {
    root = te;
    framed = framed_then u.framed (stored_framed fs' ws' m j s w (suc n) (omega (arith, u.low)));
    made = λ q. ap (λ (x : ℕ → VScore). count q n x + tick (q top)) now ∙ ap (λ (x : VScore). count q n (upd h j s) + tick (q x)) te ∙ u.made q;
    from = subst (λ (x : ℕ → VScore). (k : ℕ) → k < n → Among (suc n) old (x k)) (sym now) u.from;
    heap = λ σ φ f o. let hole = u.hole σ φ f o in
        subst (Heap σ n) (sym now) (rest (Le σ) n h j s hole.0 (stops σ φ f) hole.1);
  }
    where
      now : score_at fs'' ws'' m ≡ upd h j s
      now = stored_at fs' ws' m j s w (down_holds u.low)
