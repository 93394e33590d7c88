-- The invariant of `push`, where s seeks its place from the last one up: each turn, and s put to rest. Assumes nothing.
use mathlib.Core.Path.{◌≡◌, refl, sym, ap, ◌∙◌, subst}
use mathlib.Core.Bool.{Bool, true, false}
use mathlib.Core.List.{List}
use mathlib.Core.Logic.{◌⊎◌, inl, inr, ⊎_elim}
use Prim.Native.Nat.{ℕ, suc, ◌+◌, ◌≤◌, ◌<◌}
use native.Mathlib.Omega.{arith}
use lib.ListN.{length}
use lib.Ieee.{Float}
use Rattle.layout.specs.declared.Layout.{Layout}
use Rattle.vscore.specs.declared.VScore.{VScore}
use Rattle.vscore.specs.Score.{sooner}
use Rattle.vscore.specs.Scale.{Scale, Faithful}
use Rattle.scores.specs.Memory.{Holds, score_at, Framed}
use Rattle.scores.specs.Scores.{Proper, Le}
use Rattle.scores.proofs.Scores.{le_trans, sooner_true, sooner_false}
use Rattle.scores.proofs.Memory.{holds_at, framed_self, framed_then}
use Rattle.heap.specs.Order.{parent, upd, tick, count}
use Rattle.heap.specs.Heap.{Heap, AllProper, Among, Pushed}
use Rattle.heap.proofs.Places.{upd_same, upd_other, upd_by, all_move, count_past, count_move}
use Rattle.heap.proofs.Holes.{Hole, Above, rest, up_hole, up_above, last_hole, last_above}
use Rattle.heap.proofs.Heap.{among_all}
use Rattle.heap.proofs.Stored.{Stored, stored_floats, stored_words, stored_at, stored_framed}

-- with s at j the scores are the old ones and s; all but s are in order, and s is not after what is below it
pub record Up (fs : List Float) (ws : List ℕ) (m : Layout) (len : ℕ) (s : VScore) (fs' : List Float) (ws' : List ℕ) (j : ℕ) : Type 0 where
  pub room : Holds m len fs ws
  pub floats : length fs' ≡ length fs
  pub words : length ws' ≡ length ws
  pub low : j ≤ len
  pub framed : Framed fs ws m (suc len) fs' ws'
  pub made : (q : VScore → Bool) → count q (suc len) (upd (score_at fs' ws' m) j s) ≡ count q len (score_at fs ws m) + tick (q s)
  pub from : (k : ℕ) → k < suc len → (upd (score_at fs' ws' m) j s k ≡ s) ⊎ Among len (score_at fs ws m) (upd (score_at fs' ws' m) j s k)
  pub hole : (σ : Scale) → Faithful σ → AllProper σ len (score_at fs ws m) → Proper σ s → Heap σ len (score_at fs ws m)
      → Hole (Le σ) (suc len) (score_at fs' ws' m) j × Above (Le σ) (suc len) (score_at fs' ws' m) j s

pub up_start : {fs : List Float} {ws : List ℕ} {m : Layout} {len : ℕ} (s : VScore) → Holds m len fs ws → Up fs ws m len s fs ws len
unfolding count
up_start {fs} {ws} {m} {len} s ok = record {
  room = ok;
  floats = refl;
  words = refl;
  low = omega arith;
  framed = framed_self;
  made = λ q. omega (arith, ap (λ (x : VScore). tick (q x)) (upd_same h len s), count_past q len h len s (omega arith));
  from = λ k l. upd_by (λ (x : VScore). (x ≡ s) ⊎ Among len h x) h len s k (λ e. inl refl)
      (λ ne. inr (record { place = k; below = omega (arith, ne); same = refl }));
  hole = λ σ φ f p o. (last_hole (Le σ) len h o, last_above (Le σ) len h s);
}
  where
    h : ℕ → VScore
    h = score_at fs ws m

module _ {fs : List Float} {ws : List ℕ} {m : Layout} {len : ℕ} {s : VScore} {fs' : List Float} {ws' : List ℕ} {j : ℕ}
    (u : Up fs ws m len s fs' ws' j) where
  abbrev old : ℕ → VScore
  old = score_at fs ws m

  abbrev h : ℕ → VScore
  h = score_at fs' ws' m

  pub up_holds : {k : ℕ} → k ≤ len → Holds m k fs' ws'
  up_holds = holds_at u.room u.floats u.words

  -- what is above j is a score of the scale
  above_proper : (σ : Scale) → AllProper σ len old → Proper σ s → 0 < j → Proper σ (h (parent j))
  above_proper σ f b p =
      subst (Proper σ) (upd_other h j s (parent j) (λ z. omega arith))
      (⊎_elim (λ e. subst (Proper σ) (sym e) b) (among_all (Proper σ) f) (u.from (parent j) (omega (arith, u.low))))

  -- e, above j, goes down to j
  pub up_turn : {e : VScore} {fs'' : List Float} {ws'' : List ℕ} → 0 < j → e ≡ h (parent j) → sooner s e ≡ true
      → Stored fs' ws' m j e fs'' ws'' → Up fs ws m len s fs'' ws'' (parent j)
  up_turn {e} {fs''} {ws''} p ee soon w = record {
    room = u.room;
    floats = stored_floats fs' ws' m j e w ∙ u.floats;
    words = stored_words fs' ws' m j e w ∙ u.words;
    low = omega (arith, u.low);
    framed = framed_then u.framed (stored_framed fs' ws' m j e w (suc len) (omega (arith, u.low)));
    made = λ q. ap (λ (x : ℕ → VScore). count q (suc len) (upd x (parent j) s)) now
        ∙ count_move q (suc len) h j (parent j) s (omega (arith, u.low)) (omega (arith, u.low)) (λ z. omega arith) ∙ u.made q;
    from = subst (λ (x : ℕ → VScore). (k : ℕ) → k < suc len → (upd x (parent j) s k ≡ s) ⊎ Among len old (upd x (parent j) s k)) (sym now)
        (all_move (λ (x : VScore). (x ≡ s) ⊎ Among len old x) (suc len) h j (parent j) s
        (omega (arith, u.low)) (omega (arith, u.low)) (λ z. omega arith) u.from);
    hole = λ σ φ f b o.
        let hole = (u.hole σ φ f b o).0 in
        let le = sooner_true σ φ s (h (parent j)) b (above_proper σ f b p) (ap (sooner s) (sym ee) ∙ soon) in
        subst (λ (x : ℕ → VScore). Hole (Le σ) (suc len) x (parent j) × Above (Le σ) (suc len) x (parent j) s) (sym now)
        (up_hole (Le σ) (le_trans σ) (suc len) h j p (omega (arith, u.low)) hole, up_above (Le σ) (le_trans σ) (suc len) h j p (omega (arith, u.low)) hole s le);
  }
    where
      now : score_at fs'' ws'' m ≡ upd h j (h (parent j))
      now = stored_at fs' ws' m j e w (up_holds u.low) ∙ ap (upd h j) ee

  -- s may rest at j: it is at the root, or not before e, above j
  abbrev pub UpStops : Type 0
  UpStops = (σ : Scale) → Faithful σ → AllProper σ len old → Proper σ s → 0 < j → Le σ (h (parent j)) s

  pub up_end : j ≤ 0 → UpStops
  up_end z σ φ f b p = absurd (omega arith)

  pub up_stop : {e : VScore} → e ≡ h (parent j) → sooner s e ≡ false → UpStops
  up_stop ee late σ φ f b p = sooner_false σ φ s (h (parent j)) b (above_proper σ f b p) (ap (sooner s) (sym ee) ∙ late)

  -- s comes to rest
  pub up_rest : {fs'' : List Float} {ws'' : List ℕ} → UpStops → Stored fs' ws' m j s fs'' ws'' → Pushed fs ws m len s fs'' ws''
  up_rest {fs''} {ws''} stops w = record {
    framed = framed_then u.framed (stored_framed fs' ws' m j s w (suc len) (omega (arith, u.low)));
    made = λ q. ap (count q (suc len)) now ∙ u.made q;
    from = subst (λ (x : ℕ → VScore). (k : ℕ) → k < suc len → (x k ≡ s) ⊎ Among len old (x k)) (sym now) u.from;
    heap = λ σ φ f b o. let hole = u.hole σ φ f b o in
        subst (Heap σ (suc len)) (sym now) (rest (Le σ) (suc len) h j s hole.0 hole.1 (stops σ φ f b));
  }
    where
      now : score_at fs'' ws'' m ≡ upd h j s
      now = stored_at fs' ws' m j s w (up_holds u.low)
