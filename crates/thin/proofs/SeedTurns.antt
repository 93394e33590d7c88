-- The loop of `seed`: the score of each candidate of a ring of which every point is kept. Assumes nothing.
use mathlib.Core.Path.{◌≡◌, refl, ◌∙◌}
use mathlib.Core.List.{List}
use Rattle.std.specs.Prelude.{Option}
use mathlib.Core.Logic.{◌⊎◌, inl, inr, ⊎_elim}
use Prim.Native.Nat.{ℕ, ◌+◌, ◌-◌, ◌≤◌, ◌<◌}
use native.Mathlib.Decide.{dec_lt}
use native.Mathlib.Omega.{arith}
use lib.ListN.{length}
use lib.Ieee.{Float}
use Rattle.rule.specs.Grid.{Point, half}
use Rattle.rule.specs.Plain.{indices, area_at}
use Rattle.laws.proofs.Removals.{length_indices}
use Rattle.layout.specs.declared.Layout.{Layout}
use Rattle.layout.specs.Layout.{Room}
use Rattle.vscore.specs.declared.VScore.{VScore}
use Rattle.vscore.specs.Scale.{Scale, Faithful}
use Rattle.scores.specs.Memory.{Framed}
use Rattle.scores.proofs.Memory.{framed_then}
use Rattle.links.specs.Words.{SameLinks}
use Rattle.links.specs.Ring.{Then, Triple}
use Rattle.links.proofs.Marks.{indices_in, in_indices}
use Rattle.links.proofs.Memory.{same_from, ring_same}
use Rattle.layout.specs.Points.{PlacedIn}
use Rattle.scoring.specs.Plot.{Points, ScoreOf, ScoredAs, scored, missing}
use Rattle.scoring.specs.Putting.{PutIs, pushes, full, nothing}
use Rattle.scoring.proofs.Putting.{put_framed, put_count}
use Rattle.thin.specs.Queue.{Entry, QueueOf}
use Rattle.thin.specs.State.{most, fresh, Seeded}
use Rattle.thin.proofs.Queue.{queue_less, queue_put}
use Rattle.thin.proofs.Removing.{score_entry}

-- ---- the candidates of a whole ring

module _ (lo hi : ℕ) where
  abbrev whole : List ℕ
  whole = indices lo (hi - lo)

  follows : (i j : ℕ) → lo ≤ i → j ≡ i + 1 → j < hi → Then whole i j
  follows i j p e q = record {
    from = in_indices lo (hi - lo) i p (omega arith);
    to = in_indices lo (hi - lo) j (omega arith) (omega arith);
    up = omega arith;
    none = λ k a b g. omega arith;
  }

  -- and no others
  followed : (i j : ℕ) → Then whole i j → (lo ≤ i) × (j ≡ i + 1) × (j < hi)
  followed i j t = (a.0, one (dec_lt (i + 1) j), omega (arith, b.0, b.1))
    where
      a : (lo ≤ i) × (i < lo + (hi - lo))
      a = indices_in lo (hi - lo) i t.from

      b : (lo ≤ j) × (j < lo + (hi - lo))
      b = indices_in lo (hi - lo) j t.to

      one : Dec (i + 1 < j) → j ≡ i + 1
      one (yes l) = absurd (t.none (i + 1) (omega arith) l (in_indices lo (hi - lo) (i + 1) (omega (arith, a.0)) (omega (arith, b.1))))
      one (no l) = omega (arith, l, t.up)

-- ---- the loop

-- the candidates below c
abbrev Early : ℕ → ℕ → ℕ → ℕ → ℕ → Type 0
Early lo c l d r = (lo ≤ l) × (d ≡ l + 1) × (r ≡ d + 1) × (d < c)

pub record Seeding (us vs : List Float) (fs : List Float) (ws : List ℕ) (m : Layout) (lo hi : ℕ) (fs' : List Float) (ws' : List ℕ) (len c : ℕ) : Type 0 where
  pub room : Room m fs ws
  pub from : lo ≤ hi
  pub to : hi ≤ m.points
  pub floats : length fs' ≡ length fs
  pub words : length ws' ≡ length ws
  pub few : len ≤ m.capacity
  pub low : lo + 1 ≤ c
  pub top : c ≤ hi + 1
  pub edge : (c ≡ lo + 1) ⊎ (c + 1 ≤ hi)
  pub framed : Framed fs ws m m.capacity fs' ws'
  pub number : most m ≤ m.capacity → len + lo + 1 ≡ c
  pub queue : (σ : Scale) (f : ℕ → ℕ → ℕ → ℕ) (ps : List Point) → Faithful σ → PlacedIn us vs m ps → ((a b c : ℕ) → half (area_at ps a b c) ≡ σ.value (f a b c))
      → most m ≤ m.capacity → QueueOf (fresh σ f lo hi) fs' ws' m len (Early lo c)

module _ {us vs : List Float} {fs : List Float} {ws : List ℕ} {m : Layout} {lo hi : ℕ} {fs' : List Float} {ws' : List ℕ} {len c : ℕ}
    (s : Seeding us vs fs ws m lo hi fs' ws' len c) where
  left : c + 1 < hi → most m ≤ m.capacity → len < m.capacity
  left h g = omega (arith, s.number g, s.to)

  pub seed_turn : c + 1 < hi → {r : Option VScore} → ScoredAs us vs m (c - 1) c (c + 1) half r → {fs'' : List Float} {ws'' : List ℕ} {k : ℕ} → PutIs fs' ws' m len fs'' ws'' k r
      → length fs'' ≡ length fs' → length ws'' ≡ length ws' → Seeding us vs fs ws m lo hi fs'' ws'' k (c + 1)
  seed_turn h {r} sc {fs''} {ws''} {k} p lf lw = record {
    room = s.room;
    from = s.from;
    to = s.to;
    floats = lf ∙ s.floats;
    words = lw ∙ s.words;
    few = (put_count p s.few).0;
    low = omega (arith, s.low);
    top = omega arith;
    edge = inr (omega arith);
    framed = framed_then s.framed (put_framed p);
    number = λ g. number g sc p;
    queue = λ σ f ps φ pl e g.
        queue_less (λ l d r a. early l d r a (dec_lt d c))
        (queue_put φ (λ z w. w.proper) sc p (left h g) (λ z q w. entry σ f ps φ pl e z w) (s.queue σ f ps φ pl e g));
  }
    where
      points : Points m.points (c - 1) c (c + 1)
      points = record { left = omega (arith, s.to); current = omega (arith, s.to); right = omega (arith, s.to) }

      number : most m ≤ m.capacity → {r : Option VScore} → ScoredAs us vs m (c - 1) c (c + 1) half r → PutIs fs' ws' m len fs'' ws'' k r → k + lo + 1 ≡ c + 1
      number g (scored q w) (pushes u) = omega (arith, u.count, s.number g)
      number g (scored q w) (full l u) = absurd (omega (arith, left h g))
      number g (missing n) (nothing u) = absurd (n points)

      entry : (σ : Scale) (f : ℕ → ℕ → ℕ → ℕ) (ps : List Point) → Faithful σ → PlacedIn us vs m ps → ((a b c : ℕ) → half (area_at ps a b c) ≡ σ.value (f a b c))
          → (z : VScore) → ScoreOf us vs m (c - 1) c (c + 1) half z → Entry (fresh σ f lo hi) z
      entry σ f ps φ pl e z w =
          score_entry (fresh σ f lo hi) φ pl w
          (record {
            low = follows lo hi (c - 1) c (omega (arith, s.low)) (omega (arith, s.low)) (omega arith);
            high = follows lo hi c (c + 1) (omega (arith, s.low)) refl h;
          })
          (omega (arith, s.low)) (omega arith) (e (c - 1) c (c + 1))

      early : (l d r : ℕ) → Early lo (c + 1) l d r → Dec (d < c) → Early lo c l d r ⊎ (Points m.points (c - 1) c (c + 1) × (l ≡ c - 1) × (d ≡ c) × (r ≡ c + 1))
      early l d r a (yes w) = inl (a.0, a.1, a.2, w)
      early l d r a (no w) =
          let e : d ≡ c = omega (arith, w, a.3) in
          inr (points, omega (arith, a.1), e, omega (arith, a.2))

  pub seed_end : hi ≤ c + 1 → Seeded us vs fs ws m lo hi fs' ws' len
  seed_end h = record {
    framed = s.framed;
    few = s.few;
    rep = λ σ f ps φ pl e ring g. record {
      ring = ring_same (λ i p q. same i) ring;
      queue = queue_less early (s.queue σ f ps φ pl e g);
      room = ⊎_elim (λ z. omega (arith, s.number g, length_indices lo (hi - lo))) (λ z. omega (arith, s.number g, length_indices lo (hi - lo))) s.edge;
      fits = g;
    };
  }
    where
      same : (i : ℕ) → SameLinks ws m ws' i
      same = same_from (λ j z. s.framed.after j (omega (arith, s.room.scores)))

      early : (l d r : ℕ) → Triple (whole lo hi) l d r → Early lo c l d r
      early l d r t =
          let a = followed lo hi l d t.low in
          let b = followed lo hi d r t.high in
          (a.0, a.1, b.1, omega (arith, b.1, b.2))
