-- Laws of the preserving rule in one ring, beside any others. Assumes nothing.
--     move_moves     a move removes a candidate, and only where more are kept than the first minimum
--     ring_one       the removals go one by one, each a candidate of what is left then
--     ring_keeps     at least the first minimum is kept, or all there was
--     ring_stays     a ring of at most the first minimum, or of fewer than three points, keeps all
--     ring_more      more steps than `rings_removals` counts change nothing
use mathlib.Core.Path.{◌≡◌, refl, sym, ap, ◌∙◌}
use mathlib.Core.Bool.{Bool, true, false, cond, ◌&&◌, ◌||◌}
use mathlib.Core.List.{List, [], ◌∷◌}
use mathlib.Core.Option.{Option, none, some}
use Prim.Native.Nat.{ℕ, zero, suc, ◌+◌, ◌≤◌, ◌<◌, min, max}
use native.Mathlib.Omega.{arith}
use lib.Dec.{leb}
use lib.ListN.{length}
use lib.Ieee.{Float}
use borrow.Author.Tests.{leb-false}
use Rattle.rule.specs.Grid.{Point}
use Rattle.rule.specs.Plain.{Candidate, least, without, leave}
use Rattle.rule.specs.Preserve.{Minima, score_of, score_within, crosses, Move, stop, remove, unless_few, move_of, move, demoted, ring_removals}
use Rattle.laws.proofs.Removals.{Given, Mid, least_mid, mid_times, mid_length, without_length, OneByOne, stops, goes}

-- ---- one move

-- what is known of a removal: it is a candidate, and more are kept than the first minimum
pub record Goes (f : ℕ → ℕ → ℕ → ℕ) (m : Minima) (ks : List ℕ) (c : Candidate) : Type 0 where
  pub mid : Mid f ks c
  pub above : m.first < length ks

abbrev pub Moves : (ℕ → ℕ → ℕ → ℕ) → Minima → List ℕ → Move → Type 0
Moves f m ks stop = Unit {0}
Moves f m ks (remove c crossed) = Goes f m ks c

unless_few_moves : (f : ℕ → ℕ → ℕ → ℕ) (m : Minima) (ks : List ℕ) (c : Candidate) (crossed : Bool) → Mid f ks c → Moves f m ks (unless_few m (length ks) c crossed)
unfolding unless_few
unless_few_moves f m ks c crossed d = go (leb (length ks) m.first) refl (crossed && leb (length ks) m.second)
  where
    go : (a : Bool) → leb (length ks) m.first ≡ a → (b : Bool) → Moves f m ks (cond (a || b) stop (remove c crossed))
    go true e b = tt
    go false e true = tt
    go false e false = record { mid = d; above = leb-false (length ks) m.first e }

module _ (ps : List Point) (t : Float) (m : Minima) (others : List (List ℕ)) where
  pub move_moves : (dem ks : List ℕ) → Moves (score_of ps dem) m ks (move ps t m others dem ks)
  unfolding move move_of
  move_moves dem ks = go (least (score_of ps dem) ks) (least_mid (score_of ps dem) ks)
    where
      pick : (c : Candidate) → Mid (score_of ps dem) ks c → (b : Bool)
          → Moves (score_of ps dem) m ks (elim b as (λ _. Move) [ true ↦ unless_few m (length ks) c (crosses ps c.left c.right (ks ∷ others)) | false ↦ stop ])
      pick c d true = unless_few_moves (score_of ps dem) m ks c (crosses ps c.left c.right (ks ∷ others)) d
      pick c d false = tt

      go : (o : Option Candidate) → Given (Mid (score_of ps dem) ks) o → Moves (score_of ps dem) m ks (move_of ps t m others ks o)
      go none d = tt
      go (some c) d = pick c d (score_within c.score t)

  -- ---- the removals

  -- what `ring_removals (suc n)` does with a move
  abbrev pub followed : ℕ → List ℕ → List ℕ → Move → List Candidate
  followed n dem ks stop = []
  followed n dem ks (remove c crossed) = c ∷ ring_removals n ps t m others (demoted c crossed dem) (without c.current ks)

  pub ring_suc : (n : ℕ) (dem ks : List ℕ) → ring_removals (suc n) ps t m others dem ks ≡ followed n dem ks (move ps t m others dem ks)
  unfolding ring_removals
  ring_suc n dem ks = go (move ps t m others dem ks)
    where
      go : (o : Move)
          → elim o as (λ _. List Candidate) [ stop ↦ [] | remove c crossed ↦ c ∷ ring_removals n ps t m others (demoted c crossed dem) (without c.current ks) ]
          ≡ followed n dem ks o
      go stop = refl
      go (remove c crossed) = refl

  pub ring_one : (n : ℕ) (dem ks : List ℕ) → OneByOne ks (ring_removals n ps t m others dem ks)
  ring_one zero dem ks = unfold ring_removals in stops
  ring_one (suc n) dem ks = rw (ring_suc n dem ks) (go (move ps t m others dem ks) (move_moves dem ks) (λ (d l : List ℕ). ring_one n d l))
    where
      go : (o : Move) → Moves (score_of ps dem) m ks o → ((d l : List ℕ) → OneByOne l (ring_removals n ps t m others d l)) → OneByOne ks (followed n dem ks o)
      go stop g r = stops
      go (remove c crossed) g r = goes g.mid (r (demoted c crossed dem) (without c.current ks))

  -- At least the first minimum is kept, or all there was.
  pub ring_keeps : (n : ℕ) (dem ks : List ℕ) → min m.first (length ks) ≤ length (leave (ring_removals n ps t m others dem ks) ks)
  unfolding leave
  ring_keeps zero dem ks = unfold ring_removals in omega arith
  ring_keeps (suc n) dem ks = rw (ring_suc n dem ks) (go (move ps t m others dem ks) (move_moves dem ks) (λ (d l : List ℕ). ring_keeps n d l))
    where
      go : (o : Move) → Moves (score_of ps dem) m ks o
          → ((d l : List ℕ) → min m.first (length l) ≤ length (leave (ring_removals n ps t m others d l) l))
          → min m.first (length ks) ≤ length (leave (followed n dem ks o) ks)
      go stop g r = omega arith
      go (remove c crossed) g r =
          omega (arith, r (demoted c crossed dem) (without c.current ks), without_length c.current ks (mid_times g.mid), g.above)

  -- A ring of at most the first minimum, or of fewer than three points, keeps all.
  pub ring_stays : (n : ℕ) (dem ks : List ℕ) → length ks ≤ max 2 m.first → ring_removals n ps t m others dem ks ≡ []
  ring_stays zero dem ks h = unfold ring_removals in refl
  ring_stays (suc n) dem ks h = ring_suc n dem ks ∙ go (move ps t m others dem ks) (move_moves dem ks)
    where
      go : (o : Move) → Moves (score_of ps dem) m ks o → followed n dem ks o ≡ []
      go stop g = refl
      go (remove c crossed) g = absurd (omega (arith, mid_length g.mid, g.above))

  -- Where n removals are all that can be, more steps change nothing.
  pub ring_more : (k n : ℕ) (dem ks : List ℕ) → length ks ≤ n + 2 → n ≤ k → ring_removals k ps t m others dem ks ≡ ring_removals n ps t m others dem ks
  ring_more zero zero dem ks h g = refl
  ring_more zero (suc n) dem ks h g = absurd (omega arith)
  ring_more (suc k) zero dem ks h g = ring_stays (suc k) dem ks (omega arith) ∙ (unfold ring_removals in refl)
  ring_more (suc k) (suc n) dem ks h g =
      ring_suc k dem ks
      ∙ (go (move ps t m others dem ks) (move_moves dem ks) (λ (d l : List ℕ) (q : length l ≤ n + 2). ring_more k n d l q (omega arith)) ∙ sym (ring_suc n dem ks))
    where
      go : (o : Move) → Moves (score_of ps dem) m ks o
          → ((d l : List ℕ) → length l ≤ n + 2 → ring_removals k ps t m others d l ≡ ring_removals n ps t m others d l)
          → followed k dem ks o ≡ followed n dem ks o
      go stop g r = refl
      go (remove c crossed) g r =
          ap (λ (l : List Candidate). c ∷ l)
          (r (demoted c crossed dem) (without c.current ks) (omega (arith, without_length c.current ks (mid_times g.mid), mid_length g.mid)))
