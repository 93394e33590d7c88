-- What the links say of present segments is what the rule's `crosses` says over the lists of kept points. Assumes nothing.
use mathlib.Core.Path.{◌≡◌, refl, sym, ap, ◌∙◌, subst}
use mathlib.Core.Bool.{Bool, true, false, ◌||◌, or-true}
use mathlib.Core.List.{List, [], ◌∷◌, ◌++◌}
use mathlib.Core.Logic.{◌⊎◌, inl, inr}
use Prim.Native.Nat.{ℕ, suc, ◌≤◌, ◌<◌}
use native.Mathlib.Decide.{dec_lt}
use native.Mathlib.Omega.{arith}
use lib.Ieee.{Float}
use Rattle.rule.specs.Grid.{Point}
use Rattle.rule.specs.Preserve.{against, against_ring, crosses}
use Rattle.laws.proofs.Kept.{Up}
use Rattle.layout.specs.declared.Layout.{Layout}
use Rattle.layout.specs.Points.{from, PlacedIn}
use Rattle.links.specs.Words.{next_at, Starts}
use Rattle.links.specs.Ring.{In, Then, Rings}
use Rattle.links.proofs.Neighbours.{in_none, in_cons, then_first, then_further, then_back, next_unique}
use Rattle.links.proofs.Ring.{ring_in, in_ring, ring_below, ring_up, next_is, is_next}
use Rattle.segment.specs.Against.{opposed, AgainstIs}
use Rattle.crossing.specs.Crossing.{AgainstAt}
use Rattle.crossing.specs.Passing.{Crosses}

-- ---- one ring

module _ (ps : List Point) (l r : ℕ) where
  ring_true : (n : ℕ) (ks : List ℕ) (a b : ℕ) → Up n ks → Then ks a b → against ps l r a b ≡ true → against_ring ps l r ks ≡ true
  unfolding against_ring
  ring_true n [] a b u t h = absurd (in_none a t.from)
  ring_true n (x ∷ []) a b u t h = absurd (go (in_cons x [] a t.from) (in_cons x [] b t.to))
    where
      go : (a ≡ x) ⊎ In [] a → (b ≡ x) ⊎ In [] b → ⊥
      go (inl e) (inl z) = omega (arith, t.up)
      go (inl e) (inr z) = in_none b z
      go (inr g) z = in_none a g
  ring_true n (x ∷ y ∷ ks) a b u t h = go (in_cons x (y ∷ ks) a t.from) (λ v. ring_true (suc x) (y ∷ ks) a b u.1 v h)
    where
      go : (a ≡ x) ⊎ In (y ∷ ks) a → (Then (y ∷ ks) a b → against_ring ps l r (y ∷ ks) ≡ true) → (against ps l r x y || against_ring ps l r (y ∷ ks)) ≡ true
      go (inl e) rec =
          let z : y ≡ b = next_unique (then_first n x y ks u) (subst (λ (i : ℕ). Then (x ∷ y ∷ ks) i b) e t) in
          rw (← e, z, h)
      go (inr g) rec = rw (rec (then_back n x (y ∷ ks) a b u g t)) (or-true (against ps l r x y))

  ring_false : (n : ℕ) (ks : List ℕ) → Up n ks → ((a b : ℕ) → Then ks a b → against ps l r a b ≡ false) → against_ring ps l r ks ≡ false
  unfolding against_ring
  ring_false n [] u h = refl
  ring_false n (x ∷ []) u h = refl
  ring_false n (x ∷ y ∷ ks) u h =
      rw (h x y (then_first n x y ks u)) (ring_false (suc x) (y ∷ ks) u.1 (λ a b t. h a b (then_further n x (y ∷ ks) a b u t)))

  -- ---- all rings

  module _ (ws : List ℕ) (m : Layout) where
    rings_true : (lo : ℕ) (ends : List ℕ) (kss : List (List ℕ)) → Rings ws m lo m.points ends kss → (i : ℕ) → lo ≤ i → i < m.points → Starts ws m i
        → against ps l r i (next_at ws m i) ≡ true → crosses ps l r kss ≡ true
    unfolding crosses
    rings_true lo [] [] h i p q s e = absurd (omega arith)
    rings_true lo [] (ks ∷ kss) h i p q s e = absurd h
    rings_true lo (hi ∷ ends) [] h i p q s e = absurd h
    rings_true lo (hi ∷ ends) (ks ∷ kss) h i p q s e = go (dec_lt i hi) (λ w. rings_true hi ends kss h.1 i w q s e)
      where
        go : Dec (i < hi) → (hi ≤ i → crosses ps l r kss ≡ true) → (against_ring ps l r ks || crosses ps l r kss) ≡ true
        go (yes w) rec = rw (ring_true 0 ks i (next_at ws m i) (ring_up h.0) (is_next h.0 (in_ring h.0 i p w s.kept) s.ahead) e)
        go (no w) rec = rw (rec (omega arith)) (or-true (against_ring ps l r ks))

    pub rings_false : (lo : ℕ) (ends : List ℕ) (kss : List (List ℕ)) → Rings ws m lo m.points ends kss
        → ((i : ℕ) → i < m.points → Starts ws m i → against ps l r i (next_at ws m i) ≡ false) → crosses ps l r kss ≡ false
    unfolding crosses
    rings_false lo [] [] h f = refl
    rings_false lo [] (ks ∷ kss) h f = absurd h
    rings_false lo (hi ∷ ends) [] h f = absurd h
    rings_false lo (hi ∷ ends) (ks ∷ kss) h f = rw (ring_false 0 ks (ring_up h.0) one) (rings_false hi ends kss h.1 f)
      where
        one : (a b : ℕ) → Then ks a b → against ps l r a b ≡ false
        one a b t =
            let e : next_at ws m a ≡ b = next_is h.0 t in
            ap (against ps l r a) (sym e)
            ∙ f a (ring_below h.0 a t.from) (record { kept = (ring_in h.0 a t.from).clear; ahead = omega (arith, ring_below h.0 b t.to) })

  -- the order of the rings does not matter
  pub cross_order : (done : List (List ℕ)) (ks : List ℕ) (kss : List (List ℕ)) → crosses ps l r (done ++ (ks ∷ kss)) ≡ crosses ps l r (ks ∷ (done ++ kss))
  unfolding crosses
  cross_order [] ks kss = refl
  cross_order (js ∷ done) ks kss = rw (cross_order done ks kss) (swap (against_ring ps l r js) (against_ring ps l r ks) (crosses ps l r (done ++ kss)))
    where
      swap : (a b c : Bool) → (a || (b || c)) ≡ (b || (a || c))
      swap true true c = refl
      swap true false c = refl
      swap false b c = refl

-- ---- one segment

-- point i stands at u, v
abbrev pub Stands : Layout → (us vs : List Float) → ℕ → (u v : Float) → Type 0
Stands m us vs i u v = (u ≡ from us m.x i) × (v ≡ from vs m.y i)

pub against_at : (m : Layout) (us vs : List Float) (i j l r : ℕ) {ax ay bx by lx ly rx ry : Float} {c : Bool} → Stands m us vs i ax ay → Stands m us vs j bx by
    → Stands m us vs l lx ly → Stands m us vs r rx ry → AgainstIs ax ay bx by lx ly rx ry c → AgainstAt m us vs i j l r c
against_at m us vs i j l r a b d e h = rw (a.0, a.1, b.0, b.1, d.0, d.1, e.0, e.1) at h

-- a present segment starts at point i and ends at j
module _ (m : Layout) (us vs : List Float) (ws : List ℕ) (l r : ℕ) (hl : l < m.points) (hr : r < m.points) {i j : ℕ} (hi : i < m.points)
    (s : Starts ws m i) (e : j ≡ next_at ws m i) {c : Bool} (h : AgainstAt m us vs i j l r c) where
  pub against_as : (ps : List Point) → PlacedIn us vs m ps → against ps l r i (next_at ws m i) ≡ c
  unfolding against
  against_as ps p =
      let w : j < m.points = omega (arith, e, s.ahead) in
      ap (against ps l r i) (sym e) ∙ (λ k. opposed (p.is i hi k) (p.is j w k) (p.is l hl k) (p.is r hr k))
      ∙ sym (h (p.on i hi) (p.on j w) (p.on l hl) (p.on r hr))

  pub against_crosses : c ≡ true → Crosses m us vs ws l r
  against_crosses z ps ends kss p rs = rings_true ps l r ws m 0 ends kss rs i (omega arith) hi s (against_as ps p ∙ z)
