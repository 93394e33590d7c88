-- What `least` finds, whatever the candidates are ranked by: the one that no other is before. Assumes nothing.
--     least_first             no candidate is before what `least` finds
--     least_is                a candidate that no other is before is what `least` finds
--     next_some, next_none    so: the next removal of the plain rule, and that there is none
use mathlib.Core.Path.{◌≡◌, refl, sym, ap, ◌∙◌, subst}
use mathlib.Core.Logic.{◌⊎◌, inl, inr}
use mathlib.Core.Bool.{Bool, true, false, cond, ◌&&◌, ◌||◌, true≢false, false≢true}
use mathlib.Core.List.{List, [], ◌∷◌, ◌++◌, tail-eq_of_cons-eq}
use mathlib.Core.Option.{Option, none, some}
use Prim.Native.Nat.{ℕ, suc, ◌≤◌, ◌<◌}
use native.Mathlib.Omega.{arith}
use lib.Dec.{ltb, eqb}
use lib.ListN.{length}
use lib.Ieee.{Float}
use borrow.Author.Tests.{eqb-true, eqb-false, ltb-true, ltb-false, le-ltb}
use Rattle.rule.specs.Grid.{Point, within}
use Rattle.rule.specs.Plain.{Candidate, before, better, least, area_at, at_most, next}
use Rattle.laws.proofs.Removals.{Given, given_map, Mid, least_mid, mid_length}
use Rattle.laws.proofs.Kept.{Up, mid_between}

-- ---- the order of candidates

-- a is not before b
record After (a b : Candidate) : Type 0 where
  score : b.score ≤ a.score
  current : a.score ≡ b.score → b.current ≤ a.current

not_before : (a b : Candidate) → before a b ≡ false → After a b
unfolding before
not_before a b e = go (ltb a.score b.score) refl (eqb a.score b.score) refl (ltb a.current b.current) refl e
  where
    go : (x : Bool) → ltb a.score b.score ≡ x → (y : Bool) → eqb a.score b.score ≡ y → (z : Bool) → ltb a.current b.current ≡ z
        → (x || (y && z)) ≡ false → After a b
    go true ex y ey z ez h = absurd (true≢false h)
    go false ex true ey true ez h = absurd (true≢false h)
    go false ex true ey false ez h = record { score = ltb-false a.score b.score ex; current = λ q. ltb-false a.current b.current ez }
    go false ex false ey z ez h = record { score = ltb-false a.score b.score ex; current = λ q. absurd (eqb-false a.score b.score ey q) }

after : (a b : Candidate) → After a b → before a b ≡ false
unfolding before
after a b h = go (eqb a.score b.score) refl
  where
    go : (y : Bool) → eqb a.score b.score ≡ y → (ltb a.score b.score || (y && ltb a.current b.current)) ≡ false
    go true ey = rw (le-ltb a.score b.score h.score, le-ltb a.current b.current (h.current (eqb-true a.score b.score ey)))
    go false ey = rw (le-ltb a.score b.score h.score)

is_before : (a b : Candidate) → before a b ≡ true → After b a
unfolding before
is_before a b e = go (ltb a.score b.score) refl (eqb a.score b.score) refl (ltb a.current b.current) refl e
  where
    go : (x : Bool) → ltb a.score b.score ≡ x → (y : Bool) → eqb a.score b.score ≡ y → (z : Bool) → ltb a.current b.current ≡ z
        → (x || (y && z)) ≡ true → After b a
    go true ex y ey z ez h = let l = ltb-true a.score b.score ex in record { score = omega arith; current = λ q. absurd (omega arith) }
    go false ex true ey true ez h =
        let s = eqb-true a.score b.score ey in
        let l = ltb-true a.current b.current ez in
        record { score = omega arith; current = λ q. omega arith }
    go false ex true ey false ez h = absurd (false≢true h)
    go false ex false ey z ez h = absurd (false≢true h)

after_trans : (a b c : Candidate) → After a b → After b c → After a c
after_trans a b c f g = record { score = omega (arith, f.score, g.score); current = tie }
  where
    tie : a.score ≡ c.score → c.current ≤ a.current
    tie q = let h : b.score ≡ c.score = omega (arith, f.score, g.score) in omega (arith, f.current (q ∙ sym h), g.current h)

after_self : (a : Candidate) → After a a
after_self a = record { score = omega arith; current = λ q. omega arith }

after_both : (a b : Candidate) → After a b → After b a → a.current ≡ b.current
after_both a b f g = let h : a.score ≡ b.score = omega (arith, f.score, g.score) in omega (arith, f.current h, g.current (sym h))

-- ---- candidates of a list: the first three, or those further on

module _ (f : ℕ → ℕ → ℕ → ℕ) where
  abbrev three : ℕ → ℕ → ℕ → Candidate
  three a b c = record { left = a; current = b; right = c; score = f a b c }

  mid_cases : (a b c : ℕ) (ks : List ℕ) (d : Candidate) → Mid f (a ∷ b ∷ c ∷ ks) d → (d ≡ three a b c) ⊎ Mid f (b ∷ c ∷ ks) d
  mid_cases a b c ks d m = go m.pre m.split
    where
      go : (pre : List ℕ) → a ∷ b ∷ c ∷ ks ≡ pre ++ (d.left ∷ d.current ∷ d.right ∷ m.post) → (d ≡ three a b c) ⊎ Mid f (b ∷ c ∷ ks) d
      go [] e =
          let l : d.left ≡ a = cc in
          let k : d.current ≡ b = cc in
          let r : d.right ≡ c = cc in
          inl (λ i. record { left = l i; current = k i; right = r i; score = (m.scored ∙ (λ j. f (l j) (k j) (r j))) i })
      go (x ∷ pre) e = inr (record { pre = pre; post = m.post; split = tail-eq_of_cons-eq e; scored = m.scored })

  -- two candidates with one current point are one
  mid_unique : (n : ℕ) (ks : List ℕ) (c d : Candidate) → Up n ks → Mid f ks c → Mid f ks d → c.current ≡ d.current → c ≡ d
  mid_unique n [] c d u p q e = absurd (omega (arith, mid_length p))
  mid_unique n (x ∷ []) c d u p q e = absurd (omega (arith, mid_length p))
  mid_unique n (x ∷ y ∷ []) c d u p q e = absurd (omega (arith, mid_length p))
  mid_unique n (x ∷ y ∷ z ∷ ks) c d u p q e =
      go (mid_cases x y z ks c p) (mid_cases x y z ks d q) (λ g h. mid_unique (suc x) (y ∷ z ∷ ks) c d u.1 g h e)
    where
      past : (w : Candidate) → Mid f (y ∷ z ∷ ks) w → y < w.current
      past w m = let s = mid_between y (y ∷ z ∷ ks) (omega arith, u.1.1) m in omega (arith, s.lower, s.from_left)

      go : (c ≡ three x y z) ⊎ Mid f (y ∷ z ∷ ks) c → (d ≡ three x y z) ⊎ Mid f (y ∷ z ∷ ks) d
          → (Mid f (y ∷ z ∷ ks) c → Mid f (y ∷ z ∷ ks) d → c ≡ d) → c ≡ d
      go (inl g) (inl h) r = g ∙ sym h
      go (inl g) (inr h) r = absurd (omega (arith, past d h, ap (λ (w : Candidate). w.current) g))
      go (inr g) (inl h) r = absurd (omega (arith, past c g, ap (λ (w : Candidate). w.current) h))
      go (inr g) (inr h) r = r g h

  -- ---- the least

  long_some : (ks : List ℕ) → 3 ≤ length ks → least f ks ≡ none → ⊥
  unfolding least
  long_some [] h e = omega arith
  long_some (a ∷ []) h e = omega arith
  long_some (a ∷ b ∷ []) h e = omega arith
  long_some (a ∷ b ∷ c ∷ ks) h e = let z : ◌≡◌ {A = ℕ} 0 1 = cc in omega arith

  least_after : (ks : List ℕ) → Given (λ c. (d : Candidate) → Mid f ks d → After d c) (least f ks)
  unfolding least
  least_after [] = tt
  least_after (a ∷ []) = tt
  least_after (a ∷ b ∷ []) = tt
  least_after (a ∷ b ∷ c ∷ ks) = λ d m. go (least f (b ∷ c ∷ ks)) refl (least_after (b ∷ c ∷ ks)) d (mid_cases a b c ks d m)
    where
      x : Candidate
      x = three a b c

      pick : (y : Candidate) → ((d : Candidate) → Mid f (b ∷ c ∷ ks) d → After d y)
          → (d : Candidate) → (d ≡ x) ⊎ Mid f (b ∷ c ∷ ks) d → (z : Bool) → before y x ≡ z → After d (cond z y x)
      pick y g d (inl e) true h = subst (λ (w : Candidate). After w y) (sym e) (is_before y x h)
      pick y g d (inl e) false h = subst (λ (w : Candidate). After w x) (sym e) (after_self x)
      pick y g d (inr m) true h = g d m
      pick y g d (inr m) false h = after_trans d y x (g d m) (not_before y x h)

      go : (o : Option Candidate) → least f (b ∷ c ∷ ks) ≡ o → Given (λ y. (d : Candidate) → Mid f (b ∷ c ∷ ks) d → After d y) o
          → (d : Candidate) → (d ≡ x) ⊎ Mid f (b ∷ c ∷ ks) d → After d (better x o)
      go none e g d (inl h) = unfold better in subst (λ (w : Candidate). After w x) (sym h) (after_self x)
      go none e g d (inr m) = absurd (long_some (b ∷ c ∷ ks) (mid_length m) e)
      go (some y) e g d w = unfold better in pick y g d w (before y x) refl

  -- no candidate is before it
  abbrev pub First : List ℕ → Candidate → Type 0
  First ks c = (d : Candidate) → Mid f ks d → before d c ≡ false

  pub least_first : (ks : List ℕ) → Given (First ks) (least f ks)
  least_first ks = given_map (λ c. (d : Candidate) → Mid f ks d → After d c) (First ks) (least f ks) (λ c h d m. after d c (h d m)) (least_after ks)

  -- A candidate that no other is before is what `least` finds.
  pub least_is : (ks : List ℕ) (c : Candidate) → Up 0 ks → Mid f ks c → First ks c → least f ks ≡ some c
  least_is ks c u m h = go (least f ks) refl (least_mid f ks) (least_after ks)
    where
      go : (o : Option Candidate) → least f ks ≡ o → Given (Mid f ks) o → Given (λ y. (d : Candidate) → Mid f ks d → After d y) o → o ≡ some c
      go none e g k = absurd (long_some ks (mid_length m) e)
      go (some y) e g k = ap some (mid_unique 0 ks y c u g m (after_both y c (not_before y c (h y g)) (k c m)))

-- ---- the next removal

module _ (ps : List Point) (t : Float) (ks : List ℕ) (c : Candidate) (u : Up 0 ks) (m : Mid (area_at ps) ks c) (h : First (area_at ps) ks c) where
  -- the first candidate, if its area is at most the tolerance;
  pub next_some : within c.score t ≡ true → next ps t ks ≡ some c
  unfolding next at_most
  next_some w = rw (least_is (area_at ps) ks c u m h, at_most, w)

  -- none, if it is greater
  pub next_none : within c.score t ≡ false → next ps t ks ≡ none
  unfolding next at_most
  next_none w = rw (least_is (area_at ps) ks c u m h, at_most, w)
