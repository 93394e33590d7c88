-- Membership in a list of kept points, and which comes right after which: in the list, and once one is taken out. Assumes nothing.
use mathlib.Core.Path.{◌≡◌, refl, sym, ◌∙◌, subst}
use mathlib.Core.Bool.{Bool, true, false, cond, ◌||◌, false≢true}
use mathlib.Core.List.{List, [], ◌∷◌}
use mathlib.Core.Logic.{◌⊎◌, inl, inr, ⊎_elim}
use Prim.Native.Nat.{ℕ, suc, ◌≤◌, ◌<◌}
use native.Mathlib.Decide.{ℕ_discrete, dec_lt}
use native.Mathlib.Omega.{arith}
use lib.Dec.{eqb}
use borrow.Author.Tests.{eqb-true, eqb-false, eq-eqb}
use Rattle.rule.specs.Plain.{without}
use Rattle.rule.specs.Preserve.{member}
use Rattle.laws.proofs.Kept.{Up}
use Rattle.links.specs.Ring.{In, Then, Triple}

-- ---- membership

pub in_none : (i : ℕ) → In [] i → ⊥
unfolding member
in_none i h = false≢true h

pub in_head : (x : ℕ) (ks : List ℕ) → In (x ∷ ks) x
unfolding member
in_head x ks = rw (eq-eqb x x refl)

pub in_tail : (x : ℕ) (ks : List ℕ) (i : ℕ) → In ks i → In (x ∷ ks) i
unfolding member
in_tail x ks i h = go (eqb i x)
  where
    go : (b : Bool) → (b || member i ks) ≡ true
    go true = refl
    go false = h

pub in_cons : (x : ℕ) (ks : List ℕ) (i : ℕ) → In (x ∷ ks) i → (i ≡ x) ⊎ In ks i
unfolding member
in_cons x ks i h = go (eqb i x) refl h
  where
    go : (b : Bool) → eqb i x ≡ b → (b || member i ks) ≡ true → (i ≡ x) ⊎ In ks i
    go true e h = inl (eqb-true i x e)
    go false e h = inr h

pub in_from : (n : ℕ) (ks : List ℕ) (i : ℕ) → Up n ks → In ks i → n ≤ i
in_from n [] i u h = absurd (in_none i h)
in_from n (x ∷ ks) i u h = ⊎_elim (λ e. omega (arith, u.0)) (λ g. omega (arith, u.0, in_from (suc x) ks i u.1 g)) (in_cons x ks i h)

-- ---- neighbours are unique

pub next_unique : {ks : List ℕ} {a b c : ℕ} → Then ks a b → Then ks a c → b ≡ c
next_unique {ks} {a} {b} {c} s t = go (dec_lt b c) (dec_lt c b)
  where
    go : Dec (b < c) → Dec (c < b) → b ≡ c
    go (yes h) w = absurd (t.none b s.up h s.to)
    go (no h) (yes g) = absurd (s.none c t.up g t.to)
    go (no h) (no g) = omega arith

pub previous_unique : {ks : List ℕ} {a b c : ℕ} → Then ks a c → Then ks b c → a ≡ b
previous_unique {ks} {a} {b} {c} s t = go (dec_lt a b) (dec_lt b a)
  where
    go : Dec (a < b) → Dec (b < a) → a ≡ b
    go (yes h) w = absurd (s.none b h t.up t.from)
    go (no h) (yes g) = absurd (t.none a g s.up s.from)
    go (no h) (no g) = omega arith

-- ---- in the list

pub then_first : (n a b : ℕ) (ks : List ℕ) → Up n (a ∷ b ∷ ks) → Then (a ∷ b ∷ ks) a b
then_first n a b ks u = record {
  from = in_head a (b ∷ ks);
  to = in_tail a (b ∷ ks) b (in_head b ks);
  up = u.1.0;
  none = λ k p q h. ⊎_elim (λ e. omega arith) (λ g. omega (arith, in_from b (b ∷ ks) k (omega arith, u.1.1) g)) (in_cons a (b ∷ ks) k h);
}

pub then_further : (n x : ℕ) (ks : List ℕ) (a b : ℕ) → Up n (x ∷ ks) → Then ks a b → Then (x ∷ ks) a b
then_further n x ks a b u t = record {
  from = in_tail x ks a t.from;
  to = in_tail x ks b t.to;
  up = t.up;
  none = λ k p q h. ⊎_elim (λ e. omega (arith, in_from (suc x) ks a u.1 t.from)) (t.none k p q) (in_cons x ks k h);
}

pub then_back : (n x : ℕ) (ks : List ℕ) (a b : ℕ) → Up n (x ∷ ks) → In ks a → Then (x ∷ ks) a b → Then ks a b
then_back n x ks a b u h t = record {
  from = h;
  to = ⊎_elim (λ e. absurd (omega (arith, in_from (suc x) ks a u.1 h, t.up))) (λ g. g) (in_cons x ks b t.to);
  up = t.up;
  none = λ k p q g. t.none k p q (in_tail x ks k g);
}

-- ---- one taken out

pub in_old : (c : ℕ) (ks : List ℕ) (i : ℕ) → In (without c ks) i → In ks i
unfolding without
in_old c [] i h = h
in_old c (k ∷ ks) i h = go (eqb c k) h (in_old c ks i)
  where
    go : (b : Bool) → In (cond b ks (k ∷ without c ks)) i → (In (without c ks) i → In ks i) → In (k ∷ ks) i
    go true h r = in_tail k ks i h
    go false h r = ⊎_elim (λ e. subst (In (k ∷ ks)) (sym e) (in_head k ks)) (λ g. in_tail k ks i (r g)) (in_cons k (without c ks) i h)

pub in_new : (c : ℕ) (ks : List ℕ) (i : ℕ) → (i ≡ c → ⊥) → In ks i → In (without c ks) i
unfolding without
in_new c [] i ne h = h
in_new c (k ∷ ks) i ne h = go (eqb c k) refl (in_cons k ks i h) (in_new c ks i ne)
  where
    go : (b : Bool) → eqb c k ≡ b → (i ≡ k) ⊎ In ks i → (In ks i → In (without c ks) i) → In (cond b ks (k ∷ without c ks)) i
    go true e (inl z) r = absurd (ne (z ∙ sym (eqb-true c k e)))
    go true e (inr g) r = g
    go false e (inl z) r = subst (In (k ∷ without c ks)) (sym z) (in_head k (without c ks))
    go false e (inr g) r = in_tail k (without c ks) i (r g)

pub not_in : (n c : ℕ) (ks : List ℕ) → Up n ks → (i : ℕ) → In (without c ks) i → i ≡ c → ⊥
unfolding without
not_in n c [] u i h z = in_none i h
not_in n c (k ∷ ks) u i h z = go (eqb c k) refl h (λ g. not_in (suc k) c ks u.1 i g z)
  where
    go : (b : Bool) → eqb c k ≡ b → In (cond b ks (k ∷ without c ks)) i → (In (without c ks) i → ⊥) → ⊥
    go true e h r = omega (arith, eqb-true c k e, in_from (suc k) ks i u.1 h)
    go false e h r = ⊎_elim (λ y. eqb-false c k e (sym z ∙ y)) r (in_cons k (without c ks) i h)

module _ (c : ℕ) (ks : List ℕ) where
  pub then_keep : (a b : ℕ) → (a ≡ c → ⊥) → (b ≡ c → ⊥) → Then ks a b → Then (without c ks) a b
  then_keep a b na nb t =
      record { from = in_new c ks a na t.from; to = in_new c ks b nb t.to; up = t.up; none = λ k p q g. t.none k p q (in_old c ks k g) }

  -- its neighbours become each other's
  module _ (n : ℕ) (u : Up n ks) (l r : ℕ) (v : Triple ks l c r) where
    left_stays : In (without c ks) l
    left_stays = in_new c ks l (λ e. omega (arith, v.low.up)) v.low.from

    right_stays : In (without c ks) r
    right_stays = in_new c ks r (λ e. omega (arith, v.high.up)) v.high.to

    pub bridge : Then (without c ks) l r
    bridge = record {
      from = left_stays;
      to = right_stays;
      up = omega (arith, v.low.up, v.high.up);
      none = λ k p q g. go k p q (in_old c ks k g) (not_in n c ks u k g) (dec_lt k c);
    }
      where
        go : (k : ℕ) → l < k → k < r → In ks k → (k ≡ c → ⊥) → Dec (k < c) → ⊥
        go k p q g ne (yes w) = v.low.none k p w g
        go k p q g ne (no w) = v.high.none k (omega (arith, ne)) q g

    -- and nothing else changes: what comes right after what did so before, or it is r after l
    pub then_old : (a b : ℕ) → Then (without c ks) a b → Then ks a b ⊎ ((a ≡ l) × (b ≡ r))
    then_old a b t = go (dec_lt a c) (dec_lt c b)
      where
        keep : ((a < c) → (c < b) → ⊥) → Then ks a b
        keep apart = record { from = in_old c ks a t.from; to = in_old c ks b t.to; up = t.up; none = λ k p q g. try k p q g (ℕ_discrete k c) }
          where
            try : (k : ℕ) → a < k → k < b → In ks k → Dec (k ≡ c) → ⊥
            try k p q g (yes e) = apart (omega arith) (omega arith)
            try k p q g (no ne) = t.none k p q (in_new c ks k ne g)

        at_l : (a < c) → (c < b) → Dec (a < l) → Dec (l < a) → a ≡ l
        at_l p q (yes w) z = absurd (t.none l w (omega (arith, v.low.up)) left_stays)
        at_l p q (no w) (yes z) = absurd (v.low.none a z p (in_old c ks a t.from))
        at_l p q (no w) (no z) = omega arith

        at_r : (a < c) → (c < b) → Dec (b < r) → Dec (r < b) → b ≡ r
        at_r p q (yes w) z = absurd (v.high.none b q w (in_old c ks b t.to))
        at_r p q (no w) (yes z) = absurd (t.none r (omega (arith, v.high.up)) z right_stays)
        at_r p q (no w) (no z) = omega arith

        go : Dec (a < c) → Dec (c < b) → Then ks a b ⊎ ((a ≡ l) × (b ≡ r))
        go (yes p) (yes q) = inr (at_l p q (dec_lt a l) (dec_lt l a), at_r p q (dec_lt b r) (dec_lt r b))
        go (yes p) (no q) = inl (keep (λ x y. q y))
        go (no p) w = inl (keep (λ x y. p x))
