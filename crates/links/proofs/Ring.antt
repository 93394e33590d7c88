-- A ring's links: what they say of its kept points, which scores are live, and a point taken out. Assumes nothing.
use mathlib.Core.Path.{◌≡◌, sym, ap, ◌∙◌, subst}
use mathlib.Core.List.{List}
use mathlib.Core.Logic.{◌⊎◌, inl, inr, ⊎_elim}
use Prim.Native.Nat.{ℕ, ◌+◌, ◌-◌, ◌≤◌, ◌<◌}
use native.Mathlib.Decide.{ℕ_discrete}
use native.Mathlib.Omega.{arith}
use Rattle.rule.specs.Plain.{without}
use Rattle.laws.proofs.Kept.{Up, up_from}
use Rattle.vscore.specs.declared.VScore.{VScore}
use Rattle.links.specs.Ring.{kept_from, In, Then, Triple, Linked, Alive}
use Rattle.links.proofs.Neighbours.{next_unique, previous_unique, in_old, not_in, then_keep, bridge}
use Rattle.links.proofs.Marks.{Unmarked, kept_in, in_kept, kept_up, kept_same, kept_without}

module _ {previous next mark : ℕ → ℕ} {lo hi n : ℕ} {ks : List ℕ} (h : Linked previous next mark lo hi n ks) where
  size : lo + (hi - lo) ≡ hi
  size = omega (arith, h.from)

  -- ---- the kept points

  pub ring_in : (i : ℕ) → In ks i → Unmarked mark lo hi i
  ring_in i g = subst (λ (k : ℕ). Unmarked mark lo k i) size (kept_in mark lo (hi - lo) i (subst (λ (l : List ℕ). In l i) h.kept g))

  pub in_ring : (i : ℕ) → lo ≤ i → i < hi → mark i ≡ 0 → In ks i
  in_ring i p q e = subst (λ (l : List ℕ). In l i) (sym h.kept) (in_kept mark lo (hi - lo) i p (omega (arith, h.from)) e)

  pub ring_below : (i : ℕ) → In ks i → i < n
  ring_below i g = omega (arith, (ring_in i g).high, h.to)

  pub ring_up : Up 0 ks
  ring_up = subst (Up 0) (sym h.kept) (up_from 0 lo (kept_from mark lo (hi - lo)) (omega arith) (kept_up mark lo (hi - lo)))

  -- ---- their links

  pub previous_is : {a b : ℕ} → Then ks a b → previous b ≡ a
  previous_is {a} {b} t = ⊎_elim (λ w. absurd (w.1 a t.up t.from)) (λ v. previous_unique v t) (h.before b t.to)

  pub next_is : {a b : ℕ} → Then ks a b → next a ≡ b
  next_is {a} {b} t = ⊎_elim (λ w. absurd (w.1 b t.up t.to)) (λ v. next_unique v t) (h.after a t.from)

  pub is_previous : {i : ℕ} → In ks i → previous i < n → Then ks (previous i) i
  is_previous {i} g l = ⊎_elim (λ w. absurd (omega (arith, w.0))) (λ v. v) (h.before i g)

  pub is_next : {i : ℕ} → In ks i → next i < n → Then ks i (next i)
  is_next {i} g l = ⊎_elim (λ w. absurd (omega (arith, w.0))) (λ v. v) (h.after i g)

  -- ---- live scores are those of kept points between their neighbours

  pub alive_triple : {s : VScore} → lo ≤ s.current → s.current < hi → Alive previous next mark n s → Triple ks s.left s.current s.right
  alive_triple {s} p q a = record {
    low = subst (λ (x : ℕ). Then ks x s.current) a.behind (is_previous here (omega (arith, a.behind, a.left)));
    high = subst (Then ks s.current) a.ahead (is_next here (omega (arith, a.ahead, a.right)));
  }
    where
      here : In ks s.current
      here = in_ring s.current p q a.unmarked

  pub triple_alive : {s : VScore} → Triple ks s.left s.current s.right → Alive previous next mark n s
  triple_alive {s} t = record {
    left = ring_below s.left t.low.from;
    current = ring_below s.current t.low.to;
    right = ring_below s.right t.high.to;
    unmarked = (ring_in s.current t.low.to).clear;
    behind = previous_is t.low;
    ahead = next_is t.high;
  }

  -- ---- other links

  module _ {previous' next' mark' : ℕ → ℕ} where
    -- the same at the ring's own points
    pub linked_same : ((i : ℕ) → lo ≤ i → i < hi → (previous' i ≡ previous i) × (next' i ≡ next i) × (mark' i ≡ mark i)) → Linked previous' next' mark' lo hi n ks
    linked_same e = record {
      from = h.from;
      to = h.to;
      kept = h.kept ∙ sym (kept_same mark mark' lo (hi - lo) (λ i p q. (e i p (omega (arith, size))).2));
      before = λ i g. ⊎_elim (λ w. inl ((here i g).0 ∙ w.0, w.1)) (λ t. inr (subst (λ (x : ℕ). Then ks x i) (sym (here i g).0) t)) (h.before i g);
      after = λ i g. ⊎_elim (λ w. inl ((here i g).1 ∙ w.0, w.1)) (λ t. inr (subst (Then ks i) (sym (here i g).1) t)) (h.after i g);
    }
      where
        here : (i : ℕ) → In ks i → (previous' i ≡ previous i) × (next' i ≡ next i) × (mark' i ≡ mark i)
        here i g = let u = ring_in i g in e i u.low u.high

    -- as they must be once c is taken out
    module _ (l c r : ℕ) (v : Triple ks l c r)
        (pr : previous' r ≡ l) (po : (i : ℕ) → i < n → (i ≡ r → ⊥) → previous' i ≡ previous i)
        (nl : next' l ≡ r) (no' : (i : ℕ) → i < n → (i ≡ l → ⊥) → next' i ≡ next i)
        (mc : mark' c ≡ 1) (mo : (i : ℕ) → i < n → (i ≡ c → ⊥) → mark' i ≡ mark i) where
      in_c : Unmarked mark lo hi c
      in_c = ring_in c v.low.to

      old : (i : ℕ) → In (without c ks) i → In ks i
      old = in_old c ks

      other : (i : ℕ) → In (without c ks) i → i ≡ c → ⊥
      other = not_in 0 c ks ring_up

      new : Then (without c ks) l r
      new = bridge c ks 0 ring_up l r v

      bef : (i : ℕ) → In (without c ks) i → Dec (i ≡ r)
          → ((previous' i ≡ n) × ((k : ℕ) → k < i → In (without c ks) k → ⊥)) ⊎ Then (without c ks) (previous' i) i
      bef i g (yes z) = inr (subst (λ (x : ℕ). Then (without c ks) x i) (sym (ap previous' z ∙ pr)) (subst (Then (without c ks) l) (sym z) new))
      bef i g (no ne) =
          let e = po i (ring_below i (old i g)) ne in
          ⊎_elim (λ w. inl (e ∙ w.0, λ k p q. w.1 k p (old k q)))
          (λ t. inr (subst (λ (x : ℕ). Then (without c ks) x i) (sym e)
          (then_keep c ks (previous i) i (λ z. ne (next_unique (subst (λ (x : ℕ). Then ks x i) z t) v.high)) (other i g) t)))
          (h.before i (old i g))

      aft : (i : ℕ) → In (without c ks) i → Dec (i ≡ l)
          → ((next' i ≡ n) × ((k : ℕ) → i < k → In (without c ks) k → ⊥)) ⊎ Then (without c ks) i (next' i)
      aft i g (yes z) = inr (subst (Then (without c ks) i) (sym (ap next' z ∙ nl)) (subst (λ (x : ℕ). Then (without c ks) x r) (sym z) new))
      aft i g (no ne) =
          let e = no' i (ring_below i (old i g)) ne in
          ⊎_elim (λ w. inl (e ∙ w.0, λ k p q. w.1 k p (old k q)))
          (λ t. inr (subst (Then (without c ks) i) (sym e)
          (then_keep c ks i (next i) (other i g) (λ z. ne (previous_unique (subst (Then ks i) z t) v.low)) t)))
          (h.after i (old i g))

      pub taken_out : Linked previous' next' mark' lo hi n (without c ks)
      taken_out = record {
        from = h.from;
        to = h.to;
        kept = ap (without c) h.kept
            ∙ sym (kept_without mark mark' c in_c.clear (λ z. omega (arith, mc)) lo (hi - lo) in_c.low (omega (arith, in_c.high, size))
            (λ i p q ne. mo i (omega (arith, size, h.to)) ne));
        before = λ i g. bef i g (ℕ_discrete i r);
        after = λ i g. aft i g (ℕ_discrete i l);
      }
