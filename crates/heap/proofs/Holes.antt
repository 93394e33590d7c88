-- The heap order but for one place, over any order and any size: the hole moves up or down, and a value comes to rest in it. Assumes nothing.
use mathlib.Core.Path.{◌≡◌, sym, ap, subst}
use Prim.Native.Nat.{ℕ, suc, ◌<◌}
use native.Mathlib.Omega.{arith}
use Rattle.heap.specs.Order.{parent, upd, HeapBy}
use Rattle.heap.proofs.Places.{upd_by}

module _ {A : Type 0} (le : A → A → Type 0) where
  -- the first n places are in order, if j is passed over
  pub record Hole (n : ℕ) (h : ℕ → A) (j : ℕ) : Type 0 where
    pub order : (k : ℕ) → 0 < k → k < n → (k ≡ j → ⊥) → (parent k ≡ j → ⊥) → le (h (parent k)) (h k)
    pub skip : (k : ℕ) → 0 < k → k < n → parent k ≡ j → 0 < j → le (h (parent j)) (h k)

  -- a is not after what is below j
  abbrev pub Above : ℕ → (ℕ → A) → ℕ → A → Type 0
  Above n h j a = (k : ℕ) → 0 < k → k < n → parent k ≡ j → le a (h k)

  -- a is not before what is above j
  abbrev pub Below : (ℕ → A) → ℕ → A → Type 0
  Below h j a = 0 < j → le (h (parent j)) a

  -- a comes to rest at j
  pub rest : (n : ℕ) (h : ℕ → A) (j : ℕ) (a : A) → Hole n h j → Above n h j a → Below h j a → HeapBy le n (upd h j a)
  rest n h j a o above below k p l =
      upd_by (le (upd h j a (parent k))) h j a k
      (λ e. upd_by (λ (x : A). le x a) h j a (parent k) (λ z. absurd (omega arith)) (λ ne. subst (λ (i : ℕ). le (h (parent i)) a) (sym e) (below (omega arith))))
      (λ ne. upd_by (λ (x : A). le x (h k)) h j a (parent k) (above k p l) (o.order k p l ne))

  -- ---- up: the value above j goes down to j
  module _ (trans : (a b c : A) → le a b → le b c → le a c) (n : ℕ) (h : ℕ → A) (j : ℕ) (p : 0 < j) (l : j < n) (o : Hole n h j) where
    -- what stands beside j is not before what is above both
    beside : (k : ℕ) → 0 < k → k < n → (k ≡ j → ⊥) → parent k ≡ parent j → le (h (parent j)) (h k)
    beside k kp kl ne e = subst (λ (i : ℕ). le (h i) (h k)) e (o.order k kp kl ne (λ z. omega arith))

    pub up_hole : Hole n (upd h j (h (parent j))) (parent j)
    up_hole = record {
      order = λ k kp kl k≢ p≢. upd_by (le (upd h j (h (parent j)) (parent k))) h j (h (parent j)) k (λ e. absurd (p≢ (ap parent e)))
          (λ ne. upd_by (λ (x : A). le x (h k)) h j (h (parent j)) (parent k) (λ e. o.skip k kp kl e p) (o.order k kp kl ne));
      skip = λ k kp kl e pp.
          let two = parent (parent j) in
          let above : le (h two) (h (parent j)) = o.order (parent j) pp (omega arith) (λ z. omega arith) (λ z. omega arith) in
          upd_by (λ (x : A). le x (upd h j (h (parent j)) k)) h j (h (parent j)) two (λ z. absurd (omega arith))
          (λ far. upd_by (le (h two)) h j (h (parent j)) k (λ z. above) (λ ne. trans (h two) (h (parent j)) (h k) above (beside k kp kl ne e)));
    }

    pub up_above : (a : A) → le a (h (parent j)) → Above n (upd h j (h (parent j))) (parent j) a
    up_above a under k kp kl e = upd_by (le a) h j (h (parent j)) k (λ z. under) (λ ne. trans a (h (parent j)) (h k) under (beside k kp kl ne e))

  -- ---- down: the first of the values below j, at i, goes up to j
  pub down_hole : (n : ℕ) (h : ℕ → A) (j i : ℕ) → 0 < i → i < n → parent i ≡ j → Above n h j (h i) → Hole n h j → Hole n (upd h j (h i)) i
  down_hole n h j i ip il pi above o = record {
    order = λ k kp kl k≢ p≢. upd_by (le (upd h j (h i) (parent k))) h j (h i) k
        (λ e. upd_by (λ (x : A). le x (h i)) h j (h i) (parent k) (λ z. absurd (omega arith))
        (λ ne. subst (λ (x : ℕ). le (h (parent x)) (h i)) (sym e) (o.skip i ip il pi (omega arith))))
        (λ ne. upd_by (λ (x : A). le x (h k)) h j (h i) (parent k) (above k kp kl) (o.order k kp kl ne));
    skip = λ k kp kl e p. upd_by (λ (x : A). le x (upd h j (h i) k)) h j (h i) (parent i)
        (λ z. upd_by (le (h i)) h j (h i) k (λ z. absurd (omega arith))
        (λ ne. subst (λ (x : ℕ). le (h x) (h k)) e (o.order k kp kl ne (λ z. omega arith))))
        (λ ne. absurd (ne pi));
  }

  pub down_below : (h : ℕ → A) (j i : ℕ) (a : A) → parent i ≡ j → le (h i) a → Below (upd h j (h i)) i a
  down_below h j i a pi under p = upd_by (λ (x : A). le x a) h j (h i) (parent i) (λ e. under) (λ ne. absurd (ne pi))

  -- ---- a hole behind the last place, and one at the root
  pub last_hole : (n : ℕ) (h : ℕ → A) → HeapBy le n h → Hole (suc n) h n
  last_hole n h o = record { order = λ k p l n1 n2. o k p (omega (arith, n1)); skip = λ k p l e q. absurd (omega arith) }

  pub last_above : (n : ℕ) (h : ℕ → A) (a : A) → Above (suc n) h n a
  last_above n h a k p l e = absurd (omega arith)

  pub first_hole : (n : ℕ) (h : ℕ → A) → HeapBy le (suc n) h → Hole n h 0
  first_hole n h o = record { order = λ k p l n1 n2. o k p (omega arith); skip = λ k p l e q. absurd (omega arith) }
