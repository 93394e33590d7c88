-- The first places, over any size and any order: how many pass a test, and the heap order, whose root is first. Assumes nothing.
use mathlib.Core.Path.{◌≡◌, refl, sym, ap, subst}
use mathlib.Core.Bool.{Bool, true, false}
use mathlib.Core.Logic.{dite}
use Prim.Native.Nat.{ℕ, zero, suc, ◌+◌, ◌≤◌, ◌<◌}
use native.Mathlib.Decide.{ℕ_discrete}
use native.Mathlib.Omega.{arith}
use Rattle.heap.specs.Order.{parent, HeapBy, tick, count}

-- ---- how many pass a test
module _ {A : Type 0} where
  pub ticks : (q : A → Bool) {a b : A} → a ≡ b → tick (q a) ≡ tick (q b)
  ticks q e = ap (λ (x : A). tick (q x)) e

  pub count_same : (q : A → Bool) (n : ℕ) (g h : ℕ → A) → ((k : ℕ) → k < n → g k ≡ h k) → count q n g ≡ count q n h
  unfolding count
  count_same q zero g h e = refl
  count_same q (suc n) g h e = omega (arith, ticks q (e n (omega arith)), count_same q n g h (λ k l. e k (omega arith)))

  -- a test that some pass is passed at a place
  pub record Passed (q : A → Bool) (n : ℕ) (h : ℕ → A) : Type 0 where
    pub place : ℕ
    pub below : place < n
    pub passes : q (h place) ≡ true

  pub counted : (q : A → Bool) (n : ℕ) (h : ℕ → A) → 0 < count q n h → Passed q n h
  unfolding count
  counted q zero h p = absurd (omega arith)
  counted q (suc n) h p = go (q (h n)) refl p (λ some. counted q n h some)
    where
      go : (b : Bool) → q (h n) ≡ b → 0 < tick b + count q n h → (0 < count q n h → Passed q n h) → Passed q (suc n) h
      go true e p r = record { place = n; below = omega arith; passes = e }
      go false e p r = let w = r (omega arith) in record { place = w.place; below = omega (arith, w.below); passes = w.passes }

-- ---- the heap order
module _ {A : Type 0} (le : A → A → Type 0) where
  pub heap_same : (n : ℕ) (g h : ℕ → A) → ((k : ℕ) → k < n → g k ≡ h k) → HeapBy le n h → HeapBy le n g
  heap_same n g h e o k p l =
      subst (λ (x : A). le x (g k)) (sym (e (parent k) (omega arith))) (subst (le (h (parent k))) (sym (e k l)) (o k p l))

  module _ (self : (a : A) → le a a) (trans : (a b c : A) → le a b → le b c → le a c) (n : ℕ) (h : ℕ → A) (o : HeapBy le n h) where
    -- up to b
    root_to : (b k : ℕ) → k ≤ b → k < n → le (h 0) (h k)
    root_to zero k kb l = subst (λ (i : ℕ). le (h 0) (h i)) (omega arith) (self (h 0))
    root_to (suc b) k kb l =
        dite (ℕ_discrete k 0) (λ e. subst (λ (i : ℕ). le (h 0) (h i)) (sym e) (self (h 0)))
        (λ ne. trans (h 0) (h (parent k)) (h k) (root_to b (parent k) (omega (arith, ne)) (omega (arith, ne))) (o k (omega (arith, ne)) l))

    pub root : (k : ℕ) → k < n → le (h 0) (h k)
    root k l = root_to k k (omega arith) l
