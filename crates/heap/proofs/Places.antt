-- One place set anew, and a value moved to another place: what holds of all, and how many pass a test. Assumes nothing.
use mathlib.Core.Path.{◌≡◌, refl, sym, ap, ◌∙◌, subst}
use mathlib.Core.Bool.{Bool}
use mathlib.Core.Logic.{dite}
use Prim.Native.Nat.{ℕ, zero, suc, ◌+◌, ◌≤◌, ◌<◌}
use native.Mathlib.Decide.{ℕ_discrete}
use native.Mathlib.Omega.{arith}
use borrow.Author.Tests.{eq-eqb, ne_eqb}
use Rattle.heap.specs.Order.{upd, tick, count}
use Rattle.heap.proofs.Order.{ticks, count_same}

module _ {A : Type 0} where
  -- ---- one place set anew
  pub upd_same : (h : ℕ → A) (j : ℕ) (a : A) → upd h j a j ≡ a
  unfolding upd
  upd_same h j a = rw (eq-eqb j j refl)

  pub upd_other : (h : ℕ → A) (j : ℕ) (a : A) (k : ℕ) → (k ≡ j → ⊥) → upd h j a k ≡ h k
  unfolding upd
  upd_other h j a k ne = rw (ne_eqb k j ne)

  -- what holds of a, if k is the place, and of the old value, if not
  pub upd_by : (P : A → Type 0) (h : ℕ → A) (j : ℕ) (a : A) (k : ℕ) → (k ≡ j → P a) → ((k ≡ j → ⊥) → P (h k)) → P (upd h j a k)
  upd_by P h j a k new old =
      dite (ℕ_discrete k j) (λ e. subst P (sym (ap (upd h j a) e ∙ upd_same h j a)) (new e)) (λ ne. subst P (sym (upd_other h j a k ne)) (old ne))

  -- the value of i goes to j, and a to i
  abbrev pub move : (ℕ → A) → ℕ → ℕ → A → ℕ → A
  move h j i a = upd (upd h j (h i)) i a

  -- what holds of all with a at j holds of all with a at i
  pub all_move : (P : A → Type 0) (n : ℕ) (h : ℕ → A) (j i : ℕ) (a : A) → j < n → i < n → (i ≡ j → ⊥)
      → ((k : ℕ) → k < n → P (upd h j a k)) → (k : ℕ) → k < n → P (move h j i a k)
  all_move P n h j i a lj li ne f k l =
      upd_by P (upd h j (h i)) i a k (λ e. subst P (upd_same h j a) (f j lj))
      (λ ki. upd_by P h j (h i) k (λ e. subst P (upd_other h j a i ne) (f i li)) (λ kj. subst P (upd_other h j a k kj) (f k l)))

  -- ---- how many pass a test
  pub count_past : (q : A → Bool) (n : ℕ) (h : ℕ → A) (j : ℕ) (a : A) → n ≤ j → count q n (upd h j a) ≡ count q n h
  count_past q n h j a l = count_same q n (upd h j a) h (λ k m. upd_other h j a k (λ e. omega arith))

  pub count_upd : (q : A → Bool) (n : ℕ) (h : ℕ → A) (j : ℕ) (a : A) → j < n → count q n (upd h j a) + tick (q (h j)) ≡ count q n h + tick (q a)
  unfolding count
  count_upd q zero h j a l = absurd (omega arith)
  count_upd q (suc n) h j a l =
      dite (ℕ_discrete n j)
      (λ e. omega (arith, ticks q (ap (upd h j a) e ∙ upd_same h j a), ticks q (ap h e), count_past q n h j a (omega arith)))
      (λ ne. omega (arith, ticks q (upd_other h j a n ne), count_upd q n h j a (omega (arith, ne))))

  pub count_move : (q : A → Bool) (n : ℕ) (h : ℕ → A) (j i : ℕ) (a : A) → j < n → i < n → (i ≡ j → ⊥)
      → count q n (move h j i a) ≡ count q n (upd h j a)
  count_move q n h j i a lj li ne =
      omega (arith, ticks q (upd_other h j (h i) i ne), count_upd q n (upd h j (h i)) i a li, count_upd q n h j (h i) lj, count_upd q n h j a lj)
