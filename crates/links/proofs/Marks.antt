-- The points without a mark, as a list. Assumes nothing.
use mathlib.Core.Path.{◌≡◌, refl, sym, ap, ◌∙◌, subst}
use mathlib.Core.Bool.{Bool, true, false, cond}
use mathlib.Core.List.{List, ◌∷◌, ◌++◌}
use mathlib.Core.Logic.{⊎_elim}
use Prim.Native.Nat.{ℕ, zero, suc, ◌+◌, ◌≤◌, ◌<◌}
use native.Mathlib.Decide.{ℕ_discrete}
use native.Mathlib.Nat.{zero-add, add-zero, suc-add}
use native.Mathlib.Omega.{arith}
use lib.Dec.{eqb}
use borrow.Author.Tests.{eqb-true, eqb-false, eq-eqb, ne_eqb}
use Rattle.rule.specs.Plain.{indices, without}
use Rattle.laws.proofs.Kept.{Up, up_from}
use Rattle.links.specs.Ring.{kept_from, In}
use Rattle.links.proofs.Neighbours.{in_none, in_head, in_tail, in_cons}

-- i stands from lo to hi, and has no mark
pub record Unmarked (mark : ℕ → ℕ) (lo hi i : ℕ) : Type 0 where
  pub low : lo ≤ i
  pub high : i < hi
  pub clear : mark i ≡ 0

module _ (mark : ℕ → ℕ) where
  pub kept_in : (i n k : ℕ) → In (kept_from mark i n) k → Unmarked mark i (i + n) k
  unfolding kept_from
  kept_in i zero k h = absurd (in_none k h)
  kept_in i (suc n) k h = go (eqb (mark i) 0) refl h (λ g. wider (kept_in (suc i) n k g))
    where
      wider : Unmarked mark (suc i) (suc i + n) k → Unmarked mark i (i + suc n) k
      wider u = record { low = omega (arith, u.low); high = omega (arith, u.high); clear = u.clear }

      go : (b : Bool) → eqb (mark i) 0 ≡ b → In (cond b (i ∷ kept_from mark (suc i) n) (kept_from mark (suc i) n)) k
          → (In (kept_from mark (suc i) n) k → Unmarked mark i (i + suc n) k) → Unmarked mark i (i + suc n) k
      go true e h r =
          ⊎_elim (λ z. record { low = omega arith; high = omega arith; clear = ap mark z ∙ eqb-true (mark i) 0 e }) r (in_cons i (kept_from mark (suc i) n) k h)
      go false e h r = r h

  pub in_kept : (i n k : ℕ) → i ≤ k → k < i + n → mark k ≡ 0 → In (kept_from mark i n) k
  unfolding kept_from
  in_kept i zero k p q e = absurd (omega arith)
  in_kept i (suc n) k p q e = go (eqb (mark i) 0) refl (ℕ_discrete i k) (λ h. in_kept (suc i) n k h (omega arith) e)
    where
      go : (b : Bool) → eqb (mark i) 0 ≡ b → Dec (i ≡ k) → (suc i ≤ k → In (kept_from mark (suc i) n) k)
          → In (cond b (i ∷ kept_from mark (suc i) n) (kept_from mark (suc i) n)) k
      go true f (yes z) r = subst (In (i ∷ kept_from mark (suc i) n)) z (in_head i (kept_from mark (suc i) n))
      go true f (no ne) r = in_tail i (kept_from mark (suc i) n) k (r (omega (arith, ne)))
      go false f (yes z) r = absurd (eqb-false (mark i) 0 f (ap mark z ∙ e))
      go false f (no ne) r = r (omega (arith, ne))

  pub kept_up : (i n : ℕ) → Up i (kept_from mark i n)
  unfolding kept_from
  kept_up i zero = tt
  kept_up i (suc n) = go (eqb (mark i) 0) (kept_up (suc i) n)
    where
      go : (b : Bool) → Up (suc i) (kept_from mark (suc i) n) → Up i (cond b (i ∷ kept_from mark (suc i) n) (kept_from mark (suc i) n))
      go true r = (omega arith, r)
      go false r = up_from i (suc i) (kept_from mark (suc i) n) (omega arith) r

  pub kept_append : (i m n : ℕ) → kept_from mark i (m + n) ≡ kept_from mark i m ++ kept_from mark (i + m) n
  unfolding kept_from
  kept_append i zero n = rw (zero-add, add-zero)
  kept_append i (suc m) n =
      let g : suc i + m ≡ i + suc m = omega arith in
      rw suc-add (go (eqb (mark i) 0) (kept_append (suc i) m n ∙ ap (λ (k : ℕ). kept_from mark (suc i) m ++ kept_from mark k n) g))
    where
      go : (b : Bool) → kept_from mark (suc i) (m + n) ≡ kept_from mark (suc i) m ++ kept_from mark (i + suc m) n
          → cond b (i ∷ kept_from mark (suc i) (m + n)) (kept_from mark (suc i) (m + n))
          ≡ cond b (i ∷ kept_from mark (suc i) m) (kept_from mark (suc i) m) ++ kept_from mark (i + suc m) n
      go true r = ap (λ (ks : List ℕ). i ∷ ks) r
      go false r = r

  pub kept_all : (i n : ℕ) → ((k : ℕ) → i ≤ k → k < i + n → mark k ≡ 0) → kept_from mark i n ≡ indices i n
  unfolding kept_from indices
  kept_all i zero h = refl
  kept_all i (suc n) h =
      rw (eq-eqb (mark i) 0 (h i (omega arith) (omega arith))) (ap (λ (ks : List ℕ). i ∷ ks) (kept_all (suc i) n (λ k p q. h k (omega arith) (omega arith))))

-- ---- all points

every : (i n : ℕ) → kept_from (λ k. 0) i n ≡ indices i n
every i n = kept_all (λ k. 0) i n (λ k p q. refl)

pub indices_in : (i n k : ℕ) → In (indices i n) k → (i ≤ k) × (k < i + n)
indices_in i n k h = let u = kept_in (λ k. 0) i n k (subst (λ (ks : List ℕ). In ks k) (sym (every i n)) h) in (u.low, u.high)

pub in_indices : (i n k : ℕ) → i ≤ k → k < i + n → In (indices i n) k
in_indices i n k p q = subst (λ (ks : List ℕ). In ks k) (every i n) (in_kept (λ k. 0) i n k p q refl)

-- ---- other marks

module _ (mark mark' : ℕ → ℕ) where
  pub kept_same : (i n : ℕ) → ((k : ℕ) → i ≤ k → k < i + n → mark' k ≡ mark k) → kept_from mark' i n ≡ kept_from mark i n
  unfolding kept_from
  kept_same i zero h = refl
  kept_same i (suc n) h = rw (h i (omega arith) (omega arith), kept_same (suc i) n (λ k p q. h k (omega arith) (omega arith)))

  -- c is marked
  pub kept_without : (c : ℕ) → mark c ≡ 0 → (mark' c ≡ 0 → ⊥) → (i n : ℕ) → i ≤ c → c < i + n
      → ((k : ℕ) → i ≤ k → k < i + n → (k ≡ c → ⊥) → mark' k ≡ mark k) → kept_from mark' i n ≡ without c (kept_from mark i n)
  unfolding kept_from without
  kept_without c m m' i zero p q h = absurd (omega arith)
  kept_without c m m' i (suc n) p q h =
      go (ℕ_discrete i c) (λ ne. kept_without c m m' (suc i) n (omega (arith, ne)) (omega arith) (λ k a b ne. h k (omega arith) (omega arith) ne))
    where
      go : Dec (i ≡ c) → ((i ≡ c → ⊥) → kept_from mark' (suc i) n ≡ without c (kept_from mark (suc i) n))
          → cond (eqb (mark' i) 0) (i ∷ kept_from mark' (suc i) n) (kept_from mark' (suc i) n)
          ≡ without c (cond (eqb (mark i) 0) (i ∷ kept_from mark (suc i) n) (kept_from mark (suc i) n))
      go (yes z) r =
          rw (ne_eqb (mark' i) 0 (λ e. m' (ap mark' (sym z) ∙ e)), eq-eqb (mark i) 0 (ap mark z ∙ m), eq-eqb c i (sym z))
          (kept_same (suc i) n (λ k a b. h k (omega arith) (omega arith) (λ e. omega arith)))
      go (no ne) r = rw (h i (omega arith) (omega arith) ne) (pick (eqb (mark i) 0) (r ne))
        where
          pick : (b : Bool) → kept_from mark' (suc i) n ≡ without c (kept_from mark (suc i) n)
              → cond b (i ∷ kept_from mark' (suc i) n) (kept_from mark' (suc i) n) ≡ without c (cond b (i ∷ kept_from mark (suc i) n) (kept_from mark (suc i) n))
          pick true r = rw (ne_eqb c i (λ e. ne (sym e))) (ap (λ (ks : List ℕ). i ∷ ks) r)
          pick false r = r
