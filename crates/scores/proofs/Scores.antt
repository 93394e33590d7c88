-- The order of scores of a scale, and what `sooner` says of it. Assumes nothing.
use mathlib.Core.Path.{◌≡◌, refl, sym, ap, ◌∙◌}
use mathlib.Core.Bool.{Bool, true, false, cond, ◌&&◌, ◌||◌, true≢false, false≢true}
use mathlib.Core.Logic.{inl, inr}
use Prim.Native.Nat.{ℕ}
use native.Mathlib.Omega.{arith}
use lib.Dec.{ltb, eqb}
use lib.Ieee.{Float}
use borrow.Author.Tests.{ltb-true, ltb-false, eqb-true, eqb-false}
use Rattle.vscore.specs.declared.VScore.{VScore}
use Rattle.vscore.specs.Score.{sooner}
use Rattle.vscore.specs.Scale.{Scale, Faithful}
use Rattle.vscore.proofs.Scores.{sooner_is}
use Rattle.rule.specs.Plain.{before}
use Rattle.scores.specs.Scores.{Proper, Le}

-- ---- the order
pub le_self : (σ : Scale) (a : VScore) → Le σ a a
le_self σ a = inr (refl, omega arith)

pub le_trans : (σ : Scale) (a b c : VScore) → Le σ a b → Le σ b c → Le σ a c
le_trans σ a b c (inl p) (inl q) = inl (omega arith)
le_trans σ a b c (inl p) (inr q) = inl (omega arith)
le_trans σ a b c (inr p) (inl q) = inl (omega arith)
le_trans σ a b c (inr p) (inr q) = inr (omega arith, omega arith)

module _ (σ : Scale) (φ : Faithful σ) where
  -- ---- an area of the scale has its key
  pub key_is : {x : Float} {n : ℕ} → x ≡ σ.value n → σ.key x ≡ n
  key_is {x} {n} e = ap σ.key e ∙ φ.back n

  pub proper_of : (s : VScore) {n : ℕ} → s.area ≡ σ.value n → Proper σ s
  proper_of s e = e ∙ ap σ.value (sym (key_is e))

  -- ---- `sooner`
  module _ (a b : VScore) (p : Proper σ a) (q : Proper σ b) where
    decides : (r : Bool) → sooner a b ≡ r → cond r (Le σ a b) (Le σ b a)
    unfolding before
    decides r e = go (ltb m n) refl (eqb m n) refl (ltb a.current b.current) refl r (sym (sooner_is φ a b m n p q) ∙ e)
      where
        m : ℕ
        m = σ.key a.area

        n : ℕ
        n = σ.key b.area

        go : (x : Bool) → ltb m n ≡ x → (y : Bool) → eqb m n ≡ y → (z : Bool) → ltb a.current b.current ≡ z
            → (r : Bool) → (x || (y && z)) ≡ r → cond r (Le σ a b) (Le σ b a)
        go true ex y ey z ez true h = inl (ltb-true m n ex)
        go true ex y ey z ez false h = absurd (true≢false h)
        go false ex true ey true ez true h = inr (eqb-true m n ey, omega (arith, ltb-true a.current b.current ez))
        go false ex true ey true ez false h = absurd (true≢false h)
        go false ex true ey false ez true h = absurd (false≢true h)
        go false ex true ey false ez false h = inr (sym (eqb-true m n ey), ltb-false a.current b.current ez)
        go false ex false ey z ez true h = absurd (false≢true h)
        go false ex false ey z ez false h = inl (omega (arith, ltb-false m n ex, eqb-false m n ey))

    pub sooner_true : sooner a b ≡ true → Le σ a b
    sooner_true e = decides true e

    pub sooner_false : sooner a b ≡ false → Le σ b a
    sooner_false e = decides false e
