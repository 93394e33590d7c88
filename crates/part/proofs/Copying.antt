-- Floats copied one by one to a run of places. Assumes nothing.
use mathlib.Core.Path.{◌≡◌, refl, ◌∙◌}
use mathlib.Core.List.{List}
use Prim.Native.Nat.{ℕ, ◌+◌, ◌≤◌, ◌<◌}
use native.Mathlib.Omega.{arith}
use native.Mathlib.Decide.{ℕ_discrete}
use lib.ListN.{length, get_or, set}
use lib.Seq.{get_or-set_same, get_or-set_other}
use lib.Ieee.{Float, nan}
use Rattle.part.specs.Parts as parts

-- ---- one place more

pub copied_none : (fs : List Float) (start : ℕ) (us : List Float) → parts.Copied fs start us 0 fs
copied_none fs start us = record { there = λ i h. absurd (omega arith); before = λ j h. refl; after = λ j h. refl }

pub copied_more : {fs : List Float} {start : ℕ} {us : List Float} {n : ℕ} {fs' : List Float} → start + n < length fs' → parts.Copied fs start us n fs'
    → parts.Copied fs start us (n + 1) (set fs' (start + n) (get_or us n nan))
copied_more {fs} {start} {us} {n} {fs'} l c = record {
  there = λ i h. go i h (ℕ_discrete i n);
  before = λ j h. get_or-set_other fs' (start + n) j (get_or us n nan) nan (λ e. omega arith) ∙ c.before j h;
  after = λ j h. get_or-set_other fs' (start + n) j (get_or us n nan) nan (λ e. omega arith) ∙ c.after j (omega arith);
}
  where
    go : (i : ℕ) → i < n + 1 → Dec (i ≡ n) → get_or (set fs' (start + n) (get_or us n nan)) (start + i) nan ≡ get_or us i nan
    go i h (yes e) = rw e (get_or-set_same fs' (start + n) (get_or us n nan) nan l)
    go i h (no ne) = get_or-set_other fs' (start + n) (start + i) (get_or us n nan) nan (λ e. ne (omega arith)) ∙ c.there i (omega (arith, ne))

-- ---- the loop

pub record Copying (fs : List Float) (start : ℕ) (us : List Float) (fs' : List Float) (i : ℕ) : Type 0 where
  pub level : length fs' ≡ length fs
  pub below : i ≤ length us
  pub copied : parts.Copied fs start us i fs'

-- ---- all of them

-- us was copied to the places from `start` on, and nothing else changed
pub record Copied (fs : List Float) (start : ℕ) (us : List Float) (fs' : List Float) : Type 0 where
  pub level : length fs' ≡ length fs
  pub there : (i : ℕ) → i < length us → get_or fs' (start + i) nan ≡ get_or us i nan
  pub before : (j : ℕ) → j < start → get_or fs' j nan ≡ get_or fs j nan
  pub after : (j : ℕ) → start + length us ≤ j → get_or fs' j nan ≡ get_or fs j nan

pub copied : {fs : List Float} {start : ℕ} {us : List Float} {fs' : List Float} → parts.Copied fs start us (length us) fs' → length fs' ≡ length fs → Copied fs start us fs'
copied c l = record { level = l; there = c.there; before = c.before; after = c.after }
