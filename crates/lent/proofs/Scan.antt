-- The search for a point off the grid is the library's, and what it says of the points. Assumes nothing.
use mathlib.Core.Path.{◌≡◌, refl, ap, ◌∙◌}
use mathlib.Core.Bool.{Bool, true, false, not, ◌&&◌, cond, true≢false}
use mathlib.Core.List.{List, [], ◌∷◌}
use mathlib.Core.Option.{Option, none, some}
use Prim.Native.Nat.{ℕ, zero, suc, ◌+◌, ◌<◌}
use native.Mathlib.Omega.{arith}
use native.Mathlib.Numerals.{add-one}
use lib.Dec.{T}
use lib.ListN.{length, get_or}
use lib.Ieee.{Float, nan}
use Rattle.std.specs.Prelude.{Some, position}
use Rattle.std.specs.List.{position_from, zip}
use Rattle.std.proofs.lemmas.Iterator.Adapters.{position_from-zero}
use Rattle.rule.specs.Grid.{on_grid}
use Rattle.rule.specs.Reasons.{off_grid_from, first_off_grid, is_some}
use Rattle.grid.specs.On.{On}
use Rattle.lent.specs.Found.{of_found}

-- a place is off the grid
abbrev pub off : Float × Float → Bool
off w = not (on_grid w.0 && on_grid w.1)

-- the definition's search is the library's, of the lists side by side
scan_from : (k : ℕ) (us vs : List Float) → of_found (position_from off k (zip us vs)) ≡ off_grid_from k us vs
unfolding off_grid_from
scan_from k [] vs = refl
scan_from k (u ∷ us) [] = refl
scan_from k (u ∷ us) (v ∷ vs) = go (on_grid u && on_grid v) (scan_from (suc k) us vs)
  where
    go : (b : Bool) → of_found (position_from off (suc k) (zip us vs)) ≡ off_grid_from (suc k) us vs
        → of_found (cond (not b) (Some k) (position_from off (k + 1) (zip us vs))) ≡ cond b (off_grid_from (suc k) us vs) (some k)
    go true e = rw add-one e
    go false e = refl

pub scan : (us vs : List Float) → of_found (position off (zip us vs)) ≡ first_off_grid us vs
unfolding first_off_grid
scan us vs = ap of_found (position_from-zero off (zip us vs)) ∙ scan_from 0 us vs

-- ---- what is found stands among the points

found_from : (k i : ℕ) (us vs : List Float) → off_grid_from k us vs ≡ some i → i < k + length us
unfolding off_grid_from
found_from k i [] vs e = let z : ◌≡◌ {A = ℕ} 0 1 = cc in absurd (omega arith)
found_from k i (u ∷ us) [] e = let z : ◌≡◌ {A = ℕ} 0 1 = cc in absurd (omega arith)
found_from k i (u ∷ us) (v ∷ vs) e = go (on_grid u && on_grid v) e (found_from (suc k) i us vs)
  where
    go : (b : Bool) → cond b (off_grid_from (suc k) us vs) (some k) ≡ some i → (off_grid_from (suc k) us vs ≡ some i → i < suc k + length us) → i < k + length (u ∷ us)
    go true f r = omega (arith, r f)
    go false f r = let g : k ≡ i = cc in omega arith

pub found_below : (us vs : List Float) (i : ℕ) → first_off_grid us vs ≡ some i → i < length us
unfolding first_off_grid
found_below us vs i e = omega (arith, found_from 0 i us vs e)

-- ---- where nothing is found, each point is on the grid

both : (a b : Bool) (o : Option ℕ) (i : ℕ) → cond (a && b) o (some i) ≡ none → T a × T b × (o ≡ none)
both true true o i e = (tt, tt, e)
both true false o i e = absurd (true≢false (ap is_some e))
both false b o i e = absurd (true≢false (ap is_some e))

on_from : (k i : ℕ) (us vs : List Float) → off_grid_from k us vs ≡ none → i < length us → i < length vs → On (get_or us i nan) (get_or vs i nan)
unfolding off_grid_from
on_from k i [] vs e h l = absurd (omega arith)
on_from k i (u ∷ us) [] e h l = absurd (omega arith)
on_from k zero (u ∷ us) (v ∷ vs) e h l = let w = both (on_grid u) (on_grid v) (off_grid_from (suc k) us vs) k e in record { x = w.0; y = w.1 }
on_from k (suc i) (u ∷ us) (v ∷ vs) e h l = on_from (suc k) i us vs (both (on_grid u) (on_grid v) (off_grid_from (suc k) us vs) k e).2 (omega arith) (omega arith)

pub on_all : (us vs : List Float) → first_off_grid us vs ≡ none → length us ≡ length vs → (i : ℕ) → i < length us → On (get_or us i nan) (get_or vs i nan)
unfolding first_off_grid
on_all us vs e l i h = on_from 0 i us vs e h (omega arith)
