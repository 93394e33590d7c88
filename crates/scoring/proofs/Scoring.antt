-- The score of three points, demoted or not, and coordinates that stay. Assumes nothing.
use mathlib.Core.Path.{◌≡◌, refl, sym, ap, ap₂, ◌∙◌, subst}
use Rattle.std.specs.Prelude.{Option, Some, None}
use mathlib.Core.List.{List}
use Prim.Native.Nat.{ℕ, ◌+◌, ◌≤◌, ◌<◌}
use native.Mathlib.Omega.{arith}
use lib.ListN.{get_or}
use lib.Ieee.{Float, nan}
use Rattle.rule.specs.Grid.{Point, point_of, area2, half}
use Rattle.rule.specs.Plain.{area_at}
use Rattle.grid.specs.On.{On}
use Rattle.layout.specs.declared.Layout.{Layout}
use Rattle.layout.specs.Points.{from, Placed, PlacedIn}
use Rattle.scoring.specs.Plot.{priced, Points, ScoredAs, scored, missing, demoted_if}
use Rattle.vscore.specs.declared.VScore.{VScore}
use Rattle.vscore.specs.Score.{score}

-- ---- the area of three points

pub area_is : {x y : ℕ → Float} {n : ℕ} {ps : List Point} → Placed x y n ps → {a b c : ℕ} → Points n a b c → {r : Float}
    → (On (x a) (y a) → On (x b) (y b) → On (x c) (y c) → r ≡ half (area2 (point_of (x a) (y a)) (point_of (x b) (y b)) (point_of (x c) (y c))))
    → r ≡ half (area_at ps a b c)
area_is {x} {y} {n} {ps} p {a} {b} {c} q e =
    e (p.on a q.left) (p.on b q.current) (p.on c q.right)
    ∙ sym (λ i. half (area2 (p.is a q.left i) (p.is b q.current i) (p.is c q.right i)))

pub score_made : {us vs : List Float} {m : Layout} {a b c : ℕ} {s : VScore} {r : Float} → s ≡ score a b c r → Points m.points a b c
    → (On (from us m.x a) (from vs m.y a) → On (from us m.x b) (from vs m.y b) → On (from us m.x c) (from vs m.y c)
    → r ≡ half (area2 (point_of (from us m.x a) (from vs m.y a)) (point_of (from us m.x b) (from vs m.y b)) (point_of (from us m.x c) (from vs m.y c))))
    → ScoredAs us vs m a b c half (Some s)
score_made e q h = scored q (record {
  left = ap (λ (x : VScore). x.left) e;
  current = ap (λ (x : VScore). x.current) e;
  right = ap (λ (x : VScore). x.right) e;
  area = λ ps p. ap (λ (x : VScore). x.area) e ∙ area_is p q h;
})

-- ---- demoted

module _ {us vs : List Float} {m : Layout} {a b c : ℕ} where
  demoted_as : (d : Option Float) {r : Option VScore} → ScoredAs us vs m a b c half r → ScoredAs us vs m a b c (priced d) (demoted_if d r)
  demoted_as None h = h
  demoted_as (Some t) (scored p s) = scored p (record { left = s.left; current = s.current; right = s.right; area = λ ps q. refl })
  demoted_as (Some t) (missing n) = missing n

  pub scored_demoted : (d : Option Float) {r r' : Option VScore} → r' ≡ demoted_if d r → ScoredAs us vs m a b c half r → ScoredAs us vs m a b c (priced d) r'
  scored_demoted d e h = subst (ScoredAs us vs m a b c (priced d)) (sym e) (demoted_as d h)

-- ---- points whose coordinates are the same

pub placed_along : {x y x' y' : ℕ → Float} {n : ℕ} {ps : List Point} → ((i : ℕ) → i < n → x' i ≡ x i) → ((i : ℕ) → i < n → y' i ≡ y i)
    → Placed x y n ps → Placed x' y' n ps
placed_along {x = x} {y' = y'} ex ey p = record {
  on = λ i l. subst (λ (u : Float). On u (y' i)) (sym (ex i l)) (subst (On (x i)) (sym (ey i l)) (p.on i l));
  is = λ i l. p.is i l ∙ sym (ap₂ point_of (ex i l) (ey i l));
}

-- they stand past the heap
pub placed_same : {ps : List Point} (m : Layout) (fs fs' : List Float) → m.capacity ≤ m.x → m.capacity ≤ m.y
    → ((i : ℕ) → m.capacity ≤ i → get_or fs' i nan ≡ get_or fs i nan) → PlacedIn fs fs m ps → PlacedIn fs' fs' m ps
placed_same m fs fs' hx hy e p = placed_along (λ i l. e (m.x + i) (omega arith)) (λ i l. e (m.y + i) (omega arith)) p
