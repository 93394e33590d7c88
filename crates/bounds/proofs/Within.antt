-- Bounds hold what they were widened by, and segments within bounds that lie apart do not meet. Assumes nothing.
use mathlib.Core.Path.{◌≡◌, refl, sym, ◌∙◌}
use mathlib.Core.Bool.{Bool, true, false, not, cond, ◌&&◌, ◌||◌, true≢false, false≢true, and-false}
use lib.Dec.{T}
use lib.IntN.{ℤ}
use lib.Signed.{le_z}
use lib.Ieee.{Float, neg, le, odd}
use Rattle.ring.proofs.Order.{le_refl, le_trans, le_total}
use Rattle.rule.specs.Grid.{Point, on_grid, coord, point_of, half}
use Rattle.rule.specs.Segment.{overlap, meets}
use Rattle.grid.specs.On.{On}
use Rattle.grid.proofs.Whole.{le_grid}
use Rattle.bounds.specs.declared.Bounds.{Bounds}
use Rattle.bounds.specs.Bounds.{lesser, greater, of_none, widened, apart, SidesOn, Holds, Grows}

-- ---- the lesser and the greater of two coordinates

record Least (u v r : Float) : Type 0 where
  on : T (on_grid r)
  first : le_z (coord r) (coord u) ≡ true
  second : le_z (coord r) (coord v) ≡ true

record Greatest (u v r : Float) : Type 0 where
  on : T (on_grid r)
  first : le_z (coord u) (coord r) ≡ true
  second : le_z (coord v) (coord r) ≡ true

module _ (u v : Float) (h : T (on_grid u)) (k : T (on_grid v)) where
  least : Least u v (lesser u v)
  unfolding lesser
  least = go (le u v) refl
    where
      go : (b : Bool) → le u v ≡ b → Least u v (cond b u v)
      go true e = record { on = h; first = le_refl (coord u); second = sym (le_grid u v h k) ∙ e }
      go false e = record { on = k; first = le_total (coord u) (coord v) (sym (le_grid u v h k) ∙ e); second = le_refl (coord v) }

  greatest : Greatest u v (greater u v)
  unfolding greater
  greatest = go (le v u) refl
    where
      go : (b : Bool) → le v u ≡ b → Greatest u v (cond b u v)
      go true e = record { on = h; first = le_refl (coord u); second = sym (le_grid v u k h) ∙ e }
      go false e = record { on = k; first = le_total (coord v) (coord u) (sym (le_grid v u k h) ∙ e); second = le_refl (coord v) }

-- ---- widened by a point

pub none_on : SidesOn of_none
unfolding of_none half odd on_grid neg
none_on = record { low = record { x = tt; y = tt }; high = record { x = tt; y = tt } }

-- d is c with the point p
pub record Wider (c : Bounds) (p : Point) (d : Bounds) : Type 0 where
  pub on : SidesOn d
  pub old : Grows c d
  pub new : Holds d p

pub widens : (c : Bounds) (u v : Float) → SidesOn c → On u v → Wider c (point_of u v) (widened c u v)
unfolding widened
widens c u v s o =
    let w = least u c.west o.x s.low.x in
    let e = greatest u c.east o.x s.high.x in
    let b = least v c.south o.y s.low.y in
    let t = greatest v c.north o.y s.high.y in
    record {
      on = record { low = record { x = w.on; y = b.on }; high = record { x = e.on; y = t.on } };
      old = λ p h. record {
        west = le_trans (coord (lesser u c.west)) (coord c.west) p.x w.second h.west;
        east = le_trans p.x (coord c.east) (coord (greater u c.east)) h.east e.second;
        south = le_trans (coord (lesser v c.south)) (coord c.south) p.y b.second h.south;
        north = le_trans p.y (coord c.north) (coord (greater v c.north)) h.north t.second;
      };
      new = record { west = w.first; east = e.first; south = b.first; north = t.first };
    }

-- ---- bounds that lie apart

-- a is at most e, c at least w, and w lies past e
past : (a e w c : ℤ) → le_z a e ≡ true → le_z w c ≡ true → le_z w e ≡ false → le_z c a ≡ false
past a e w c h k f = go (le_z c a) refl
  where
    go : (b : Bool) → le_z c a ≡ b → b ≡ false
    go false z = refl
    go true z = absurd (true≢false (sym (le_trans w c e k (le_trans c a e z h)) ∙ f))

-- the range of a and b ends before that of c and d begins, or the other way round
module _ (a b c d end start : ℤ) where
  ends_before_lem : le_z a end ≡ true → le_z b end ≡ true → le_z start c ≡ true → le_z start d ≡ true → le_z start end ≡ false → overlap a b c d ≡ false
  unfolding overlap
  ends_before_lem p q r s f =
      rw (past a end start c p r f, past b end start c q r f, past a end start d p s f, past b end start d q s f)
      (and-false (le_z a c || le_z a d || le_z b c || le_z b d))

  starts_after : le_z c end ≡ true → le_z d end ≡ true → le_z start a ≡ true → le_z start b ≡ true → le_z start end ≡ false → overlap a b c d ≡ false
  unfolding overlap
  starts_after p q r s f = rw (past c end start a p r f, past d end start a q r f, past c end start b p s f, past d end start b q s f)

-- one of four tests fails
first_of : (p q r s : Bool) (R : Type 0) → (not p || not q || not r || not s) ≡ true → (p ≡ false → R) → (q ≡ false → R) → (r ≡ false → R) → (s ≡ false → R) → R
first_of false q r s R e f g h k = f refl
first_of true false r s R e f g h k = g refl
first_of true true false s R e f g h k = h refl
first_of true true true false R e f g h k = k refl
first_of true true true true R e f g h k = absurd (false≢true e)

mid_false : (b p q : Bool) → (b && false && p && q) ≡ false
mid_false true p q = refl
mid_false false p q = refl

-- a and b lie within c, l and r within d
module _ (c d : Bounds) (on-c : SidesOn c) (on-d : SidesOn d) {a b l r : Point} (a_in : Holds c a) (b-in : Holds c b) (l-in : Holds d l) (r_in : Holds d r) where
  past_x : overlap a.x b.x l.x r.x ≡ false → meets a b l r ≡ false
  unfolding meets
  past_x e = rw e

  past_y : overlap a.y b.y l.y r.y ≡ false → meets a b l r ≡ false
  unfolding meets
  past_y e = rw e (mid_false (overlap a.x b.x l.x r.x) _ _)

  -- a test in f64 that fails, of sides on the grid
  fails : (u v : Float) → T (on_grid u) → T (on_grid v) → le u v ≡ false → le_z (coord u) (coord v) ≡ false
  fails u v h k e = sym (le_grid u v h k) ∙ e

  pub apart_none : apart c d ≡ true → meets a b l r ≡ false
  unfolding apart
  apart_none e =
      first_of (le d.west c.east) (le c.west d.east) (le d.south c.north) (le c.south d.north) (meets a b l r ≡ false) e
      (λ f. past_x (ends_before_lem a.x b.x l.x r.x (coord c.east) (coord d.west) a_in.east b-in.east l-in.west r_in.west
      (fails d.west c.east on-d.low.x on-c.high.x f)))
      (λ f. past_x (starts_after a.x b.x l.x r.x (coord d.east) (coord c.west) l-in.east r_in.east a_in.west b-in.west
      (fails c.west d.east on-c.low.x on-d.high.x f)))
      (λ f. past_y (ends_before_lem a.y b.y l.y r.y (coord c.north) (coord d.south) a_in.north b-in.north l-in.south r_in.south
      (fails d.south c.north on-d.low.y on-c.high.y f)))
      (λ f. past_y (starts_after a.y b.y l.y r.y (coord d.north) (coord c.south) l-in.north r_in.north a_in.south b-in.south
      (fails c.south d.north on-c.low.y on-d.high.y f)))
