-- What the tolerance decides: where the removals stop, and nothing else. Assumes nothing.
--     removals_up_to, removed_up_to   the removals are the start, up to the tolerance, of an order that does not depend on it
--     negative_index                a negative tolerance removes nothing by the index rule
--     point_all                     a tolerance of zero or less keeps every point by the point rule
use mathlib.Core.Path.{◌≡◌, refl}
use mathlib.Core.Bool.{Bool, true, false, cond, ◌&&◌}
use mathlib.Core.List.{List, [], ◌∷◌}
use mathlib.Core.Option.{Option, none, some}
use Prim.Native.Nat.{ℕ, zero, suc, ◌<◌}
use native.Mathlib.Omega.{arith}
use lib.Dec.{eqb}
use lib.ListN.{length}
use lib.IntN.{ℤ}
use lib.Ieee.{Float, fin}
use borrow.Author.Tests.{ne_eqb}
use Rattle.rule.specs.Grid.{Point, within, positive}
use Rattle.rule.specs.Plain.{Candidate, least, all, without, leave, area_at, at_most, next, removals, removed, order, up_to, index_rule, point_rule}
use Rattle.laws.proofs.Removals.{follow, removals_suc}

-- ---- only where they stop

-- what `order (suc n)` does with the least candidate
abbrev follow_order : ℕ → List Point → List ℕ → Option Candidate → List Candidate
follow_order n ps ks none = []
follow_order n ps ks (some c) = c ∷ order n ps (without c.current ks)

order_suc : (n : ℕ) (ps : List Point) (ks : List ℕ) → order (suc n) ps ks ≡ follow_order n ps ks (least (area_at ps) ks)
unfolding order
order_suc n ps ks = go (least (area_at ps) ks)
  where
    go : (o : Option Candidate) → elim o as (λ _. List Candidate) [ none ↦ [] | some c ↦ c ∷ order n ps (without c.current ks) ] ≡ follow_order n ps ks o
    go none = refl
    go (some c) = refl

-- The removals from what is left are the start, up to the tolerance, of an order that does not depend on it;
pub removals_up_to : (n : ℕ) (ps : List Point) (t : Float) (ks : List ℕ) → removals n ps t ks ≡ up_to t (order n ps ks)
unfolding up_to next at_most
removals_up_to zero ps t ks = unfold removals order in refl
removals_up_to (suc n) ps t ks = rw (removals_suc, order_suc) (go (least (area_at ps) ks) (λ (l : List ℕ). removals_up_to n ps t l))
  where
    pick : (c : Candidate) (b : Bool) → removals n ps t (without c.current ks) ≡ up_to t (order n ps (without c.current ks))
        → follow n ps t ks (cond b (some c) none) ≡ cond b (c ∷ up_to t (order n ps (without c.current ks))) []
    pick c true r = rw r
    pick c false r = refl

    go : (o : Option Candidate) → ((l : List ℕ) → removals n ps t l ≡ up_to t (order n ps l)) → follow n ps t ks (at_most t o) ≡ up_to t (follow_order n ps ks o)
    go none r = refl
    go (some c) r = pick c (within c.score t) (r (without c.current ks))

-- so too all removals of a line.
pub removed_up_to : (ps : List Point) (t : Float) → removed ps t ≡ up_to t (order (length ps) ps (all ps))
unfolding removed
removed_up_to ps t = removals_up_to (length ps) ps t (all ps)

-- ---- below zero, and not above

negative_within : (d m : ℕ) (e : ℤ) → 0 < m → within d (fin true m e) ≡ false
unfolding within
negative_within d m e h = rw (ne_eqb m 0 (λ q. omega arith)) (go (eqb d 0))
  where
    go : (b : Bool) → (b && false) ≡ false
    go true = refl
    go false = refl

negative_up_to : (m : ℕ) (e : ℤ) (cs : List Candidate) → 0 < m → up_to (fin true m e) cs ≡ []
unfolding up_to
negative_up_to m e [] h = refl
negative_up_to m e (c ∷ cs) h = rw (negative_within c.score m e h)

-- A negative tolerance removes nothing by the index rule.
pub negative_index : (ps : List Point) (m : ℕ) (e : ℤ) → 0 < m → index_rule ps (fin true m e) ≡ all ps
unfolding index_rule leave
negative_index ps m e h = rw (removed_up_to, negative_up_to m e (order (length ps) ps (all ps)) h)

-- A tolerance of zero or less keeps every point by the point rule;
pub point_all : (ps : List Point) (t : Float) → positive t ≡ false → point_rule ps t ≡ all ps
unfolding point_rule
point_all ps t h = rw (h, point_rule)

-- one above zero keeps what the index rule keeps.
pub point_index : (ps : List Point) (t : Float) → positive t ≡ true → point_rule ps t ≡ index_rule ps t
unfolding point_rule
point_index ps t h = rw (h, point_rule)
