-- Kept lists are strictly increasing, below the number of points, and no longer than it; the ends stay. Assumes nothing.
--     left_rises, index_rises, point_rises           what the plain rule leaves at every moment, and what it keeps
--     consecutive_rises, anywhere_rises              what stays of repeated points
--     ends_left, ends_index, ends_point              ends stay
--     few_index, few_point                           fewer than three points: all kept
use mathlib.Core.Path.{◌≡◌, refl, sym, ◌∙◌, subst}
use mathlib.Core.Bool.{Bool, true, false, cond}
use mathlib.Core.List.{List, [], ◌∷◌, ◌++◌}
use Prim.Native.Nat.{ℕ, zero, suc, ◌+◌, ◌-◌, ◌≤◌, ◌<◌}
use native.Mathlib.Omega.{arith}
use lib.Dec.{eqb}
use lib.ListN.{length, take}
use lib.Ieee.{Float}
use borrow.Author.Tests.{eqb-true, ne_eqb}
use Rattle.rule.specs.Grid.{Point, positive}
use Rattle.rule.specs.Segment.{same}
use Rattle.rule.specs.Plain.{Candidate, indices, all, without, leave, removed, index_rule, point_rule}
use Rattle.rule.specs.Repeat.{changes, consecutive, is_in, firsts, anywhere}
use Rattle.rule.specs.Rings.{last_or}
use Rattle.rule.specs.Slots.{left_after}
use Rattle.laws.specs.Times.{tick, times}
use Rattle.laws.proofs.Removals.{Mid, times_tail, times_append, eqb_self, OneByOne, stops, goes, one_take, removed_one, removed_few}

-- ---- strictly increasing, from n on

abbrev pub Up : ℕ → List ℕ → Type 0
Up n [] = Unit {0}
Up n (k ∷ ks) = (n ≤ k) × Up (suc k) ks

-- from an earlier number on, too
pub up_from : (m n : ℕ) (ks : List ℕ) → m ≤ n → Up n ks → Up m ks
up_from m n [] h u = tt
up_from m n (k ∷ ks) h u = (omega arith, u.1)

pub up_without : (i n : ℕ) (ks : List ℕ) → Up n ks → Up n (without i ks)
unfolding without
up_without i n [] u = tt
up_without i n (k ∷ ks) u = go (eqb i k) (up_without i (suc k) ks u.1)
  where
    go : (b : Bool) → Up (suc k) (without i ks) → Up n (cond b ks (k ∷ without i ks))
    go true r = up_from n (suc k) ks (omega arith) u.1
    go false r = (u.0, r)

pub up_leave : (n : ℕ) (cs : List Candidate) (ks : List ℕ) → Up n ks → Up n (leave cs ks)
unfolding leave
up_leave n [] ks u = u
up_leave n (c ∷ cs) ks u = up_leave n cs (without c.current ks) (up_without c.current n ks u)

-- ---- and below hi

abbrev pub Below : ℕ → List ℕ → Type 0
Below hi [] = Unit {0}
Below hi (k ∷ ks) = (k < hi) × Below hi ks

below_to : (hi n : ℕ) (ks : List ℕ) → hi ≤ n → Below hi ks → Below n ks
below_to hi n [] h b = tt
below_to hi n (k ∷ ks) h b = (omega arith, below_to hi n ks h b.1)

below_without : (i hi : ℕ) (ks : List ℕ) → Below hi ks → Below hi (without i ks)
unfolding without
below_without i hi [] u = tt
below_without i hi (k ∷ ks) u = go (eqb i k) (below_without i hi ks u.1)
  where
    go : (b : Bool) → Below hi (without i ks) → Below hi (cond b ks (k ∷ without i ks))
    go true r = u.1
    go false r = (u.0, r)

below_leave : (hi : ℕ) (cs : List Candidate) (ks : List ℕ) → Below hi ks → Below hi (leave cs ks)
unfolding leave
below_leave hi [] ks u = u
below_leave hi (c ∷ cs) ks u = below_leave hi cs (without c.current ks) (below_without c.current hi ks u)

below_append : (hi : ℕ) (ks ls : List ℕ) → Below hi ks → Below hi ls → Below hi (ks ++ ls)
below_append hi [] ls a b = b
below_append hi (k ∷ ks) ls a b = (a.0, below_append hi ks ls a.1 b)

-- ---- strictly increasing, from lo on and below hi

pub record Rising (lo hi : ℕ) (ks : List ℕ) : Type 0 where
  pub up : Up lo ks
  pub below : Below hi ks

pub rising_leave : (lo hi : ℕ) (cs : List Candidate) (ks : List ℕ) → Rising lo hi ks → Rising lo hi (leave cs ks)
rising_leave lo hi cs ks r = record { up = up_leave lo cs ks r.up; below = below_leave hi cs ks r.below }

-- so there are no more of them than numbers from lo to hi
pub rising_length : (lo hi : ℕ) (ks : List ℕ) → lo ≤ hi → Rising lo hi ks → lo + length ks ≤ hi
rising_length lo hi [] h r = omega arith
rising_length lo hi (k ∷ ks) h r = omega (arith, rising_length (suc k) hi ks (omega (arith, r.below.0)) (record { up = r.up.1; below = r.below.1 }), r.up.0)

-- so a kept list is no longer than the number of points
pub rising_short : (n : ℕ) (ks : List ℕ) → Rising 0 n ks → length ks ≤ n
rising_short n ks r = omega (arith, rising_length 0 n ks (omega arith) r)

up_append : (lo mid : ℕ) (ks ls : List ℕ) → lo ≤ mid → Up lo ks → Below mid ks → Up mid ls → Up lo (ks ++ ls)
up_append lo mid [] ls h u b v = up_from lo mid ls h v
up_append lo mid (k ∷ ks) ls h u b v = (u.0, up_append (suc k) mid ks ls b.0 u.1 b.1 v)

pub rising_append : (lo mid hi : ℕ) (ks ls : List ℕ) → lo ≤ mid → mid ≤ hi → Rising lo mid ks → Rising mid hi ls → Rising lo hi (ks ++ ls)
rising_append lo mid hi ks ls h g r s =
    record { up = up_append lo mid ks ls h r.up r.below s.up; below = below_append hi ks ls (below_to mid hi ks g r.below) s.below }

up_indices : (i n : ℕ) → Up i (indices i n)
unfolding indices
up_indices i zero = tt
up_indices i (suc n) = (omega arith, up_indices (suc i) n)

below_indices : (i n hi : ℕ) → i + n ≤ hi → Below hi (indices i n)
unfolding indices
below_indices i zero hi h = tt
below_indices i (suc n) hi h = (omega arith, below_indices (suc i) n hi (omega arith))

pub rising_indices : (i n : ℕ) → Rising i (i + n) (indices i n)
rising_indices i n = record { up = up_indices i n; below = below_indices i n (i + n) (omega arith) }

pub rising_all : (ps : List Point) → Rising 0 (length ps) (all ps)
unfolding all
rising_all ps = record { up = up_indices 0 (length ps); below = below_indices 0 (length ps) (length ps) (omega arith) }

-- ---- the plain rule

-- The points left are in order at every moment, each once and below the number of points;
pub left_rises : (ps : List Point) (t : Float) (n : ℕ) → Rising 0 (length ps) (left_after ps t n)
unfolding left_after
left_rises ps t n = rising_leave 0 (length ps) (take n (removed ps t)) (all ps) (rising_all ps)

-- so is what the index rule keeps,
pub index_rises : (ps : List Point) (t : Float) → Rising 0 (length ps) (index_rule ps t)
unfolding index_rule
index_rises ps t = rising_leave 0 (length ps) (removed ps t) (all ps) (rising_all ps)

-- what holds of the index rule and of all points holds of the point rule
point_either : (P : List ℕ → Type 0) (ps : List Point) (t : Float) → P (index_rule ps t) → P (all ps) → P (point_rule ps t)
unfolding point_rule
point_either P ps t p q = go (positive t)
  where
    go : (b : Bool) → P (elim b as (λ _. List ℕ) [ true ↦ index_rule ps t | false ↦ all ps ])
    go true = p
    go false = q

-- and what the point rule keeps.
pub point_rises : (ps : List Point) (t : Float) → Rising 0 (length ps) (point_rule ps t)
point_rises ps t = point_either (Rising 0 (length ps)) ps t (index_rises ps t) (rising_all ps)

-- ---- repeated points

-- an index, or nothing, before a list from the next index on
rising_cons : (lo hi : ℕ) (ks : List ℕ) (b : Bool) → lo < hi → Rising (suc lo) hi ks → Rising lo hi (cond b ks (lo ∷ ks))
rising_cons lo hi ks true h r = record { up = up_from lo (suc lo) ks (omega arith) r.up; below = r.below }
rising_cons lo hi ks false h r = record { up = (omega arith, r.up); below = (h, r.below) }

changes_rise : (p : Point) (i : ℕ) (qs : List Point) → Rising i (i + length qs) (changes p i qs)
unfolding changes
changes_rise p i [] = record { up = tt; below = tt }
changes_rise p i (q ∷ qs) =
    rising_cons i (i + suc (length qs)) (changes q (suc i) qs) (same p q) (omega arith)
    (subst (λ (n : ℕ). Rising (suc i) n (changes q (suc i) qs)) (omega arith) (changes_rise q (suc i) qs))

-- What stays of repeated points is in order, each once and below the number of points: consecutive,
pub consecutive_rises : (ps : List Point) → Rising 0 (length ps) (consecutive ps)
unfolding consecutive
consecutive_rises [] = record { up = tt; below = tt }
consecutive_rises (p ∷ ps) =
    let r : Rising 1 (suc (length ps)) (changes p 1 ps) = subst (λ (n : ℕ). Rising 1 n (changes p 1 ps)) (omega arith) (changes_rise p 1 ps) in
    record { up = (omega arith, r.up); below = (omega arith, r.below) }

firsts_rise : (seen : List Point) (i : ℕ) (ps : List Point) → Rising i (i + length ps) (firsts seen i ps)
unfolding firsts
firsts_rise seen i [] = record { up = tt; below = tt }
firsts_rise seen i (p ∷ ps) =
    rising_cons i (i + suc (length ps)) (firsts (p ∷ seen) (suc i) ps) (is_in p seen) (omega arith)
    (subst (λ (n : ℕ). Rising (suc i) n (firsts (p ∷ seen) (suc i) ps)) (omega arith) (firsts_rise (p ∷ seen) (suc i) ps))

-- and anywhere.
pub anywhere_rises : (ps : List Point) → Rising 0 (length ps) (anywhere ps)
unfolding anywhere
anywhere_rises ps = subst (λ (n : ℕ). Rising 0 n (firsts [] 0 ps)) (omega arith) (firsts_rise [] 0 ps)

-- ---- ends stay

-- it begins with a and ends with b
abbrev pub Ends : ℕ → ℕ → List ℕ → Type 0
Ends a b [] = ⊥
Ends a b (k ∷ ks) = (k ≡ a) × (last_or k ks ≡ b)

-- a candidate of an increasing list stands strictly between its neighbours, and all three from n on
pub record Between (n : ℕ) (c : Candidate) : Type 0 where
  pub lower : n ≤ c.left
  pub from_left : c.left < c.current
  pub to_right : c.current < c.right

pub mid_between : {f : ℕ → ℕ → ℕ → ℕ} {c : Candidate} (n : ℕ) (ks : List ℕ) → Up n ks → Mid f ks c → Between n c
mid_between {f} {c} n ks u m = go n m.pre (subst (Up n) m.split u)
  where
    go : (n : ℕ) (pre : List ℕ) → Up n (pre ++ (c.left ∷ c.current ∷ c.right ∷ m.post)) → Between n c
    go n [] v = record { lower = v.0; from_left = v.1.0; to_right = v.1.1.0 }
    go n (k ∷ pre) v = let s = go (suc k) pre v.1 in record { lower = omega (arith, s.lower, v.0); from_left = s.from_left; to_right = s.to_right }

up_last : (k x : ℕ) (ks : List ℕ) → Up (suc k) ks → 0 < times x ks → x ≤ last_or k ks
up_last k x [] u h = omega arith
up_last k x (j ∷ js) u h = go js (eqb x j) refl h u.1 (λ (g : 0 < times x js). up_last j x js u.1 g)
  where
    least : (i : ℕ) (ls : List ℕ) → Up (suc i) ls → i ≤ last_or i ls
    least i [] v = omega arith
    least i (l ∷ ls) v = omega (arith, least l ls v.1)

    go : (ls : List ℕ) (b : Bool) → eqb x j ≡ b → 0 < tick b + times x ls → Up (suc j) ls → (0 < times x ls → x ≤ last_or j ls) → x ≤ last_or j ls
    go ls true e g v r = omega (arith, eqb-true x j e, least j ls v)
    go ls false e g v r = r (omega arith)

last_without : (i k : ℕ) (ks : List ℕ) → i < last_or k ks → last_or k (without i ks) ≡ last_or k ks
unfolding without
last_without i k [] h = refl
last_without i k (j ∷ js) h = go (eqb i j) refl js h (last_without i j js)
  where
    go : (b : Bool) → eqb i j ≡ b → (ls : List ℕ) → i < last_or j ls → (i < last_or j ls → last_or j (without i ls) ≡ last_or j ls)
        → last_or k (cond b ls (j ∷ without i ls)) ≡ last_or j ls
    go true e [] g r = absurd (omega (arith, eqb-true i j e))
    go true e (l ∷ ls) g r = refl
    go false e ls g r = r g

ends_without : {f : ℕ → ℕ → ℕ → ℕ} {c : Candidate} (n a b : ℕ) (ks : List ℕ) → Up n ks → Mid f ks c → Ends a b ks → Ends a b (without c.current ks)
unfolding without
ends_without n a b [] u m e = e
ends_without {f} {c} n a b (k ∷ ks) u m e =
    let s = mid_between k (k ∷ ks) (omega arith, u.1) m in
    let r : 0 < times c.right (k ∷ ks) = subst (λ (l : List ℕ). 0 < times c.right l) (sym m.split) (rw (times_append, eqb_self) (omega arith)) in
    let g = times_tail c.right k ks (ne_eqb c.right k (λ q. omega (arith, s.lower, s.from_left, s.to_right))) r in
    rw (ne_eqb c.current k (λ q. omega (arith, s.lower, s.from_left)))
    (e.0, last_without c.current k ks (omega (arith, s.to_right, up_last k c.right ks u.1 g)) ∙ e.1)

-- removals one by one leave the ends of an increasing list
pub one_ends : {ks : List ℕ} {cs : List Candidate} (n a b : ℕ) → Up n ks → OneByOne ks cs → Ends a b ks → Ends a b (leave cs ks)
unfolding leave
one_ends n a b u stops e = e
one_ends n a b u (goes {f} {ks} {c} {cs} m r) e = one_ends n a b (up_without c.current n ks u) r (ends_without n a b ks u m e)

pub ends_indices : (i n : ℕ) → Ends i (i + n) (indices i (suc n))
unfolding indices
ends_indices i n = (refl, last i n)
  where
    last : (i n : ℕ) → last_or i (indices (suc i) n) ≡ i + n
    last i zero = omega arith
    last i (suc n) = last (suc i) n ∙ omega arith

pub ends_all : (ps : List Point) → 0 < length ps → Ends 0 (length ps - 1) (all ps)
unfolding all
ends_all ps h = go (length ps) h
  where
    go : (n : ℕ) → 0 < n → Ends 0 (n - 1) (indices 0 n)
    go zero h = absurd (omega arith)
    go (suc n) h = subst (λ (b : ℕ). Ends 0 b (indices 0 (suc n))) (omega arith) (ends_indices 0 n)

-- The first and the last point are left at every moment;
pub ends_left : (ps : List Point) (t : Float) (n : ℕ) → 0 < length ps → Ends 0 (length ps - 1) (left_after ps t n)
unfolding left_after
ends_left ps t n h = one_ends 0 0 (length ps - 1) (rising_all ps).up (one_take n (removed_one ps t)) (ends_all ps h)

-- the index rule keeps them,
pub ends_index : (ps : List Point) (t : Float) → 0 < length ps → Ends 0 (length ps - 1) (index_rule ps t)
unfolding index_rule
ends_index ps t h = one_ends 0 0 (length ps - 1) (rising_all ps).up (removed_one ps t) (ends_all ps h)

-- and so does the point rule.
pub ends_point : (ps : List Point) (t : Float) → 0 < length ps → Ends 0 (length ps - 1) (point_rule ps t)
ends_point ps t h = point_either (Ends 0 (length ps - 1)) ps t (ends_index ps t h) (ends_all ps h)

-- ---- fewer than three points: all kept

leave_none : (cs : List Candidate) (ks : List ℕ) → length cs ≤ 0 → leave cs ks ≡ ks
unfolding leave
leave_none [] ks h = refl
leave_none (c ∷ cs) ks h = absurd (omega arith)

-- By the index rule,
pub few_index : (ps : List Point) (t : Float) → length ps < 3 → index_rule ps t ≡ all ps
unfolding index_rule
few_index ps t h = leave_none (removed ps t) (all ps) (omega (arith, removed_few ps t))

-- and by the point rule.
pub few_point : (ps : List Point) (t : Float) → length ps < 3 → point_rule ps t ≡ all ps
few_point ps t h = point_either (λ (ks : List ℕ). ks ≡ all ps) ps t (few_index ps t h) refl
