-- Laws of the preserving rule over all rings, and of the ring table of a polygon. Assumes nothing.
-- Of each ring, by its number k; the k-th of no more than k rings is taken as empty:
--     preserve_makes     what is removed and what is kept make up the ring
--     preserve_keeps     at least the first minimum is kept, or all there was
--     preserve_few       a ring of at most the first minimum, or of fewer than three points, keeps all
--     preserve_rises     what is kept of an increasing ring is increasing
--     preserve_ends      the ends of an increasing ring stay
--     preserve_closed    so a closed one is kept closed
-- Of all of them:
--     preserve_count     as many as there were
--     preserve_all       a tolerance of zero or less keeps all
--     table_joins        the rings of a good table are all points, in order
--     table_ends         their ring table is that table
--     line_rises, polygon_rises      the kept list of a line, and of a polygon, is increasing
--     line_ends, polygon_ends        the ends stay
--     line_few                       fewer than three points: all kept
--     line_all, polygon_all          a tolerance of zero or less keeps all
--     polygon_count, polygon_entries as many rings as there were, and as many entries in their table
use mathlib.Core.Path.{◌≡◌, refl, sym, ap, ◌∙◌, subst}
use mathlib.Core.Bool.{Bool, true, false, not, ◌&&◌, ◌||◌, true≢false, false≢true}
use mathlib.Core.List.{List, [], ◌∷◌, ◌++◌, append-nil}
use Prim.Native.Nat.{ℕ, zero, suc, ◌+◌, ◌-◌, ◌≤◌, ◌<◌, min, max}
use native.Mathlib.Omega.{arith}
use lib.Dec.{leb, ltb, eqb}
use lib.ListN.{length, get_or}
use lib.Ieee.{Float}
use borrow.Author.Tests.{leb-true, ltb-false, eqb-true}
use Rattle.rule.specs.Sizes.{most_rings}
use Rattle.rule.specs.Grid.{Point, at, positive}
use Rattle.rule.specs.Segment.{same}
use Rattle.rule.specs.Plain.{Candidate, indices, all, without, leave}
use Rattle.rule.specs.Preserve.{Minima, of_line, of_ring, ring_removals, rings_removals, leave_each, preserve_removed, preserve}
use Rattle.rule.specs.Rings.{rises, last_or, bad_table, rings_from, is_closed, joined, ends_from, line_rule, polygon_rule}
use Rattle.laws.specs.Times.{times}
use Rattle.laws.proofs.Removals.{curs, OneByOne, stops, one_makes, length_indices, length_all}
use Rattle.laws.proofs.Kept.{Up, up_from, Rising, rising_leave, rising_append, rising_indices, rising_all, Ends, one_ends, ends_all}
use Rattle.laws.proofs.RingRemovals.{ring_one, ring_keeps, ring_stays}

-- ---- each ring

leave_nil : (cs : List Candidate) → leave cs [] ≡ []
unfolding leave without
leave_nil [] = refl
leave_nil (c ∷ cs) = leave_nil cs

leave_each_at : (css : List (List Candidate)) (kss : List (List ℕ)) (k : ℕ) → get_or (leave_each css kss) k [] ≡ leave (get_or css k []) (get_or kss k [])
unfolding leave_each
leave_each_at [] kss k = unfold leave in refl
leave_each_at (cs ∷ css) [] k = sym (leave_nil (get_or (cs ∷ css) k []))
leave_each_at (cs ∷ css) (ks ∷ kss) zero = refl
leave_each_at (cs ∷ css) (ks ∷ kss) (suc k) = leave_each_at css kss k

leave_each_count : (css : List (List Candidate)) (kss : List (List ℕ)) → length (leave_each css kss) ≡ length kss
unfolding leave_each
leave_each_count [] kss = refl
leave_each_count (cs ∷ css) [] = refl
leave_each_count (cs ∷ css) (ks ∷ kss) = ap suc (leave_each_count css kss)

closed_ends : (ps : List Point) (a b : ℕ) (ks : List ℕ) → Ends a b ks → is_closed ps ks ≡ same (at ps a) (at ps b)
unfolding is_closed
closed_ends ps a b [] e = absurd e
closed_ends ps a b (k ∷ ks) e = rw (e.1, e.0)

closed_leave : (ps : List Point) (n : ℕ) (ks : List ℕ) (cs : List Candidate) → Up n ks → OneByOne ks cs → is_closed ps ks ≡ true → is_closed ps (leave cs ks) ≡ true
closed_leave ps n [] cs u r h = rw (leave_nil cs) h
closed_leave ps n (k ∷ ks) cs u r h = closed_ends ps k (last_or k ks) (leave cs (k ∷ ks)) (one_ends n k (last_or k ks) u r (refl, refl)) ∙ (unfold is_closed in h)

module _ (ps : List Point) (t : Float) (m : Minima) where
  -- what holds of a ring where nothing is removed, and of its removals beside any others, holds of each ring
  module _
      (P : List ℕ → List Candidate → Type 0)
      (none : (ks : List ℕ) → P ks [])
      (some : (others : List (List ℕ)) (ks : List ℕ) → P ks (ring_removals (length ks) ps t m others [] ks)) where
    rings_at : (thinned kss : List (List ℕ)) (k : ℕ) → P (get_or kss k []) (get_or (rings_removals ps t m thinned kss) k [])
    unfolding rings_removals
    rings_at thinned [] k = none []
    rings_at thinned (ks ∷ kss) zero = some (thinned ++ kss) ks
    rings_at thinned (ks ∷ kss) (suc k) = rings_at (thinned ++ (leave (ring_removals (length ks) ps t m (thinned ++ kss) [] ks) ks ∷ [])) kss k

    removed_at : (rings : List (List ℕ)) (k : ℕ) → P (get_or rings k []) (get_or (preserve_removed ps t m rings) k [])
    unfolding preserve_removed
    removed_at rings k = go (positive t)
      where
        go : (b : Bool) → P (get_or rings k []) (get_or (elim b as (λ _. List (List Candidate)) [ true ↦ rings_removals ps t m [] rings | false ↦ [] ]) k [])
        go true = rings_at [] rings k
        go false = none (get_or rings k [])

  module _ (rings : List (List ℕ)) (k : ℕ) where
    pub kept_at : get_or (preserve ps t m rings) k [] ≡ leave (get_or (preserve_removed ps t m rings) k []) (get_or rings k [])
    unfolding preserve
    kept_at = leave_each_at (preserve_removed ps t m rings) rings k

    -- The removals in a ring go one by one, each a candidate of what is left then.
    pub preserve_one : OneByOne (get_or rings k []) (get_or (preserve_removed ps t m rings) k [])
    preserve_one = removed_at OneByOne (λ ks. stops) (λ others ks. ring_one ps t m others (length ks) [] ks) rings k

    -- What is removed and what is kept make up the ring.
    pub preserve_makes : (x : ℕ)
        → times x (curs (get_or (preserve_removed ps t m rings) k [])) + times x (get_or (preserve ps t m rings) k []) ≡ times x (get_or rings k [])
    preserve_makes x = rw kept_at (one_makes x preserve_one)

    -- At least the first minimum is kept, or all there was.
    pub preserve_keeps : min m.first (length (get_or rings k [])) ≤ length (get_or (preserve ps t m rings) k [])
    preserve_keeps =
        rw kept_at
        (removed_at (λ ks cs. min m.first (length ks) ≤ length (leave cs ks))
        (λ ks. unfold leave in omega arith) (λ others ks. ring_keeps ps t m others (length ks) [] ks) rings k)

    -- A ring of at most the first minimum, or of fewer than three points, keeps all.
    pub preserve_few : length (get_or rings k []) ≤ max 2 m.first → get_or (preserve ps t m rings) k [] ≡ get_or rings k []
    preserve_few h = rw (kept_at, none_removed h) (unfold leave in refl)
      where
        none_removed : length (get_or rings k []) ≤ max 2 m.first → get_or (preserve_removed ps t m rings) k [] ≡ []
        none_removed =
            removed_at (λ ks cs. length ks ≤ max 2 m.first → cs ≡ []) (λ ks g. refl) (λ others ks. ring_stays ps t m others (length ks) [] ks) rings k

    -- What is kept of an increasing ring is increasing,
    pub preserve_rises : (lo hi : ℕ) → Rising lo hi (get_or rings k []) → Rising lo hi (get_or (preserve ps t m rings) k [])
    preserve_rises lo hi r = rw kept_at (rising_leave lo hi (get_or (preserve_removed ps t m rings) k []) (get_or rings k []) r)

    -- its ends stay,
    pub preserve_ends : (n a b : ℕ) → Up n (get_or rings k []) → Ends a b (get_or rings k []) → Ends a b (get_or (preserve ps t m rings) k [])
    preserve_ends n a b u e = rw kept_at (one_ends n a b u preserve_one e)

    -- so a closed ring is kept closed.
    pub preserve_closed : (n : ℕ) → Up n (get_or rings k []) → is_closed ps (get_or rings k []) ≡ true → is_closed ps (get_or (preserve ps t m rings) k []) ≡ true
    preserve_closed n u h = rw kept_at (closed_leave ps n (get_or rings k []) (get_or (preserve_removed ps t m rings) k []) u preserve_one h)

  -- ---- all rings

  -- As many rings as there were.
  pub preserve_count : (rings : List (List ℕ)) → length (preserve ps t m rings) ≡ length rings
  unfolding preserve
  preserve_count rings = leave_each_count (preserve_removed ps t m rings) rings

  -- A tolerance of zero or less keeps all.
  pub preserve_all : (rings : List (List ℕ)) → positive t ≡ false → preserve ps t m rings ≡ rings
  unfolding preserve preserve_removed leave_each
  preserve_all rings h = rw (h, preserve_removed)

-- ---- a line, as one ring

joined_one : (kss : List (List ℕ)) → length kss ≡ 1 → joined kss ≡ get_or kss 0 []
unfolding joined
joined_one [] h = refl
joined_one (ks ∷ []) h = append-nil ks
joined_one (ks ∷ ls ∷ kss) h = absurd (omega arith)

module _ (ps : List Point) (t : Float) where
  -- What is kept of a line is what is kept of the one ring.
  pub line_ring : line_rule ps t ≡ get_or (preserve ps t of_line (all ps ∷ [])) 0 []
  unfolding line_rule
  line_ring = joined_one (preserve ps t of_line (all ps ∷ [])) (preserve_count ps t of_line (all ps ∷ []))

  -- It is in order, each once and below the number of points;
  pub line_rises : Rising 0 (length ps) (line_rule ps t)
  line_rises = rw line_ring (preserve_rises ps t of_line (all ps ∷ []) 0 0 (length ps) (rising_all ps))

  -- the ends stay;
  pub line_ends : 0 < length ps → Ends 0 (length ps - 1) (line_rule ps t)
  line_ends h = rw line_ring (preserve_ends ps t of_line (all ps ∷ []) 0 0 0 (length ps - 1) (rising_all ps).up (ends_all ps h))

  -- fewer than three points: all kept;
  pub line_few : length ps < 3 → line_rule ps t ≡ all ps
  line_few h = line_ring ∙ preserve_few ps t of_line (all ps ∷ []) 0 (omega (arith, length_all ps))

  -- a tolerance of zero or less keeps all.
  pub line_all : positive t ≡ false → line_rule ps t ≡ all ps
  line_all h = line_ring ∙ ap (λ (kss : List (List ℕ)). get_or kss 0 []) (preserve_all ps t of_line (all ps ∷ []) h)

-- ---- the ring table

-- a good table of n points: not empty, at most 64, not decreasing, and the last entry is n
pub record Good (n : ℕ) (table : List ℕ) : Type 0 where
  pub nonempty : 0 < length table
  pub most : length table ≤ most_rings
  pub rise : rises 0 table ≡ true
  pub last : last_or 0 table ≡ n

-- a table that is not refused with 5 is good
pub table_good : (n : ℕ) (table : List ℕ) → bad_table n table ≡ false → Good n table
unfolding bad_table
table_good n [] h = absurd (true≢false h)
table_good n (hi ∷ his) h = go (ltb most_rings (length (hi ∷ his))) refl (rises 0 (hi ∷ his)) refl (eqb (last_or hi his) n) refl h
  where
    go : (a : Bool) → ltb most_rings (length (hi ∷ his)) ≡ a → (b : Bool) → rises 0 (hi ∷ his) ≡ b → (c : Bool) → eqb (last_or hi his) n ≡ c
        → (a || not b || not c) ≡ false → Good n (hi ∷ his)
    go true ea b eb c ec g = absurd (true≢false g)
    go false ea false eb c ec g = absurd (true≢false g)
    go false ea true eb false ec g = absurd (true≢false g)
    go false ea true eb true ec g =
        record { nonempty = omega arith; most = ltb-false most_rings (length (hi ∷ his)) ea; rise = eb; last = eqb-true (last_or hi his) n ec }

-- the first entry is not below lo, and the others rise from it
pub rises_cons : (lo hi : ℕ) (his : List ℕ) → rises lo (hi ∷ his) ≡ true → (lo ≤ hi) × (rises hi his ≡ true)
unfolding rises
rises_cons lo hi his h = go (leb lo hi) refl h
  where
    go : (b : Bool) → leb lo hi ≡ b → (b && rises hi his) ≡ true → (lo ≤ hi) × (rises hi his ≡ true)
    go true e g = (leb-true lo hi e, g)
    go false e g = absurd (false≢true g)

pub rises_last : (lo : ℕ) (table : List ℕ) → rises lo table ≡ true → lo ≤ last_or lo table
rises_last lo [] h = omega arith
rises_last lo (hi ∷ his) h = let r = rises_cons lo hi his h in omega (arith, r.0, rises_last hi his r.1)

indices_append : (i m j n k : ℕ) → i + m ≡ j → m + n ≡ k → indices i m ++ indices j n ≡ indices i k
unfolding indices
indices_append i zero j n k h g = let e : j ≡ i = omega arith in let d : n ≡ k = omega arith in rw (e, d)
indices_append i (suc m) j n zero h g = absurd (omega arith)
indices_append i (suc m) j n (suc k) h g = ap (λ (l : List ℕ). i ∷ l) (indices_append (suc i) m j n k (omega arith) (omega arith))

joins_from : (lo n : ℕ) (table : List ℕ) → rises lo table ≡ true → lo + n ≡ last_or lo table → joined (rings_from lo table) ≡ indices lo n
unfolding joined rings_from
joins_from lo n [] h g = let e : n ≡ 0 = omega arith in rw e (unfold indices in refl)
joins_from lo n (hi ∷ his) h g =
    let r = rises_cons lo hi his h in
    let l = rises_last hi his r.1 in
    rw (joins_from hi (last_or hi his - hi) his r.1 (omega arith)) (indices_append lo (hi - lo) hi (last_or hi his - hi) n (omega (arith, r.0)) (omega (arith, r.0)))

ends_from_lem : (lo : ℕ) (table : List ℕ) → rises lo table ≡ true → ends_from lo (rings_from lo table) ≡ table
unfolding ends_from rings_from
ends_from_lem lo [] h = refl
ends_from_lem lo (hi ∷ his) h =
    let r = rises_cons lo hi his h in
    let e : lo + length (indices lo (hi - lo)) ≡ hi = omega (arith, r.0, length_indices lo (hi - lo)) in
    rw e (ap (λ (l : List ℕ). hi ∷ l) (ends_from_lem hi his r.1))

-- what is left of rings that follow each other, joined
leave_rises : (lo : ℕ) (table : List ℕ) (css : List (List Candidate)) → rises lo table ≡ true → Rising lo (last_or lo table) (joined (leave_each css (rings_from lo table)))
unfolding joined rings_from leave_each
leave_rises lo [] [] h = record { up = tt; below = tt }
leave_rises lo [] (cs ∷ css) h = record { up = tt; below = tt }
leave_rises lo (hi ∷ his) css h = go css (λ (c : List (List Candidate)). leave_rises hi his c r.1)
  where
    r : (lo ≤ hi) × (rises hi his ≡ true)
    r = rises_cons lo hi his h

    ring : Rising lo hi (indices lo (hi - lo))
    ring = subst (λ (n : ℕ). Rising lo n (indices lo (hi - lo))) (omega (arith, r.0)) (rising_indices lo (hi - lo))

    go : (css : List (List Candidate)) → ((c : List (List Candidate)) → Rising hi (last_or hi his) (joined (leave_each c (rings_from hi his))))
        → Rising lo (last_or hi his) (joined (leave_each css (indices lo (hi - lo) ∷ rings_from hi his)))
    go [] q = rising_append lo hi (last_or hi his) (indices lo (hi - lo)) (joined (rings_from hi his)) r.0 (rises_last hi his r.1) ring (q [])
    go (cs ∷ css) q =
        rising_append lo hi (last_or hi his) (leave cs (indices lo (hi - lo))) (joined (leave_each css (rings_from hi his)))
        r.0 (rises_last hi his r.1) (rising_leave lo hi cs (indices lo (hi - lo)) ring) (q css)

ring_up : (lo : ℕ) (table : List ℕ) (k : ℕ) → Up 0 (get_or (rings_from lo table) k [])
unfolding rings_from
ring_up lo [] k = tt
ring_up lo (hi ∷ his) zero = up_from 0 lo (indices lo (hi - lo)) (omega arith) (rising_indices lo (hi - lo)).up
ring_up lo (hi ∷ his) (suc k) = ring_up hi his k

rings_count : (lo : ℕ) (table : List ℕ) → length (rings_from lo table) ≡ length table
unfolding rings_from
rings_count lo [] = refl
rings_count lo (hi ∷ his) = ap suc (rings_count hi his)

ends_count : (lo : ℕ) (kss : List (List ℕ)) → length (ends_from lo kss) ≡ length kss
unfolding ends_from
ends_count lo [] = refl
ends_count lo (ks ∷ kss) = ap suc (ends_count (lo + length ks) kss)

module _ (n : ℕ) (table : List ℕ) (good : bad_table n table ≡ false) where
  -- The rings of a good table are all points, in order;
  pub table_joins : joined (rings_from 0 table) ≡ indices 0 n
  table_joins = let g = table_good n table good in joins_from 0 n table g.rise (omega (arith, g.last))

  -- and their ring table is that table.
  pub table_ends : ends_from 0 (rings_from 0 table) ≡ table
  table_ends = ends_from_lem 0 table (table_good n table good).rise

  -- The kept list of a polygon is in order, each once and below the number of points.
  pub polygon_rises : (ps : List Point) (t : Float) → Rising 0 n (joined (polygon_rule ps t table))
  unfolding polygon_rule preserve
  polygon_rises ps t =
      let g = table_good n table good in
      subst (λ (k : ℕ). Rising 0 k (joined (leave_each (preserve_removed ps t of_ring (rings_from 0 table)) (rings_from 0 table)))) g.last
      (leave_rises 0 table (preserve_removed ps t of_ring (rings_from 0 table)) g.rise)

-- A tolerance of zero or less keeps all.
pub polygon_all : (ps : List Point) (t : Float) (table : List ℕ) → positive t ≡ false → polygon_rule ps t table ≡ rings_from 0 table
unfolding polygon_rule
polygon_all ps t table h = preserve_all ps t of_ring (rings_from 0 table) h

-- The ends of each ring stay: the first is kept as the first, and the last as the last.
pub polygon_ends : (ps : List Point) (t : Float) (table : List ℕ) (k a : ℕ) (ks : List ℕ) → get_or (rings_from 0 table) k [] ≡ a ∷ ks
    → Ends a (last_or a ks) (get_or (polygon_rule ps t table) k [])
unfolding polygon_rule
polygon_ends ps t table k a ks e =
    preserve_ends ps t of_ring (rings_from 0 table) k 0 a (last_or a ks) (ring_up 0 table k) (subst (Ends a (last_or a ks)) (sym e) (refl, refl))

-- As many rings as there were,
pub polygon_count : (ps : List Point) (t : Float) (table : List ℕ) → length (polygon_rule ps t table) ≡ length table
unfolding polygon_rule
polygon_count ps t table = preserve_count ps t of_ring (rings_from 0 table) ∙ rings_count 0 table

-- and as many entries in their ring table.
pub polygon_entries : (ps : List Point) (t : Float) (table : List ℕ) → length (ends_from 0 (polygon_rule ps t table)) ≡ length table
polygon_entries ps t table = ends_count 0 (polygon_rule ps t table) ∙ polygon_count ps t table
