-- The preserving rule. A line is one ring with the minima 2 and 4; the rings of a polygon have 4 and 5. Assumes nothing.
use Rattle.std.specs.Prelude.{Bool, true, false, not, ◌&&◌, ◌||◌, cond, List, [], ◌∷◌, ◌++◌, ℕ, zero, suc, leb, eqb, length, Float}
use Rattle.std.proofs.Math.Option.{Option, none, some}
use Rattle.std.specs.Float.Ieee.{neg}
use Rattle.rule.specs.Grid.{Point, at, area2, half, within, positive}
use Rattle.rule.specs.Segment.{same, meets}
use Rattle.rule.specs.Plain.{Candidate, least, without, leave, area_at}

pub record Minima : Type 0 where
  pub first : ℕ
  pub second : ℕ

abbrev pub of_line : Minima
of_line = record { first = 2; second = 4 }

abbrev pub of_ring : Minima
of_ring = record { first = 4; second = 5 }

-- ---- demoted candidates

unfoldable pub member : ℕ → List ℕ → Bool
member i [] = false
member i (k ∷ ks) = eqb i k || member i ks

-- The area that a candidate has: minus the tolerance while it is demoted.
unfoldable pub area_of : List Point → Float → List ℕ → ℕ → ℕ → ℕ → Float
unfolding member area2 half neg
area_of ps t dem a b c = cond (member b dem) (neg t) (half (area_at ps a b c))

-- Its score, in the order of these areas for a tolerance above zero: 0 for minus the tolerance, and d + 1 for half of d.
unfoldable pub score_of : List Point → List ℕ → ℕ → ℕ → ℕ → ℕ
unfolding member area2
score_of ps dem a b c = cond (member b dem) 0 (suc (area_at ps a b c))

-- the area of that score is at most the tolerance
unfoldable pub score_within : ℕ → Float → Bool
unfolding within
score_within zero t = true
score_within (suc d) t = within d t

-- ---- crossing

-- The present segment from a to b stands against the new one from l to r: no end of one equals an end of the other, and they share a point.
unfoldable pub against : List Point → ℕ → ℕ → ℕ → ℕ → Bool
unfolding same meets
against ps l r a b =
    not (same (at ps a) (at ps l) || same (at ps a) (at ps r) || same (at ps b) (at ps l) || same (at ps b) (at ps r))
    && meets (at ps a) (at ps b) (at ps l) (at ps r)

-- a segment of the ring of these kept indices
unfoldable pub against_ring : List Point → ℕ → ℕ → List ℕ → Bool
unfolding against
against_ring ps l r [] = false
against_ring ps l r (a ∷ []) = false
against_ring ps l r (a ∷ b ∷ ks) = against ps l r a b || against_ring ps l r (b ∷ ks)

-- some present segment of any ring
unfoldable pub crosses : List Point → ℕ → ℕ → List (List ℕ) → Bool
unfolding against_ring
crosses ps l r [] = false
crosses ps l r (ks ∷ kss) = against_ring ps l r ks || crosses ps l r kss

-- ---- one ring

-- what the rule does next: stop, or remove a candidate, whose new segment crossed or did not
pub data Move : Type 0 where
  stop : Move
  remove : Candidate → Bool → Move

-- steps 2 and 4, with the count of kept points
unfoldable pub unless_few : Minima → ℕ → Candidate → Bool → Move
unless_few m count c crossed = cond (leb count m.first || (crossed && leb count m.second)) stop (remove c crossed)

-- steps 1 to 4, beside the other rings, for the least candidate
unfoldable pub move_of : List Point → Float → Minima → List (List ℕ) → List ℕ → Option Candidate → Move
unfolding score_within unless_few crosses
move_of ps t m others ks none = stop
move_of ps t m others ks (some c) =
    elim (score_within c.score t) [
      | true ↦ unless_few m (length ks) c (crosses ps c.left c.right (ks ∷ others))
      | false ↦ stop
    ]

unfoldable pub move : List Point → Float → Minima → List (List ℕ) → List ℕ → List ℕ → Move
unfolding least score_of move_of
move ps t m others dem ks = move_of ps t m others ks (least (score_of ps dem) ks)

-- Step 5: both neighbours of what was removed have their own area again, but the left one is demoted if the new segment crossed.
-- (The first point of a ring is no candidate, so it does not matter that it may stand in the list.)
unfoldable pub demoted : Candidate → Bool → List ℕ → List ℕ
unfolding without
demoted c crossed dem = let d = without c.left (without c.right dem) in cond crossed (c.left ∷ d) d

-- the first n removals in a ring, beside the other rings
unfoldable pub ring_removals : ℕ → List Point → Float → Minima → List (List ℕ) → List ℕ → List ℕ → List Candidate
unfolding move without demoted
ring_removals zero ps t m others dem ks = []
ring_removals (suc n) ps t m others dem ks =
    elim (move ps t m others dem ks) [
      | stop ↦ []
      | remove c crossed ↦ c ∷ ring_removals n ps t m others (demoted c crossed dem) (without c.current ks)
    ]

-- ---- all rings

-- The removals in each, in order: a ring stands beside the earlier ones already thinned and the later ones whole.
unfoldable pub rings_removals : List Point → Float → Minima → List (List ℕ) → List (List ℕ) → List (List Candidate)
unfolding ring_removals leave
rings_removals ps t m thinned [] = []
rings_removals ps t m thinned (ks ∷ kss) =
    let cs = ring_removals (length ks) ps t m (thinned ++ kss) [] ks in
    cs ∷ rings_removals ps t m (thinned ++ (leave cs ks ∷ [])) kss

unfoldable pub leave_each : List (List Candidate) → List (List ℕ) → List (List ℕ)
unfolding leave
leave_each [] kss = kss
leave_each (cs ∷ css) [] = []
leave_each (cs ∷ css) (ks ∷ kss) = leave cs ks ∷ leave_each css kss

-- the removals in each ring; a tolerance of zero or less makes none
unfoldable pub preserve_removed : List Point → Float → Minima → List (List ℕ) → List (List Candidate)
unfolding positive rings_removals
preserve_removed ps t m rings = elim (positive t) [ true ↦ rings_removals ps t m [] rings | false ↦ [] ]

-- the indices kept in each ring
unfoldable pub preserve : List Point → Float → Minima → List (List ℕ) → List (List ℕ)
unfolding preserve_removed leave_each
preserve ps t m rings = leave_each (preserve_removed ps t m rings) rings
