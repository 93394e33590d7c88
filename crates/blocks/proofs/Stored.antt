-- One box stored: it is there, and nothing else changed. Assumes nothing.
use mathlib.Core.Path.{◌≡◌, refl, ap, ◌∙◌}
use mathlib.Core.List.{List, [], ◌∷◌}
use Prim.Native.Nat.{ℕ, zero, suc, ◌+◌, ◌*◌, ◌≤◌, ◌<◌}
use native.Mathlib.Omega.{arith}
use lib.ListN.{length, get_or, set, length-set}
use lib.Seq.{get_or-set_same, get_or-set_other}
use lib.Ieee.{Float, nan}
use borrow.Rule.Slice.PartMut.{put_mid}
use Rattle.std.proofs.Math.Nat.{suc-add}
use Rattle.layout.specs.declared.Layout.{Layout}
use Rattle.bounds.specs.declared.Bounds.{Bounds}
use Rattle.blocks.specs.declared.Blocks.{Blocks}
use Rattle.blocks.specs.Boxes.{box_floats, box_from, box_at, boxes_end, behind_end, stored, HasBoxes, Free, BehindHeap}

module _ (fs : List Float) (o : ℕ) (c : Bounds) where
  abbrev first : List Float
  first = set fs o c.west

  abbrev second : List Float
  second = set first (o + 1) c.east

  abbrev third : List Float
  third = set second (o + 2) c.south

  pub stored_length : length (stored fs o c) ≡ length fs
  stored_length = simp length-set

  stored_other : (j : ℕ) → (j ≡ o → ⊥) → (j ≡ o + 1 → ⊥) → (j ≡ o + 2 → ⊥) → (j ≡ o + 3 → ⊥) → get_or (stored fs o c) j nan ≡ get_or fs j nan
  stored_other j p q r s =
      get_or-set_other third (o + 3) j c.north nan s ∙ get_or-set_other second (o + 2) j c.south nan r ∙ get_or-set_other first (o + 1) j c.east nan q
      ∙ get_or-set_other fs o j c.west nan p

  module _ (room : o + box_floats ≤ length fs) where
    west : get_or (stored fs o c) o nan ≡ c.west
    west =
        get_or-set_other third (o + 3) o c.north nan (λ e. omega arith) ∙ get_or-set_other second (o + 2) o c.south nan (λ e. omega arith)
        ∙ get_or-set_other first (o + 1) o c.east nan (λ e. omega arith) ∙ get_or-set_same fs o c.west nan (omega arith)

    east : get_or (stored fs o c) (o + 1) nan ≡ c.east
    east =
        get_or-set_other third (o + 3) (o + 1) c.north nan (λ e. omega arith) ∙ get_or-set_other second (o + 2) (o + 1) c.south nan (λ e. omega arith)
        ∙ get_or-set_same first (o + 1) c.east nan (simp length-set (omega arith))

    south : get_or (stored fs o c) (o + 2) nan ≡ c.south
    south =
        get_or-set_other third (o + 3) (o + 2) c.north nan (λ e. omega arith) ∙ get_or-set_same second (o + 2) c.south nan (simp length-set (omega arith))

    north : get_or (stored fs o c) (o + 3) nan ≡ c.north
    north = get_or-set_same third (o + 3) c.north nan (simp length-set (omega arith))

    stored_box : box_from (stored fs o c) o ≡ c
    stored_box i = record { west = west i; east = east i; south = south i; north = north i }

-- the same by a copy of its four floats over those that stand there
stored_copy : (fs : List Float) (o : ℕ) (c : Bounds) → o + box_floats ≤ length fs
    → put_mid o box_floats fs (c.west ∷ c.east ∷ c.south ∷ c.north ∷ []) ≡ stored fs o c
stored_copy [] o c room = absurd (omega arith)
stored_copy (u ∷ []) zero c room = absurd (omega arith)
stored_copy (u ∷ v ∷ []) zero c room = absurd (omega arith)
stored_copy (u ∷ v ∷ w ∷ []) zero c room = absurd (omega arith)
stored_copy (u ∷ v ∷ w ∷ x ∷ fs) zero c room = refl
stored_copy (u ∷ fs) (suc o) c room = simp suc-add (ap (λ gs. u ∷ gs) (stored_copy fs o c (omega arith)))

pub stored_part : (fs : List Float) (o n : ℕ) (ys : List Float) (c : Bounds) → o + box_floats ≤ length fs → n ≡ box_floats
    → ys ≡ c.west ∷ c.east ∷ c.south ∷ c.north ∷ [] → put_mid o n fs ys ≡ stored fs o c
stored_part fs o n ys c room e f = rw (e, f) (stored_copy fs o c room)

-- boxes are the same where the floats are
pub same_box : (fs fs' : List Float) (o : ℕ) → ((j : ℕ) → o ≤ j → j < o + box_floats → get_or fs' j nan ≡ get_or fs j nan) → box_from fs' o ≡ box_from fs o
same_box fs fs' o e i = record {
  west = e o (omega arith) (omega arith) i;
  east = e (o + 1) (omega arith) (omega arith) i;
  south = e (o + 2) (omega arith) (omega arith) i;
  north = e (o + 3) (omega arith) (omega arith) i;
}

-- nothing but the boxes changed
pub record OnlyBoxes (b : Blocks) (fs fs' : List Float) : Type 0 where
  pub before : (i : ℕ) → i < b.at → get_or fs' i nan ≡ get_or fs i nan
  pub after : (i : ℕ) → boxes_end b ≤ i → get_or fs' i nan ≡ get_or fs i nan

pub only_self : (b : Blocks) (fs : List Float) → OnlyBoxes b fs fs
only_self b fs = record { before = λ i h. refl; after = λ i h. refl }

pub only_then : {b : Blocks} {fs fs' fs'' : List Float} → OnlyBoxes b fs fs' → OnlyBoxes b fs' fs'' → OnlyBoxes b fs fs''
only_then f g = record { before = λ i h. g.before i h ∙ f.before i h; after = λ i h. g.after i h ∙ f.after i h }

-- the box of block k stored
module _ (b : Blocks) (fs : List Float) (k : ℕ) (c : Bounds) (low : k < b.number) where
  abbrev now : List Float
  now = stored fs (b.at + box_floats * k) c

  pub own_box : HasBoxes b fs → box_at now b k ≡ c
  own_box has = stored_box fs (b.at + box_floats * k) c (omega (arith, has.room))

  pub other_box : (n : ℕ) → (n ≡ k → ⊥) → box_at now b n ≡ box_at fs b n
  other_box n ne =
      same_box fs now (b.at + box_floats * n)
      (λ j p q. stored_other fs (b.at + box_floats * k) c j (λ e. ne (omega arith)) (λ e. ne (omega arith)) (λ e. ne (omega arith)) (λ e. ne (omega arith)))

  pub only_box : OnlyBoxes b fs now
  only_box = record {
    before = λ i h. stored_other fs (b.at + box_floats * k) c i (λ e. omega arith) (λ e. omega arith) (λ e. omega arith) (λ e. omega arith);
    after = λ i h. stored_other fs (b.at + box_floats * k) c i (λ e. omega arith) (λ e. omega arith) (λ e. omega arith) (λ e. omega arith);
  }

-- ---- memory as long has the same boxes

pub has_as : {b : Blocks} {fs fs' : List Float} → length fs' ≡ length fs → HasBoxes b fs → HasBoxes b fs'
has_as e h = record { some = h.some; room = omega (arith, h.room) }

pub free_as : {b : Blocks} {m : Layout} {fs fs' : List Float} → length fs' ≡ length fs → Free b m fs → Free b m fs'
free_as e h = record { has = has_as e h.has; past = h.past }

pub behind_free : {b : Blocks} {m : Layout} {fs : List Float} → behind_end m ≤ length fs → BehindHeap m b → Free b m fs
behind_free h s = record { has = record { some = s.some; room = omega (arith, s.start, s.few) }; past = omega (arith, s.start) }
