-- What the tests of a slot say: refused, or the area is long enough and has the slot. Assumes nothing.
use mathlib.Core.Path.{◌≡◌, refl}
use mathlib.Core.Bool.{Bool, true, false, not, cond}
use mathlib.Core.List.{List, [], ◌∷◌}
use mathlib.Core.Option.{Option, none}
use Prim.Native.Nat.{ℕ, ◌<◌}
use native.Mathlib.Omega.{arith}
use lib.Dec.{ltb}
use lib.Ieee.{Float}
use borrow.Author.Tests.{ltb-true, not-false}
use Rattle.rule.specs.Sizes.{slots}
use Rattle.rule.specs.declared.Reason.{Reason}
use Rattle.rule.specs.Answers.{done, refused_for}
use Rattle.rule.specs.Area.{Area, area, part, is_open}
use Rattle.rule.specs.Reasons.{Row, first_of, area_short, no_such_slot, output_short, line_rows, open_reason, slot_reason, read_reason}
use Rattle.rule.proofs.Parts.{Long, long}
use Rattle.reasons.specs.Verdict.{verdict}
use Rattle.slot_reasons.specs.Place.{place_reason}

pub record HasSlot (k : ℕ) (a : Area) : Type 0 where
  pub enough : (area_short a).applies ≡ false
  pub there : (no_such_slot k).applies ≡ false

module _ (k : ℕ) (a : Area) where
  -- no 8 and no 9
  pub has_slot : done ≡ verdict (place_reason k a) none → HasSlot k a
  has_slot e = go (area_short a).applies (no_such_slot k).applies refl refl e
    where
      go : (x y : Bool) → (area_short a).applies ≡ x → (no_such_slot k).applies ≡ y → done ≡ verdict (cond x 8 (cond y 9 0)) none → HasSlot k a
      go true y f g e = absurd (let z : ◌≡◌ {A = ℕ} 0 1 = cc in omega arith)
      go false true f g e = absurd (let z : ◌≡◌ {A = ℕ} 0 1 = cc in omega arith)
      go false false f g e = record { enough = f; there = g }

  -- 8 or 9, whatever rows come later
  pub no_slot : (off : Option ℕ) (rs : List Row) (w : Reason) → refused_for w ≡ verdict (place_reason k a) none
      → refused_for w ≡ verdict (first_of (area_short a ∷ no_such_slot k ∷ rs)) off
  no_slot off rs w e = go (area_short a).applies (no_such_slot k).applies e
    where
      go : (x y : Bool) → refused_for w ≡ verdict (cond x 8 (cond y 9 0)) none → refused_for w ≡ verdict (cond x 8 (cond y 9 (first_of rs))) off
      go true y e = e
      go false true e = e
      go false false e = absurd (let z : ◌≡◌ {A = ℕ} 0 1 = cc in omega arith)

module _ {k : ℕ} {a : Area} (h : HasSlot k a) where
  pub below : k < slots
  below = ltb-true k slots (not-false (ltb k slots) h.there)

  pub long_enough : Long a
  long_enough = long a h.enough

-- ---- what it says that no reason applies

pub record Opened (k : ℕ) (a : Area) : Type 0 where
  pub place : HasSlot k a
  pub open_is : is_open (part k a) ≡ true

module _ (k : ℕ) (a : Area) where
  pub slot_opened : slot_reason k a ≡ 0 → Opened k a
  unfolding slot_reason
  slot_opened e = go (area_short a).applies (no_such_slot k).applies (is_open (part k a)) refl refl refl e
    where
      go : (x y z : Bool) → (area_short a).applies ≡ x → (no_such_slot k).applies ≡ y → is_open (part k a) ≡ z
          → ◌≡◌ {A = ℕ} (cond x 8 (cond y 9 (cond (not z) 11 0))) 0 → Opened k a
      go true y z f g h e = absurd (omega arith)
      go false true z f g h e = absurd (omega arith)
      go false false true f g h e = record { place = record { enough = f; there = g }; open_is = h }
      go false false false f g h e = absurd (omega arith)

  pub open_has_slot : (us vs : List Float) (t : Float) → open_reason k us vs t a ≡ 0 → HasSlot k a × (first_of (line_rows us vs t) ≡ 0)
  unfolding open_reason
  open_has_slot us vs t e = go (area_short a).applies (no_such_slot k).applies (is_open (part k a)) refl refl e
    where
      go : (x y z : Bool) → (area_short a).applies ≡ x → (no_such_slot k).applies ≡ y → ◌≡◌ {A = ℕ} (cond x 8 (cond y 9 (cond z 10 (first_of (line_rows us vs t))))) 0
          → HasSlot k a × (first_of (line_rows us vs t) ≡ 0)
      go true y z f g e = absurd (omega arith)
      go false true z f g e = absurd (omega arith)
      go false false true f g e = absurd (omega arith)
      go false false false f g e = (record { enough = f; there = g }, e)

  -- of a slot that is open: 7 or none
  pub read_then : Opened k a → (room left : ℕ) → read_reason k a room left ≡ first_of (output_short room left ∷ [])
  unfolding read_reason
  read_then h room left = rw (h.place.enough, h.place.there, h.open_is)

-- a test of an open slot looks at its words alone
pub open_words : (k : ℕ) (fs : List Float) (ws : List ℕ) → is_open (part k (area fs ws)) ≡ is_open (part k (area [] ws))
unfolding is_open
open_words k fs ws = refl
