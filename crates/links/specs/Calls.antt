-- What the calls on links promise. Assumes nothing.
use Rattle.std.specs.Prelude.{◌≡◌, Bool, true, false, cond, List, ℕ, ◌+◌, ◌-◌, ltb, length, take}
use Rattle.layout.specs.declared.Layout.{Layout}
use Rattle.rule.specs.Plain.{indices}
use Rattle.rule.specs.Whole.{over}
use Rattle.vscore.specs.declared.VScore.{VScore}
use Rattle.links.specs.Words.{OnlyLinks}
use Rattle.links.specs.Ring.{all_unmarked, Ring, Live}

-- in a whole ring from lo to hi, the point before i and the point after it, or n for none
abbrev pub back : ℕ → ℕ → ℕ → ℕ
back lo n i = cond (ltb lo i) (i - 1) n

abbrev pub ahead : ℕ → ℕ → ℕ → ℕ
ahead hi n i = cond (ltb (i + 1) hi) (i + 1) n

-- the points from lo to hi are a ring of which every point is kept
pub record Joined (ws : List ℕ) (m : Layout) (lo hi : ℕ) (ws' : List ℕ) : Type 0 where
  pub ring : Ring ws' m lo hi (indices lo (hi - lo))
  pub only : OnlyLinks ws m lo hi ws'

-- is the score not stale
pub record LiveIs (ws : List ℕ) (m : Layout) (s : VScore) (r : Bool) : Type 0 where
  pub live : r ≡ true → Live ws m s
  pub stale : r ≡ false → Live ws m s → ⊥

-- the points without a mark, as many as there is room for, from the start of out
pub record Listed (ws : List ℕ) (m : Layout) (out out' : List ℕ) (r : ℕ) : Type 0 where
  pub number : r ≡ length (take (length out) (all_unmarked ws m))
  pub list : out' ≡ over (take (length out) (all_unmarked ws m)) out
