-- The order of scores is the rule's order of candidates, and the rule's areas are those of its scores. Assumes nothing.
use mathlib.Core.Path.{◌≡◌, refl}
use mathlib.Core.Bool.{Bool, true, false, not, cond}
use mathlib.Core.List.{List}
use Prim.Native.Nat.{ℕ, suc}
use lib.Dec.{ltb, eqb}
use lib.Ieee.{Float, neg, lt, eq}
use Rattle.rule.specs.Grid.{Point, half, is_finite, positive}
use Rattle.rule.specs.Plain.{before, area_at}
use Rattle.rule.specs.Preserve.{member, area_of, score_of, score_within}
use Rattle.vscore.specs.declared.VScore.{VScore}
use Rattle.vscore.specs.Score.{sooner, candidate}
use Rattle.vscore.specs.Scale.{Scale, Faithful, lowered, demotable}
use Rattle.vscore.proofs.Scales.{demotable_faithful, above_demotable}

pub sooner_is : {σ : Scale} → Faithful σ → (s u : VScore) (m n : ℕ) → s.area ≡ σ.value m → u.area ≡ σ.value n
    → sooner s u ≡ before (candidate s m) (candidate u n)
unfolding sooner before
sooner_is φ s u m n p q = rw (p, q, φ.less m n, φ.level m n)

-- ---- the preserving rule

pub area_is_score : (ps : List Point) (t : Float) (dem : List ℕ) (a b c : ℕ) → area_of ps t dem a b c ≡ (demotable t).value (score_of ps dem a b c)
unfolding area_of score_of
area_is_score ps t dem a b c = go (member b dem)
  where
    go : (x : Bool) → cond x (neg t) (half (area_at ps a b c)) ≡ lowered t (cond x 0 (suc (area_at ps a b c)))
    go true = refl
    go false = refl

module _ (ps : List Point) (t : Float) (dem : List ℕ) (p : positive t ≡ true) (a b c : ℕ) where
  pub lt_areas : (x y z : ℕ) → lt (area_of ps t dem a b c) (area_of ps t dem x y z) ≡ ltb (score_of ps dem a b c) (score_of ps dem x y z)
  lt_areas x y z =
      rw (area_is_score ps t dem a b c, area_is_score ps t dem x y z) ((demotable_faithful t p).less (score_of ps dem a b c) (score_of ps dem x y z))

  pub eq_areas : (x y z : ℕ) → eq (area_of ps t dem a b c) (area_of ps t dem x y z) ≡ eqb (score_of ps dem a b c) (score_of ps dem x y z)
  eq_areas x y z =
      rw (area_is_score ps t dem a b c, area_is_score ps t dem x y z) ((demotable_faithful t p).level (score_of ps dem a b c) (score_of ps dem x y z))

  pub above_area : is_finite t ≡ true → lt t (area_of ps t dem a b c) ≡ not (score_within (score_of ps dem a b c) t)
  above_area f = rw (area_is_score ps t dem a b c) (above_demotable t (score_of ps dem a b c) f p)
