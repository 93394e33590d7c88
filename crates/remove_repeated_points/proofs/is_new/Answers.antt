-- `remove_repeated_points::is_new` meets its contract. Assumes nothing.
use mathlib.Core.Path.{◌≡◌, refl, ap, ◌∙◌}
use mathlib.Core.Bool.{not, ◌||◌}
use mathlib.Core.List.{List, [], ◌∷◌}
use Prim.Native.Nat.{ℕ, zero, suc, ◌+◌, ◌-◌, ◌<◌}
use lib.ListN.{length}
use native.Mathlib.Omega.{arith}
use Rattle.std.specs.Prelude.{Option, MatchOption}
use Rattle.std.specs.declared.iter.Rev.{Rev}
use Rattle.std.specs.declared.ops.Range.{Range}
use Rattle.std.specs.Iterator.Adapters.{rev_source, rev_steps}
use Rattle.std.proofs.Common.{rules, tests}
use Rattle.std.specs.List.{list_any}
use Rattle.std.proofs.lemmas.Iterator.{YieldsList}
use Rattle.std.proofs.lemmas.Iterator.Consumers.{YieldsList-from_shown}
use Rattle.std.proofs.lemmas.Iterator.Search.{any_from_yields_List}
use Rattle.rule.specs.Grid.{Point, points, at}
use Rattle.rule.specs.Segment.{same}
use Rattle.remove_repeated_points.specs.Back.{among, is_new}
use Rattle.remove_repeated_points.proofs.is_new.Goals as goal

-- ---- a range from its end

-- m places from a on, the last first
down : ℕ → ℕ → List ℕ
down a zero = []
down a (suc m) = (a + m) ∷ down a m

abbrev steps_down : Range ℕ → Option ℕ → Range ℕ → Type 0
steps_down s r t = (t.start ≡ s.start) × MatchOption r ((s.end - s.start ≡ 0) × (t.end ≡ s.end)) (λ x. (0 < s.end - s.start) × (x ≡ t.end) × (s.end ≡ t.end + 1))

abbrev left : Range ℕ → List ℕ
left s = down s.start (s.end - s.start)

one : (s : Range ℕ) (x : ℕ) (t : Range ℕ) → t.start ≡ s.start → 0 < s.end - s.start → x ≡ t.end → s.end ≡ t.end + 1 → left s ≡ x ∷ left t
unfolding down
one s x t a b c d =
    let m : s.end - s.start ≡ suc (t.end - t.start) = omega arith in
    let e : s.start + (t.end - t.start) ≡ x = omega arith in
    rw (m, e, a) refl

from_the_end : (s : Rev (Range ℕ)) → YieldsList (rev_steps steps_down) (λ x. x) s (left (rev_source s))
unfolding down
from_the_end = YieldsList-from_shown (rev_steps steps_down) (λ x. x) (λ s. left (rev_source s))
    (λ s t p. ap (λ n. length (down (rev_source s).start n)) p.1.0)
    (λ s x t p. one (rev_source s) x (rev_source t) p.0 p.1.0 p.1.1 p.1.2)

-- ---- the function

one_by_one : (ps : List Point) (p : Point) (a m : ℕ) → list_any (λ j. same p (at ps j)) (down a m) ≡ among ps p a m
unfolding among down
one_by_one ps p a zero = refl
one_by_one ps p a (suc m) = ap (λ b. same p (at ps (a + m)) || b) (one_by_one ps p a m)

pub returns : goal.returns
unfolding is_new
returns c =
    let ps = points c.args.p.x.now c.args.p.y.now in
    let p = at ps c.args.i in
    let from = c.args.i - c.args.back in
    let found = any_from_yields_List (λ j. same p (at ps j)) _ _ c.any.result c.any.ensures.ran (from_the_end c.rev.result) (λ x b q k. search (rules, tests)) in
    rw (c.rev.ensures.source, c.saturating_sub.ensures) at (ap not (found ∙ one_by_one ps p _ _))
