-- `links::Linked::count_below` meets its contract. Assumes nothing.
use mathlib.Core.Path.{◌≡◌, sym, ◌∙◌}
use native.Mathlib.Omega.{arith}
use Rattle.links.proofs.Listing.{counting_start, counting_kept, counting_gone, counting_as}
use Rattle.links.proofs.Linked.count_below.Goals as goal
use Rattle.links.proofs.Linked.count_below.Goals.{then-kept, else-kept}

pub loop-i-init : goal.loop-i-init
loop-i-init c = counting_start _

pub loop-i-preserved : goal.loop-i-preserved
loop-i-preserved c =
    let s = c.loop-i.invariant in
    elim c.if-kept.branch [
      | then-kept w ↦ counting_as w.below-is (counting_kept s (sym c.kept.ensures ∙ w.if-kept.true))
      | else-kept w ↦ counting_as w.below-is (counting_gone s (sym c.kept.ensures ∙ w.if-kept.false))
    ]

pub returns : goal.returns
returns c =
    let s = c.loop-i.invariant in
    let e : c.loop-i.i ≡ c.args.hi = omega (arith, c.loop-i-test.false) in
    (omega (arith, e, s.few), rw e at s.number)
