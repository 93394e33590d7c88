-- `links::Linked::list_kept` meets its contract. Assumes nothing.
use mathlib.Core.Path.{sym, ◌∙◌}
use native.Mathlib.Omega.{arith}
use Rattle.links.proofs.Listing.{listing_start, listing_kept, listing_full, listing_gone, listing_as}
use Rattle.links.proofs.Linked.list_kept.Goals as goal
use Rattle.links.proofs.Linked.list_kept.Goals.{then-kept+then-count-out, else-kept, else-kept-via-then-kept+else-count-out, else-kept-via-else-kept}

pub loop-i-init : goal.loop-i-init
loop-i-init c = listing_start _ _

pub loop-i-preserved : goal.loop-i-preserved
loop-i-preserved c =
    let s = c.loop-i.invariant in
    elim c.if-kept.branch [
      | then-kept+then-count-out w ↦
          listing_as w.out-is w.count-is (listing_kept s (sym c.kept.ensures ∙ w.if-kept.true) (omega (arith, w.if-count-out.true)))
      | else-kept w ↦
          listing_as w.out-is w.count-is (elim w.else-kept.branch [
            | else-kept-via-then-kept+else-count-out v ↦ listing_full s (sym c.kept.ensures ∙ v.if-kept.true) (omega (arith, v.if-count-out.false))
            | else-kept-via-else-kept v ↦ listing_gone s (sym c.kept.ensures ∙ v.if-kept.false)
          ])
    ]
