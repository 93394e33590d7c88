-- `simplify_vw_preserve::link_rings` meets its contract. Assumes nothing.
use native.Mathlib.Omega.{arith}
use Rattle.ring_reasons.proofs.Cut.{next_from, next_to}
use Rattle.simplify_vw_preserve.proofs.Thinning.{linking_more, linking_end}
use Rattle.simplify_vw_preserve.proofs.link_rings.Goals as goal

pub link-requires : goal.link-requires
link-requires c =
    let s = c.loop-end.invariant in
    let z = c.requires in
    (omega (arith, z.0, s.size), z.1, next_from s.table c.loop-end-test.true, next_to s.table c.loop-end-test.true)

pub loop-end-preserved : goal.loop-end-preserved
loop-end-preserved c = linking_more c.loop-end.invariant c.loop-end-test.true c.link.auto.words c.link.ensures

pub returns : goal.returns
returns c = linking_end c.loop-end.invariant c.loop-end-test.false
