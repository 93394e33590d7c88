-- `simplify_vw_preserve::vwp_wrapper` meets its contract. The invariant: so many rings are thinned. Assumes nothing.
use mathlib.Core.Path.{sym, ◌∙◌}
use native.Mathlib.Omega.{arith}
use Rattle.blocks.proofs.Stored.{behind_free}
use Rattle.thin.proofs.Removing.{room_as}
use Rattle.ring_reasons.proofs.Cut.{next_from, next_to}
use Rattle.simplify_vw_preserve.proofs.Thinning.{wrapped_whole, thinning_more, thinning_end}
use Rattle.simplify_vw_preserve.proofs.vwp_wrapper.Goals as goal

pub returns-then-not-tolerance_positive : goal.returns-then-not-tolerance_positive
returns-then-not-tolerance_positive c =
    wrapped_whole c.requires.0 c.link_rings.ensures (sym c.tolerance_positive.ensures ∙ c.if-not-tolerance_positive.true)

pub visvalingam_preserve-requires : goal.visvalingam_preserve-requires
visvalingam_preserve-requires c =
    let s = c.loop-end.invariant in
    let z = c.requires in
    let f = s.floats ∙ c.set_up.auto.floats in (
      room_as f (s.words ∙ c.link_rings.auto.words) z.0,
      z.1,
      next_from s.table c.loop-end-test.true,
      next_to s.table c.loop-end-test.true,
      behind_free (omega (arith, f, z.3)) c.behind_heap-blocks.ensures,
    )

pub loop-end-preserved : goal.loop-end-preserved
loop-end-preserved c =
    thinning_more c.loop-end.invariant c.loop-end-test.true c.visvalingam_preserve.ensures c.visvalingam_preserve.auto.floats
    c.visvalingam_preserve.auto.words

pub returns : goal.returns
returns c =
    let z = c.requires in
    let h = c.behind_heap-blocks.ensures in
    thinning_end c.loop-end.invariant c.loop-end-test.false (sym c.tolerance_positive.ensures ∙ c.if-not-tolerance_positive.false)
    z.0 c.link_rings.ensures h (behind_free z.3 h).has c.set_up.ensures
