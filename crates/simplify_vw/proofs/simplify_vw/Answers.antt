-- `simplify_vw::simplify_vw` meets its contract. Assumes nothing.
use mathlib.Core.Path.{sym, ◌∙◌}
use Rattle.rule.specs.Grid.{points}
use Rattle.rule.specs.Plain.{all, point_rule}
use Rattle.laws.proofs.Tolerance.{point_all, point_index}
use Rattle.lent.proofs.Points.{length_points}
use Rattle.reasons.proofs.Ready.{thin_accepted}
use Rattle.ending.proofs.Whole.{thins_done}
use Rattle.simplify_vw.proofs.simplify_vw.Goals as goal

pub visvalingam_indices-requires : goal.visvalingam_indices-requires
visvalingam_indices-requires c = thin_accepted _ _ _ _ c.in_ok-thin_reason.was c.thin_reason.ensures

pub returns-then-tolerance_positive : goal.returns-then-tolerance_positive
returns-then-tolerance_positive c =
    let ps = points c.args.x.now c.args.y.now in
    thins_done _ _ _ _ c.in_ok-thin_reason.was c.thin_reason.ensures point_rule
    (rw (point_index ps c.args.tolerance (sym c.tolerance_positive.ensures ∙ c.if-tolerance_positive.true)) c.visvalingam_indices.ensures)

pub all_indices-requires : goal.all_indices-requires
all_indices-requires c =
    let r = thin_accepted _ _ _ _ c.in_ok-thin_reason.was c.thin_reason.ensures in
    (r.fine.few, r.room, r.floats, r.words)

pub returns : goal.returns
unfolding all
returns c =
    let ps = points c.args.x.now c.args.y.now in
    let fine = (thin_accepted _ _ _ _ c.in_ok-thin_reason.was c.thin_reason.ensures).fine in
    thins_done _ _ _ _ c.in_ok-thin_reason.was c.thin_reason.ensures point_rule
    (rw (point_all ps c.args.tolerance (sym c.tolerance_positive.ensures ∙ c.if-tolerance_positive.false), length_points fine) c.all_indices.ensures)
