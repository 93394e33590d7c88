-- `remove_repeated_points::keep_new` meets its contract. Assumes nothing.
use Rattle.std.proofs.lemmas.Result.{err_from_is_err_and}
use Rattle.reasons.proofs.Verdict.{accepted, refused_call}
use Rattle.lent.proofs.Rows.{repeat_fine, repeat_room}
use Rattle.remove_repeated_points.proofs.Calls.{listed_call}
use Rattle.remove_repeated_points.proofs.keep_new.Goals as goal

pub invariant_of-list_new : goal.invariant_of-list_new
invariant_of-list_new c = record { fine = repeat_fine _ _ _ (accepted _ _ c.in_ok-repeat_reason.ensures) }

pub list_new-requires : goal.list_new-requires
list_new-requires c = repeat_room _ _ _ (accepted _ _ c.in_ok-repeat_reason.ensures)

pub returns-in_err-repeat_reason : goal.returns-in_err-repeat_reason
returns-in_err-repeat_reason c =
    let p = err_from_is_err_and c.from_residual.result c.from_residual.ensures.1 in
    rw (p.1, p.2) (refused_call _ _ c.in_err-repeat_reason.ensures)

pub returns : goal.returns
returns c = listed_call _ _ _ (accepted _ _ c.in_ok-repeat_reason.ensures) c.list_new.ensures
