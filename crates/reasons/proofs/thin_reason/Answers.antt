-- `reasons::thin_reason` meets its contract: the reasons of a line, then those of the output and of the scratch. Assumes nothing.
use lib.Dec.{ltb}
use lib.ListN.{length}
use Rattle.std.proofs.lemmas.Result.{err_from_is_err_and}
use Rattle.rule.specs.Reasons.{first_off_grid, line_rows, thin_reason}
use Rattle.reasons.specs.Verdict.{memory_rows}
use Rattle.reasons.proofs.Verdict.{refused_before, rows_passed}
use Rattle.reasons.proofs.thin_reason.Goals as goal

pub returns-in_err-line_reason : goal.returns-in_err-line_reason
unfolding thin_reason
returns-in_err-line_reason c =
    let us = c.args.x.now in
    let vs = c.args.y.now in
    let more = memory_rows (ltb c.args.room (length us)) (length c.args.floats.now) (length c.args.words.now) (length us) in
    let e = c.in_err-line_reason in
    let p = err_from_is_err_and c.from_residual.result c.from_residual.ensures.1 in
    rw (p.1, p.2) (refused_before (first_off_grid us vs) (line_rows us vs c.args.tolerance) more e.field-0.0 e.ensures)

pub returns : goal.returns
unfolding thin_reason
returns c =
    let us = c.args.x.now in
    let vs = c.args.y.now in
    let off = first_off_grid us vs in
    let more = memory_rows (ltb c.args.room (length us)) (length c.args.floats.now) (length c.args.words.now) (length us) in
    rw (rows_passed off (line_rows us vs c.args.tolerance) more tt c.line_reason.ensures c.in_ok-line_reason.was, ← c.output_short.ensures)
    (c.memory_reason.ensures off)
