-- `reasons::repeat_reason` meets its contract: the reasons of a line with a tolerance that is finite, then that of the output. Assumes nothing.
use mathlib.Core.Path.{◌≡◌, sym, ◌∙◌}
use mathlib.Core.Bool.{Bool, cond}
use mathlib.Core.List.{List, [], ◌∷◌}
use Prim.Native.Nat.{ℕ}
use lib.ListN.{length}
use lib.Ieee.{Float, of_bits}
use Rattle.std.specs.Prelude.{⊤, Result, Ok}
use Rattle.std.proofs.lemmas.Result.{err_from_is_err_and}
use Rattle.rule.specs.declared.Reason.{Reason}
use Rattle.rule.specs.Answers.{of_outcome}
use Rattle.rule.specs.Area.{zero_float}
use Rattle.rule.specs.Reasons.{first_of, first_off_grid, line_rows, output_short, repeat_reason}
use Rattle.reasons.specs.Verdict.{verdict}
use Rattle.reasons.proofs.Verdict.{refused_before, rows_passed}
use Rattle.reasons.proofs.repeat_reason.Goals as goal

-- after the reasons of the line
then : {o : Result ⊤ Reason} {b : Bool} (us vs : List Float) (room : ℕ) → of_outcome o ≡ verdict (first_of (line_rows us vs zero_float)) (first_off_grid us vs) → o ≡ Ok tt
    → (output_short room (length us)).applies ≡ b → repeat_reason us vs room ≡ cond b 7 0
unfolding repeat_reason
then us vs room t e h = rw (rows_passed (first_off_grid us vs) (line_rows us vs zero_float) (output_short room (length us) ∷ []) tt t e, h)

pub returns-in_err-line_reason : goal.returns-in_err-line_reason
unfolding repeat_reason of_bits
returns-in_err-line_reason c =
    let us = c.args.x.now in
    let vs = c.args.y.now in
    let e = c.in_err-line_reason in
    let p = err_from_is_err_and c.from_residual.result c.from_residual.ensures.1 in
    rw (p.1, p.2) (refused_before (first_off_grid us vs) (line_rows us vs zero_float) (output_short c.args.room (length us) ∷ []) e.field-0.0 e.ensures)

pub returns-then-output_short : goal.returns-then-output_short
unfolding of_bits
returns-then-output_short c =
    rw (then c.args.x.now c.args.y.now c.args.room c.line_reason.ensures c.in_ok-line_reason.was (sym c.output_short.ensures ∙ c.if-output_short.true))

pub returns : goal.returns
unfolding of_bits
returns c = rw (then c.args.x.now c.args.y.now c.args.room c.line_reason.ensures c.in_ok-line_reason.was (sym c.output_short.ensures ∙ c.if-output_short.false))
