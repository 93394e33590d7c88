-- `ring_reasons::polygon_reason` meets its contract: the reasons of a line, then those of the rings, the outputs and the scratch. Assumes nothing.
use mathlib.Core.Path.{◌≡◌, sym}
use mathlib.Core.Bool.{◌||◌}
use mathlib.Core.List.{List, ◌∷◌}
use Prim.Native.Nat.{ℕ}
use lib.Dec.{ltb}
use lib.ListN.{length}
use lib.Ieee.{Float}
use Rattle.std.specs.Prelude.{⊤, Result, Ok}
use Rattle.std.proofs.lemmas.Result.{err_from_is_err_and}
use Rattle.rule.specs.declared.Reason.{Reason}
use Rattle.rule.specs.Answers.{of_outcome}
use Rattle.rule.specs.Reasons.{Row, first_of, first_off_grid, line_rows, ring_table, ring_not_closed, polygon_reason}
use Rattle.reasons.specs.Verdict.{verdict, memory_rows}
use Rattle.reasons.proofs.Verdict.{accepted, refused_before, rows_passed}
use Rattle.lent.proofs.Rows.{line_fine}
use Rattle.ring_reasons.proofs.Table.{table_cuts}
use Rattle.ring_reasons.proofs.polygon_reason.Goals as goal

-- the rows that are left after those of the line
abbrev more : (us vs : List Float) (table : List ℕ) (room ends floats words : ℕ) → List Row
more us vs table room ends floats words =
    let short = ltb room (length us) || ltb ends (length table) in
    ring_table (length us) table ∷ ring_not_closed us vs table ∷ memory_rows short floats words (length us)

-- the line's tests found no reason
then : {o : Result ⊤ Reason} (us vs : List Float) (tolerance : Float) (table : List ℕ) (room ends floats words : ℕ)
    → of_outcome o ≡ verdict (first_of (line_rows us vs tolerance)) (first_off_grid us vs) → o ≡ Ok tt
    → polygon_reason us vs tolerance table room ends floats words ≡ first_of (more us vs table room ends floats words)
unfolding polygon_reason
then us vs tolerance table room ends floats words t e =
    rows_passed (first_off_grid us vs) (line_rows us vs tolerance) (more us vs table room ends floats words) tt t e

pub returns-in_err-line_reason : goal.returns-in_err-line_reason
unfolding polygon_reason
returns-in_err-line_reason c =
    let a = c.args in
    let us = a.x.now in
    let vs = a.y.now in
    let left = more us vs a.rings.now a.room a.ends (length a.floats.now) (length a.words.now) in
    let e = c.in_err-line_reason in
    let p = err_from_is_err_and c.from_residual.result c.from_residual.ensures.1 in
    rw (p.1, p.2) (refused_before (first_off_grid us vs) (line_rows us vs a.tolerance) left e.field-0.0 e.ensures)

pub returns-then-table_bad : goal.returns-then-table_bad
returns-then-table_bad c =
    let a = c.args in
    rw (then a.x.now a.y.now a.tolerance a.rings.now a.room a.ends _ _ c.line_reason.ensures c.in_ok-line_reason.was, ← c.if-table_bad.ensures)

pub invariant_of-some_open : goal.invariant_of-some_open
invariant_of-some_open c = record { fine = line_fine _ _ c.args.tolerance (accepted _ _ c.in_ok-line_reason.ensures) }

pub some_open-requires : goal.some_open-requires
some_open-requires c = table_cuts _ _ (sym c.if-table_bad.ensures)

pub returns-then-some_open : goal.returns-then-some_open
returns-then-some_open c =
    let a = c.args in
    rw (
      then a.x.now a.y.now a.tolerance a.rings.now a.room a.ends _ _ c.line_reason.ensures c.in_ok-line_reason.was,
      ← c.if-table_bad.ensures,
      ← c.if-some_open.ensures,
    )

pub returns : goal.returns
returns c =
    let a = c.args in
    rw (
      then a.x.now a.y.now a.tolerance a.rings.now a.room a.ends _ _ c.line_reason.ensures c.in_ok-line_reason.was,
      ← c.if-table_bad.ensures,
      ← c.if-some_open.ensures,
      ← c.outputs_short.ensures,
    )
    (c.memory_reason.ensures (first_off_grid a.x.now a.y.now))
