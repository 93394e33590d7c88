-- A call that thins a line and whose tests found no reason: what it may rely on. Assumes nothing.
use mathlib.Core.Path.{◌≡◌}
use mathlib.Core.List.{List, ◌++◌}
use lib.Dec.{ltb}
use lib.ListN.{length}
use lib.Ieee.{Float}
use borrow.Author.Tests.{ltb-false}
use Rattle.std.specs.Prelude.{⊤, Result, Ok}
use Rattle.rule.specs.declared.Reason.{Reason}
use Rattle.rule.specs.Answers.{of_outcome}
use Rattle.rule.specs.Reasons.{first_off_grid, line_rows, thin_reason}
use Rattle.rule.specs.Whole.{Lent}
use Rattle.lent.specs.Fine.{Ready}
use Rattle.rule.proofs.Reasons.{none_applies}
use Rattle.lent.proofs.Rows.{ready_of}
use Rattle.reasons.specs.Verdict.{verdict, memory_rows}
use Rattle.reasons.proofs.Verdict.{as_told, accepted}

-- no reason of a call that thins a line
thin_ready : (us vs : List Float) (t : Float) (m : Lent) → thin_reason us vs t (length m.out) (length m.floats) (length m.words) ≡ 0 → Ready us vs t m
unfolding thin_reason
thin_ready us vs t m e =
    let more = memory_rows (ltb (length m.out) (length us)) (length m.floats) (length m.words) (length us) in
    let a = none_applies (line_rows us vs t ++ more) tt e in
    ready_of us vs t m more a (ltb-false (length m.out) (length us) a.1.1.1.1.0) a.1.1.1.1.1.0

-- the tests found no reason
module _ {o : Result ⊤ Reason} (us vs : List Float) (t : Float) (m : Lent) (told : o ≡ Ok tt)
    (tested : of_outcome o ≡ verdict (thin_reason us vs t (length m.out) (length m.floats) (length m.words)) (first_off_grid us vs)) where
  pub no_reason : thin_reason us vs t (length m.out) (length m.floats) (length m.words) ≡ 0
  no_reason = accepted (thin_reason us vs t (length m.out) (length m.floats) (length m.words)) (first_off_grid us vs) (as_told told tested)

  pub thin_accepted : Ready us vs t m
  thin_accepted = thin_ready us vs t m no_reason
