-- `remove_repeated_points::list_new` meets its contract. The invariant: the new points below i are listed. Assumes nothing.
use mathlib.Core.Path.{sym, ◌∙◌}
use native.Mathlib.Omega.{arith}
use Rattle.remove_repeated_points.proofs.News.{none_yet, listed_new, listed_old}
use Rattle.remove_repeated_points.proofs.list_new.Goals as goal
use Rattle.remove_repeated_points.proofs.list_new.Goals.{then-is_new, else-is_new}

pub loop-i-init : goal.loop-i-init
loop-i-init c = (omega arith, none_yet)

pub loop-i-preserved : goal.loop-i-preserved
loop-i-preserved c =
    let l = c.loop-i.invariant.1 in
    elim c.if-is_new.branch [
      | then-is_new w ↦ (omega (arith, w.kept-is), rw (w.kept-is, w.out-is) (listed_new l (sym c.is_new.ensures ∙ w.if-is_new.true) (omega arith)))
      | else-is_new w ↦ (omega (arith, w.kept-is), rw (w.kept-is, w.out-is) (listed_old l (sym c.is_new.ensures ∙ w.if-is_new.false)))
    ]
