-- `simplify_vw::remove_all` meets its contract. The invariant: the memory has what the rule leaves after so many removals. Assumes nothing.
use mathlib.Core.Path.{refl}
use Rattle.thin.proofs.Removing.{room_as}
use Rattle.simplify_vw.proofs.Running.{run_start, run_whole, run_turn, run_finished, run_end}
use Rattle.simplify_vw.proofs.remove_all.Goals as goal

pub loop-init : goal.loop-init
loop-init c = run_start c.link.ensures c.seed-len.ensures

pub returns-then-is_none : goal.returns-then-is_none
returns-then-is_none c =
    run_whole c.link.ensures c.seed-len.ensures (room_as refl c.link.auto.words c.requires.0)
    (run_finished c.loop.invariant c.step.result c.if-is_none.ensures c.step.ensures)

pub loop-preserved : goal.loop-preserved
loop-preserved c =
    run_turn c.loop.invariant c.step.result c.if-is_none.ensures c.step.auto.floats c.step.auto.words c.step.ensures

pub returns : goal.returns
returns c =
    run_whole c.link.ensures c.seed-len.ensures (room_as refl c.link.auto.words c.requires.0)
    (run_end c.loop.invariant c.loop-test.false)
