-- `heap::push` meets its contract. Assumes nothing.
use mathlib.Core.Path.{sym, ◌∙◌}
use Rattle.heap.proofs.Rising.{up_start, up_turn, up_end, up_stop, up_rest}
use Rattle.heap.proofs.push.Goals as goal
use Rattle.heap.proofs.push.Goals.{else-loop-j-test, then-loop-j-test+then-not-sooner}

pub loop-j-init : goal.loop-j-init
loop-j-init c = up_start _ c.requires

pub loop-j-preserved : goal.loop-j-preserved
loop-j-preserved c =
    up_turn c.loop-j.invariant c.loop-j-test.true c.load-e.ensures
    (sym c.sooner.ensures ∙ c.if-not-sooner.false) c.store.ensures

pub returns : goal.returns
returns c =
    let u = c.loop-j.invariant in
    up_rest u
    (elim c.loop-j-test.branch [
      | else-loop-j-test w ↦ up_end u w.loop-j-test.false
      | then-loop-j-test+then-not-sooner w ↦ up_stop u w.load-e.ensures (sym w.sooner.ensures ∙ w.if-not-sooner.true)
    ])
    c.store-2.ensures
