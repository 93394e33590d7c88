-- `heap::pop` meets its contract. Assumes nothing.
use mathlib.Core.Path.{sym, ◌∙◌}
use Rattle.heap.proofs.Sinking.{down_start, down_turn, down_end, down_stop, down_rest}
use Rattle.heap.proofs.pop.Goals as goal
use Rattle.heap.proofs.pop.Goals.{else-loop-j-test, then-loop-j-test+then-not-sooner}

pub loop-j-init : goal.loop-j-init
loop-j-init c = down_start c.requires c.load-s.ensures

pub loop-j-preserved : goal.loop-j-preserved
loop-j-preserved c =
    down_turn c.loop-j.invariant c.first_of-i.ensures c.load-e.ensures
    (sym c.sooner.ensures ∙ c.if-not-sooner.false) c.store.ensures

pub returns : goal.returns
returns c =
    let u = c.loop-j.invariant in
    down_rest u c.load-top.ensures
    (elim c.loop-j-test.branch [
      | else-loop-j-test w ↦ down_end u w.loop-j-test.false
      | then-loop-j-test+then-not-sooner w ↦ down_stop u w.first_of-i.ensures w.load-e.ensures (sym w.sooner.ensures ∙ w.if-not-sooner.true)
    ])
    c.store-2.ensures
