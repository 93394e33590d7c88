-- `thin::pick` meets its contract. Assumes nothing.
use Rattle.thin.proofs.PickTurns.{pick_turn, pick_empty, pick_above, pick_found}
use Rattle.thin.proofs.pick.Goals as goal

pub returns-then-alive-above : goal.returns-then-alive-above
returns-then-alive-above c =
    pick_above c.loop-len.invariant c.loop-len-test.true c.load-top.ensures c.live-alive.ensures _ c.above.ensures c.if-alive-above.true

pub returns-then-alive : goal.returns-then-alive
returns-then-alive c =
    pick_found c.loop-len.invariant c.loop-len-test.true c.load-top.ensures c.live-alive.ensures _ c.above.ensures
    c.if-alive.true c.if-alive-above.false c.pop.ensures

pub loop-len-preserved : goal.loop-len-preserved
loop-len-preserved c =
    pick_turn c.loop-len.invariant c.loop-len-test.true c.load-top.ensures c.live-alive.ensures
    c.pop.ensures c.if-alive.false c.pop.auto.floats c.pop.auto.words

pub returns : goal.returns
returns c = pick_empty c.loop-len.invariant _ c.loop-len-test.false
